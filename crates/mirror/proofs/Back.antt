-- Reading back what was written, field by field. Assumes nothing.
use Rattle.std.proofs.Common.{◌≡◌, ℕ, ◌+◌, Bool, cond, not, eqb, List, ◌∷◌, ◌++◌, get_or, take, drop, length, is_some, Some, None, Option, sym, ap, ◌∙◌, append_assoc, arith}
use lib.Bits.{bit_and}
use Rattle.std.proofs.lemmas.List.{get_or-drop, drop-drop, take_at, drop_at}
use Rattle.std.proofs.lemmas.Bool.{cond-true, cond-false}
use Rattle.report.specs.declared.fields.Fields.{Fields}
use Rattle.report.specs.Fields.{one_byte, four_bytes, of_one_byte, of_four_bytes, field_bytes, map_of, width, record_size}
use Rattle.report.specs.Writing.{encoded}
use Rattle.mirror.specs.Reading.{field_width, fields_width, fields_size, field_at, fields_read, rest_1, rest_2, rest_3, rest_4, rest_5, rest_6, rest_7}
use Rattle.mirror.proofs.Bits.{stands}
use Rattle.report.specs.contracts.value.U8FieldValue1.TheImpl.Laws as one
use Rattle.report.specs.contracts.value.U32FieldValue4.TheImpl.Laws as four

-- what stands at p, and what follows it
pub at_place : (bs : List ℕ) (p v : ℕ) (rest : List ℕ) → drop p bs ≡ v ∷ rest → (get_or bs p 0 ≡ v) × (drop (p + 1) bs ≡ rest)
at_place bs p v rest e =
    let z : p + 0 ≡ p = omega arith in (
      ap (λ i. get_or bs i 0) (sym z) ∙ sym (get_or-drop p bs 0 0) ∙ ap (λ l. get_or l 0 0) e,
      sym (drop-drop 1 p bs) ∙ ap (drop 1) e,
    )

-- a field at the front of the bytes, whose value takes n bytes and is what they say
field_back : (n : ℕ) (bytes : ℕ → List ℕ) (value : List ℕ → ℕ) → ((v : ℕ) → length (bytes v) ≡ n) → ((v : ℕ) → value (bytes v) ≡ v) → (map bit : ℕ) (o : Option ℕ) (bs rest : List ℕ) → eqb (bit_and map bit) 0 ≡ not (is_some o) → bs ≡ field_bytes bytes o ++ rest → (field_at n value map bit bs ≡ o) × (drop (field_width n map bit) bs ≡ rest)
field_back n bytes value l k map bit None bs rest e d = (cond-true _ _ _ e, ap (λ w. drop w bs) (cond-true _ _ _ e) ∙ d)
field_back n bytes value l k map bit (Some v) bs rest e d = (
  cond-false _ _ _ e ∙ ap (λ x. Some (value x)) (ap (take n) d ∙ take_at (bytes v) rest n (l v)) ∙ ap Some (k v),
  ap (λ w. drop w bs) (cond-false _ _ _ e) ∙ ap (drop n) d ∙ drop_at (bytes v) rest n (l v),
)

abbrev byte_back : (map bit : ℕ) (o : Option ℕ) (bs rest : List ℕ) → eqb (bit_and map bit) 0 ≡ not (is_some o) → bs ≡ field_bytes one_byte o ++ rest → (field_at 1 of_one_byte map bit bs ≡ o) × (drop (field_width 1 map bit) bs ≡ rest)
byte_back = field_back 1 one_byte of_one_byte one.length_bytes-law one.read_back-law

-- the bytes of a record, one part behind the other
regrouped : (d : ℕ) (f : Fields) (rest : List ℕ) → encoded d f ++ rest ≡ map_of f ∷ d ∷ (field_bytes one_byte f.present_value ++ (field_bytes one_byte f.status_flags ++ (field_bytes one_byte f.door_alarm_state ++ (field_bytes one_byte f.door_status ++ (field_bytes one_byte f.lock_status ++ (field_bytes one_byte f.secured_status ++ (field_bytes one_byte f.output ++ (field_bytes four_bytes f.released_tenths ++ rest))))))))
unfolding encoded
regrouped d f rest = simp append_assoc

abbrev fields_of : Option ℕ → Option ℕ → Option ℕ → Option ℕ → Option ℕ → Option ℕ → Option ℕ → Option ℕ → Fields
fields_of a b c d e g h i = record { present_value = a; status_flags = b; door_alarm_state = c; door_status = d; lock_status = e; secured_status = g; output = h; released_tenths = i }

same_fields : (a b c d e g h i a' b' c' d' e' g' h' i' : Option ℕ) → a ≡ a' → b ≡ b' → c ≡ c' → d ≡ d' → e ≡ e' → g ≡ g' → h ≡ h' → i ≡ i' → fields_of a b c d e g h i ≡ fields_of a' b' c' d' e' g' h' i'
same_fields a b c d e g h i a' b' c' d' e' g' h' i' p q r s t u v w = cc

pub record Back (bs : List ℕ) (p d : ℕ) (f : Fields) (rest : List ℕ) : Type 0 where
  pub map : get_or bs p 0 ≡ map_of f
  pub door : get_or bs (p + 1) 0 ≡ d
  pub fields : fields_read (map_of f) (drop (p + 2) bs) ≡ f
  pub next : drop (p + 2 + fields_size (map_of f)) bs ≡ rest

-- a record that stands at p is read back whole
pub record_back : (d : ℕ) (f : Fields) (bs : List ℕ) (p : ℕ) (rest : List ℕ) → drop p bs ≡ encoded d f ++ rest → Back bs p d f rest
unfolding fields_read fields_size
record_back d f bs p rest e =
    let m = map_of f in
    let h = at_place bs p _ _ (e ∙ regrouped d f rest) in
    let k = at_place bs (p + 1) _ _ h.1 in
    let two : p + 1 + 1 ≡ p + 2 = omega arith in
    let bs' = drop (p + 2) bs in
    let r0 = byte_back m 1 f.present_value bs' _ (stands f 0) (ap (λ i. drop i bs) (sym two) ∙ k.1) in
    let r1 = byte_back m 2 f.status_flags (rest_1 m bs') _ (stands f 1) r0.1 in
    let r2 = byte_back m 4 f.door_alarm_state (rest_2 m bs') _ (stands f 2) r1.1 in
    let r3 = byte_back m 8 f.door_status (rest_3 m bs') _ (stands f 3) r2.1 in
    let r4 = byte_back m 16 f.lock_status (rest_4 m bs') _ (stands f 4) r3.1 in
    let r5 = byte_back m 32 f.secured_status (rest_5 m bs') _ (stands f 5) r4.1 in
    let r6 = byte_back m 64 f.output (rest_6 m bs') _ (stands f 6) r5.1 in
    let r7 = field_back 4 four_bytes of_four_bytes four.length_bytes-law four.read_back-law m 128 f.released_tenths (rest_7 m bs') _ (stands f 7) r6.1 in
    let whole : drop (field_width 4 m 128) (rest_7 m bs') ≡ drop (p + 2 + fields_width m) bs = simp drop-drop (ap (λ i. drop i bs) (omega arith)) in
    record {
      map = h.0;
      door = k.0;
      fields = same_fields _ _ _ _ _ _ _ _ _ _ _ _ _ _ _ _ r0.0 r1.0 r2.0 r3.0 r4.0 r5.0 r6.0 r7.0;
      next = sym whole ∙ r7.1;
    }

width_is : (n : ℕ) (t : Bool) (o : Option ℕ) → t ≡ not (is_some o) → cond t 0 n ≡ width n o
width_is n t None e = cond-true _ _ _ e
width_is n t (Some v) e = cond-false _ _ _ e

-- the reader takes a record for as long as the writer made it
pub size_back : (f : Fields) → 2 + fields_size (map_of f) ≡ record_size f
unfolding fields_size
size_back f =
    let m = map_of f in
    let w0 = width_is 1 _ f.present_value (stands f 0) in
    let w1 = width_is 1 _ f.status_flags (stands f 1) in
    let w2 = width_is 1 _ f.door_alarm_state (stands f 2) in
    let w3 = width_is 1 _ f.door_status (stands f 3) in
    let w4 = width_is 1 _ f.lock_status (stands f 4) in
    let w5 = width_is 1 _ f.secured_status (stands f 5) in
    let w6 = width_is 1 _ f.output (stands f 6) in
    let w7 = width_is 4 _ f.released_tenths (stands f 7) in
    omega arith
