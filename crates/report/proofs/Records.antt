-- How long the bytes of a record are. Assumes nothing.
use Rattle.std.proofs.Common.{Iter, Bor, ◌≡◌, ℕ, zero, suc, ◌+◌, ◌-◌, ◌<◌, ◌≤◌, Bool, true, false, cond, eqb, List, [], ◌++◌, length, get_or, take, Some, None, Option, sym, refl, ap, ◌∙◌, arith, length-append}
use Rattle.std.specs.List.{range_with_len, zip, sum_by}
use Rattle.std.proofs.lemmas.List.Sums.{sum_by_more}
use Rattle.std.proofs.lemmas.Slice.Zip.{length-zip, get_or-zip}
use Rattle.std.proofs.lemmas.List.{get_or_default, take_all}
use Rattle.std.proofs.lemmas.List.FromFn.{length-range_with_len, get_or-range_with_len}
use Rattle.std.specs.declared.iter.Zip.{Zip}
use Rattle.std.specs.declared.ops.Range.{Range}
use Rattle.std.specs.Iterator.Adapters.{zip_first, zip_second}
use Rattle.std.specs.Slice.Iter.{iter_rest}
use Rattle.std.proofs.iter.Yields.{fronts, nat_range_steps}
use Rattle.std.proofs.lemmas.Iterator.{YieldsList, zips, YieldsList-from_range, YieldsList-from_slice, YieldsList-from_zip}
use Rattle.std.proofs.lemmas.Iterator.Consumers.{YieldsList-turn}
use Rattle.std.specs.Iterator.{Yields}
use Rattle.board.proofs.Filled.{one_piece_more}
use Rattle.door.specs.declared.shown.ReportRow.{ReportRow}
use Rattle.report.specs.declared.fields.Fields.{Fields}
use Rattle.report.specs.Fields.{fields_between, width, record_size, map_of, one_byte, four_bytes, field_bytes}
use Rattle.report.specs.Writing.{no_report_row, encoded, door_bytes, door_size, door_fields, bytes_of_door, report_below, report_bytes, doors_in}

pub length_field : {V : Type 0} (bytes : V → List ℕ) (n : ℕ) → ((v : V) → length (bytes v) ≡ n) → (o : Option V) → length (field_bytes bytes o) ≡ width n o
length_field bytes n l (Some v) = l v
length_field bytes n l None = refl

pub length_one : (o : Option ℕ) → length (field_bytes one_byte o) ≡ width 1 o
length_one o = length_field one_byte 1 (λ v. refl) o

pub length_four : (o : Option ℕ) → length (field_bytes four_bytes o) ≡ width 4 o
length_four o = length_field four_bytes 4 (λ v. refl) o

pub length-encoded : (d : ℕ) (f : Fields) → length (encoded d f) ≡ record_size f
unfolding encoded
length-encoded d f = simp (length-append, length_one, length_four) (omega arith)

door_length : (b : Bool) (d : ℕ) (f : Fields) → length (cond b [] (encoded d f)) ≡ cond b 0 (record_size f)
door_length true d f = refl
door_length false d f = length-encoded d f

pub length_door : (d : ℕ) (f : Fields) → length (door_bytes d f) ≡ door_size f
length_door d f = door_length (eqb (map_of f) 0) d f

-- a door of a report, with its row last reported and its row
abbrev pub Told : Type 0
Told = ℕ × (ReportRow × ReportRow)

abbrev pub size_told : Told → ℕ
size_told x = door_size (fields_between x.1.0 x.1.1)

module _ (last rows : List ReportRow) where
  -- one door more
  pub below_more : (n : ℕ) → report_below last rows (n + 1) ≡ report_below last rows n ++ bytes_of_door last rows n
  unfolding report_below
  below_more n = one_piece_more (bytes_of_door last rows) n

  pub length_more : (n : ℕ) → length (report_below last rows (n + 1)) ≡ length (report_below last rows n) + door_size (door_fields last rows n)
  length_more n =
      ap length (below_more n) ∙ length-append (report_below last rows n) (bytes_of_door last rows n)
      ∙ ap (λ x. length (report_below last rows n) + x) (length_door n (door_fields last rows n))

  pub below_none : report_below last rows 0 ≡ []
  unfolding report_below
  below_none = refl

  later : (n k : ℕ) → length (report_below last rows n) ≤ length (report_below last rows (n + k))
  later n zero = let e : n + 0 ≡ n = omega arith in rw e (omega arith)
  later n (suc k) =
      let h = later n k in
      let e : n + suc k ≡ (n + k) + 1 = omega arith in
      let m = length_more (n + k) in
      rw e (omega arith)

  -- a report of fewer doors is no longer
  pub length_mono : (n m : ℕ) → n ≤ m → length (report_below last rows n) ≤ length (report_below last rows m)
  length_mono n m h = let e : n + (m - n) ≡ m = omega arith in let l = later n (m - n) in rw (sym e) l

  -- the record of door n fits where the whole report does
  pub fits : (n m len : ℕ) → n < m → length (report_below last rows m) ≤ len → length (report_below last rows n) + door_size (door_fields last rows n) ≤ len
  fits n m len h l =
      let more = length_more n in
      let mono = length_mono (n + 1) m (omega arith) in
      omega arith

  -- the doors that a report tells of
  abbrev pub told : List Told
  told = zip (range_with_len 0 64) (zip last rows)

  -- an iterator over them
  abbrev pub Doors : Zip (Range ℕ) (Zip (Iter ReportRow) (Iter ReportRow)) → Type 0
  Doors s = (zip_first s ≡ record { start = 0; end = 64 }) × (iter_rest (zip_first (zip_second s)) ≡ last) × (iter_rest (zip_second (zip_second s)) ≡ rows)

  -- the iterator over them yields them
  pub yields_told : {s : Zip (Range ℕ) (Zip (Iter ReportRow) (Iter ReportRow))} → zip_first s ≡ record { start = 0; end = 64 } → iter_rest (zip_first (zip_second s)) ≡ last → iter_rest (zip_second (zip_second s)) ≡ rows → YieldsList (zips nat_range_steps (zips fronts fronts)) (λ x. (x.0, (x.1.0.now, x.1.1.now))) s told
  yields_told d l r = YieldsList-from_zip (YieldsList-from_range 0 64 64 d refl) (YieldsList-from_zip (YieldsList-from_slice last l) (YieldsList-from_slice rows r))

  pub length_told : length told ≡ doors_in last rows
  length_told = length-zip (range_with_len 0 64) (zip last rows) ∙ rw (length-zip, length-range_with_len) (omega arith)

  pub is_told : (n : ℕ) (x : Told) → n < length told → x ≡ get_or told n x → (x.0 ≡ n) × (fields_between x.1.0 x.1.1 ≡ door_fields last rows n)
  is_told n x h e =
      let len = length_told in
      let p = get_or-zip (range_with_len 0 64) (zip last rows) n x (rw length-range_with_len (omega arith)) (rw length-zip (omega arith)) in
      let q = get_or-zip last rows n x.1 (omega arith) (omega arith) in
      let a = get_or-range_with_len 0 64 n x.0 (omega arith) in
      let b = get_or_default last n x.1.0 no_report_row (omega arith) in
      let d = get_or_default rows n x.1.1 no_report_row (omega arith) in
      (ap (λ y. y.0) (e ∙ p) ∙ a ∙ omega arith, ap (λ y. fields_between y.1.0 y.1.1) (e ∙ p) ∙ ap (λ y. fields_between y.0 y.1) q ∙ ap (λ y. fields_between y (get_or rows n x.1.1)) b ∙ ap (fields_between (get_or last n no_report_row)) d)

  -- the record of the next door fits where the whole report does
  pub room_told : (n len : ℕ) (x : Told) → n < length told → x ≡ get_or told n x → length (report_bytes last rows) ≤ len → length (report_below last rows n) + size_told x ≤ len
  room_told n len x h e l =
      let room = fits n (doors_in last rows) len (rw length_told at h) l in
      let size : size_told x ≡ door_size (door_fields last rows n) = ap door_size (is_told n x h e).1 in
      omega arith

  -- a step of that iterator that gives a door, behind n others: the next door, and room for its record
  pub record TurnOf (n : ℕ) (x : Told) (len : ℕ) : Type 0 where
    pub door : x.0 ≡ n
    pub fields : fields_between x.1.0 x.1.1 ≡ door_fields last rows n
    pub room : length (report_below last rows n) + size_told x ≤ len

  pub turn_told : (s t u : Zip (Range ℕ) (Zip (Iter ReportRow) (Iter ReportRow))) {r : Option (ℕ × (Bor ReportRow × Bor ReportRow))} {x : ℕ × (Bor ReportRow × Bor ReportRow)} (len : ℕ) → Doors s → (xs : List (ℕ × (Bor ReportRow × Bor ReportRow))) → Yields (zips nat_range_steps (zips fronts fronts)) s xs t → r ≡ Some x → zips nat_range_steps (zips fronts fronts) t r u → length (report_bytes last rows) ≤ len → TurnOf (length xs) (x.0, (x.1.0.now, x.1.1.now)) len
  turn_told s t u {r} {x} len d xs y e k l =
      let turn = YieldsList-turn (yields_told d.0 d.1 d.2) xs t y r u x e k in
      let here = is_told (length xs) _ turn.0 turn.1 in
      record { door = here.0; fields = here.1; room = room_told (length xs) len _ turn.0 turn.1 l }

  sizes_below : (n : ℕ) → n ≤ length told → sum_by size_told (take n told) ≡ length (report_below last rows n)
  sizes_below zero l = sym (ap length below_none)
  sizes_below (suc n) l =
      let d : Told = (0, (no_report_row, no_report_row)) in
      let x = get_or told n d in
      let e : n + 1 ≡ suc n = omega arith in
      let inside : n < length told = omega arith in
      let here = ap door_size (is_told n x inside (get_or_default told n d x inside)).1 in
      rw (← e) (sum_by_more size_told told n d inside ∙ ap (λ y. y + size_told x) (sizes_below n (omega arith)) ∙ ap (λ y. length (report_below last rows n) + y) here ∙ sym (length_more n))

  pub sizes : sum_by size_told told ≡ length (report_bytes last rows)
  sizes = ap (sum_by size_told) (sym (take_all (length told) told (omega arith))) ∙ sizes_below (length told) (omega arith) ∙ ap (λ n. length (report_below last rows n)) length_told
