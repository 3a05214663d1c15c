-- The round trip: reading what was written, record by record. Assumes nothing.
use Rattle.std.proofs.Common.{◌≡◌, ℕ, zero, suc, ◌+◌, ◌<◌, ◌≤◌, Bool, true, false, cond, eqb, leb, List, [], ◌∷◌, ◌++◌, length, get_or, take, drop, set, Some, Ok, sym, refl, ap, ◌∙◌, subst, append_assoc, append-nil, arith}
use Rattle.std.proofs.lemmas.Bool.{cond-true, cond-false, eqb-true, lt-leb, le-ltb, or_from, not_from_true}
use Rattle.std.proofs.lemmas.List.{take_more, drop_more, length-drop, length-append, length-take-le, set_at, get_or_at, take_all, drop_all}
use Rattle.std.specs.List.{range_with_len, flat_map}
use Rattle.door.specs.declared.shown.ReportRow.{ReportRow}
use Rattle.report.specs.declared.fields.Fields.{Fields}
use Rattle.report.specs.Fields.{map_of}
use Rattle.report.specs.Writing.{encoded, bytes_of_door, door_fields, no_report_row}
use Rattle.mirror.specs.declared.record.Record.{Record}
use Rattle.mirror.specs.Apply.{applied, apply_answer, mirror_after, is_bad}
use Rattle.mirror.specs.Record.{fields_in_range}
use Rattle.mirror.specs.Reading.{next_answer, place_after, fields_size, fields_read, record_at}
use Rattle.mirror.specs.Mirrored.{Mirrors, records_from}
use Rattle.mirror.specs.Mirrored.Mirrors.{ended, applied_one}
use Rattle.mirror.specs.Ranges.{InRange}
use Rattle.report.proofs.Records.{length-encoded}
use Rattle.mirror.proofs.Back.{Back, record_back, size_back}
use Rattle.mirror.proofs.Changed.{applied-between, same_between}
use Rattle.mirror.proofs.Within.{between_in_range}

-- the mirror when the doors below d have been told of
abbrev pub mixed : List ReportRow → List ReportRow → ℕ → List ReportRow
mixed last rows d = take d rows ++ drop d last

module _ (last rows : List ReportRow) (d : ℕ) (hl : d < length last) (hr : d < length rows) where
  abbrev old : ReportRow
  old = get_or last d no_report_row

  abbrev new : ReportRow
  new = get_or rows d no_report_row

  split : mixed last rows d ≡ take d rows ++ (old ∷ drop (d + 1) last)
  split = ap (λ x. take d rows ++ x) (drop_more last d no_report_row hl)

  front : length (take d rows) ≡ d
  front = length-take-le d rows (omega arith)

  pub row_here : get_or (mixed last rows d) d no_report_row ≡ old
  row_here = ap (λ x. get_or x d no_report_row) split ∙ get_or_at (take d rows) old (drop (d + 1) last) no_report_row d front

  next_mixed : take d rows ++ (new ∷ drop (d + 1) last) ≡ mixed last rows (d + 1)
  next_mixed = sym (ap (λ x. x ++ drop (d + 1) last) (take_more rows d no_report_row hr) ∙ append_assoc (take d rows) (new ∷ []) (drop (d + 1) last))

  -- the row of door d becomes the new one
  pub set_here : set (mixed last rows d) d new ≡ mixed last rows (d + 1)
  set_here = ap (λ x. set x d new) split ∙ set_at (take d rows) old (drop (d + 1) last) new d front ∙ next_mixed

  pub same_here : old ≡ new → mixed last rows d ≡ mixed last rows (d + 1)
  same_here e = split ∙ ap (λ x. take d rows ++ (x ∷ drop (d + 1) last)) e ∙ next_mixed

  pub length_mixed : length (mixed last rows d) ≡ length last
  length_mixed = length-append (take d rows) (drop d last) ∙ (let a = front in let b = length-drop d last in omega arith)

-- a record that was written at p is the next one read, and applying it is accepted
module _ (bs : List ℕ) (p d n : ℕ) (f : Fields) (rest : List ℕ) (back : Back bs p d f rest) (some : eqb (map_of f) 0 ≡ false) (inside : d < n) (within : fields_in_range f ≡ true) (whole : p + 2 + fields_size (map_of f) ≤ length bs) where
  abbrev r : Record
  r = record { offset = p; door = d; fields = f }

  at_is : record_at bs p ≡ r
  at_is = ap (λ (x : ℕ). record { offset = p; door = x; fields = fields_read (get_or bs p 0) (drop (p + 2) bs) }) back.door ∙ ap (λ (x : ℕ). record { offset = p; door = d; fields = fields_read x (drop (p + 2) bs) }) back.map ∙ ap (λ (x : Fields). record { offset = p; door = d; fields = x }) back.fields

  fits : p + 2 + fields_size (get_or bs p 0) ≤ length bs
  fits = rw back.map whole

  pub read_is : next_answer bs p n ≡ Ok (Some r)
  read_is =
      cond-false _ _ _ (lt-leb (length bs) p (omega arith))
      ∙ cond-false _ _ _ (le-ltb (length bs) (p + 2) (omega arith))
      ∙ cond-false _ _ _ (le-ltb (length bs) (p + 2 + fields_size (get_or bs p 0)) fits)
      ∙ cond-false _ _ _ (ap (λ x. eqb x 0) back.map ∙ some)
      ∙ cond-false _ _ _ (ap (leb n) back.door ∙ lt-leb n d inside)
      ∙ cond-true _ _ _ (ap (λ (x : Record). fields_in_range x.fields) at_is ∙ within)
      ∙ ap (λ x. Ok (Some x)) at_is

  pub good : is_bad n r ≡ false
  good = or_from _ _ (lt-leb n d inside) (not_from_true _ within)

  pub apply_is : apply_answer n r ≡ Ok tt
  apply_is = cond-false _ _ _ good

  pub after_is : place_after (Ok (Some r)) bs p ≡ p + 2 + fields_size (map_of f)
  after_is = ap (λ x. p + 2 + fields_size x) back.map

module _ (last rows : List ReportRow) (bs : List ℕ) (same : length last ≡ length rows) (ok : InRange rows) where
  abbrev tail : ℕ → ℕ → List ℕ
  tail d k = flat_map (bytes_of_door last rows) (range_with_len d k)

  abbrev Trip : ℕ → ℕ → ℕ → Type 0
  Trip d k p = Mirrors bs p (mixed last rows d) (records_from last rows d k) rows

  at_end : (d p : ℕ) → d ≡ length rows → drop p bs ≡ [] → Mirrors bs p (mixed last rows d) 0 rows
  at_end d p e h =
      let short : length bs ≤ p = (let l = length-drop p bs in let z : length (drop p bs) ≡ 0 = ap length h in omega arith) in
      let whole : mixed last rows d ≡ rows =
      ap (λ x. x ++ drop d last) (take_all d rows (omega arith)) ∙ ap (λ x. rows ++ x) (drop_all d last (omega arith)) ∙ append-nil rows in
      subst (λ (w : List ReportRow). Mirrors bs p w 0 rows) (sym whole) (ended short)

  one_door : (b : Bool) (d k p : ℕ) → eqb (map_of (door_fields last rows d)) 0 ≡ b → d < length rows → drop p bs ≡ cond b [] (encoded d (door_fields last rows d)) ++ tail (d + 1) k → ((q : ℕ) → drop q bs ≡ tail (d + 1) k → Trip (d + 1) k q) → Mirrors bs p (mixed last rows d) (cond b 0 1 + records_from last rows (d + 1) k) rows
  one_door true d k p e h w next =
      let here = same_here last rows d (omega arith) h (same_between (get_or last d no_report_row) (get_or rows d no_report_row) (eqb-true _ _ e)) in
      let n : 0 + records_from last rows (d + 1) k ≡ records_from last rows (d + 1) k = omega arith in
      subst (λ (x : ℕ). Mirrors bs p (mixed last rows d) x rows) (sym n)
      (subst (λ (x : List ReportRow). Mirrors bs p x (records_from last rows (d + 1) k) rows) (sym here) (next p w))
  one_door false d k p e h w next =
      let old = get_or last d no_report_row in
      let new = get_or rows d no_report_row in
      let f = door_fields last rows d in
      let range = ok d h in
      let back = record_back d f bs p (tail (d + 1) k) w in
      let size = size_back f in
      let long = ap length w ∙ length-append (encoded d f) (tail (d + 1) k) in
      let enc = length-encoded d f in
      let dr = length-drop p bs in
      let whole : p + 2 + fields_size (map_of f) ≤ length bs = omega arith in
      let ws = mixed last rows d in
      let len = length_mixed last rows d (omega arith) h in
      let inside : d < length ws = omega arith in
      let within = between_in_range old new range in
      let n : 1 + records_from last rows (d + 1) k ≡ suc (records_from last rows (d + 1) k) = omega arith in
      let at = after_is bs p d (length ws) f (tail (d + 1) k) back e inside within whole in
      let set_to : mirror_after ws (record { offset = p; door = d; fields = f }) ≡ mixed last rows (d + 1) =
      cond-false _ _ _ (good bs p d (length ws) f (tail (d + 1) k) back e inside within whole)
      ∙ ap (λ (x : ReportRow). set ws d (applied x f)) (row_here last rows d (omega arith) h)
      ∙ ap (set ws d) (applied-between old new)
      ∙ set_here last rows d (omega arith) h in
      let rest = next (p + 2 + fields_size (map_of f)) back.next in
      subst (λ (x : ℕ). Mirrors bs p ws x rows) (sym n)
      (applied_one (record { offset = p; door = d; fields = f })
      (read_is bs p d (length ws) f (tail (d + 1) k) back e inside within whole)
      (apply_is bs p d (length ws) f (tail (d + 1) k) back e inside within whole)
      (subst (λ (x : ℕ). Mirrors bs x (mirror_after ws (record { offset = p; door = d; fields = f })) (records_from last rows (d + 1) k) rows) (sym at)
      (subst (λ (x : List ReportRow). Mirrors bs (p + 2 + fields_size (map_of f)) x (records_from last rows (d + 1) k) rows) (sym set_to) rest)))

  pub trip : (k d p : ℕ) → d + k ≡ length rows → drop p bs ≡ tail d k → Trip d k p
  trip zero d p e h = at_end d p (omega arith) h
  trip (suc k) d p e h = one_door (eqb (map_of (door_fields last rows d)) 0) d k p refl (omega arith) h (λ q w. trip k (d + 1) q (omega arith) w)
