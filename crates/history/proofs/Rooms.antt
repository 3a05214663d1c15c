-- There is room for every tick that is accepted. Assumes nothing.
use Rattle.std.proofs.Common.{◌≡◌, ℕ, ◌+◌, ◌*◌, ◌<◌, ◌≤◌, Bool, true, false, cond, List, Ok, Err, refl, ap, ◌∙◌, arith, ltb-true}
use Rattle.std.proofs.lemmas.Bool.{cond-true}
use Rattle.board.specs.Held.{Inputs}
use Rattle.board.specs.declared.refusal.Refusal.{Refusal}
use Rattle.board.specs.declared.status.Output.{Output}
use Rattle.door.specs.declared.row.Row.{Row}
use Rattle.history.specs.Kept.{kept, Room}
use Rattle.history.specs.Views.{View, doors_of, row_at}
use Rattle.history.specs.Ticks.{doors_stepped, doors_driven, begun, fits, is_before_last, begun_if, told_if, tick_answer, tick_after, tick_memory}
use Rattle.history.proofs.Rows.{kept_tenths}
use Rattle.history.proofs.Ticks.{stepped_doors, stepped_tenth, stepped_next, stepped_row}

-- before the step of door i
module _ (v w : View) (i : ℕ) (room : Room v) (e : w ≡ doors_stepped i v) (here : i < doors_of v) where
  pub step_here : i < w.board.doors
  step_here =
      let a = stepped_doors i v in
      let b : w.board.doors ≡ (doors_stepped i v).board.doors = ap (λ (x : View). x.board.doors) e in
      omega arith

  tenth_is : w.tenth ≡ v.tenth
  tenth_is = ap (λ (x : View). x.tenth) e ∙ stepped_tenth i v

  pub step_released : (row_at w i).released_tenths < w.tenth
  step_released =
      let a = room.released i here in
      let t = tenth_is in
      let r : (row_at w i).released_tenths ≡ (row_at v i).released_tenths = ap (λ (x : View). (row_at x i).released_tenths) e ∙ ap (λ (x : Row). x.released_tenths) (stepped_row i v i (omega arith)) in
      omega arith

  pub step_last : w.tenth ≤ 2000000000
  step_last = let t = tenth_is in let l = room.last in omega arith

  pub step_serials : doors_of v ≤ 64 → w.notices.next ≤ 64 * w.tenth
  step_serials few =
      let t = tenth_is in
      let n : w.notices.next ≡ (doors_stepped i v).notices.next = ap (λ (x : View). x.notices.next) e in
      let a = stepped_next i v in
      let s = room.serials in
      omega arith

tested : (a b : Bool) (x y : Refusal) (u : Unit {0}) → Ok u ≡ cond a (cond b (Ok tt) (Err x)) (Err y) → (a ≡ true) × (b ≡ true)
tested true true x y u e = (refl, refl)
tested true false x y u e = let z : ◌≡◌ {A = ℕ} 0 1 = cc in absurd (omega arith)
tested false b x y u e = let z : ◌≡◌ {A = ℕ} 0 1 = cc in absurd (omega arith)

kept_or : {X : Type 0} (a b : Bool) (u : Unit {0}) (x y r : Refusal) (new old : X) → Err r ≡ cond a (cond b (Ok u) (Err x)) (Err y) → cond a (cond b new old) old ≡ old
kept_or true true u x y r new old e = let z : ◌≡◌ {A = ℕ} 0 1 = cc in absurd (omega arith)
kept_or true false u x y r new old e = refl
kept_or false b u x y r new old e = refl

module _ (v : View) (ins : Inputs) (bs : List ℕ) where
  -- a refused tick changes nothing
  module _ (r : Refusal) (e : Err r ≡ tick_answer v bs) where
    pub refused_begun : begun_if v ins bs ≡ v
    refused_begun = kept_or (fits v bs) (is_before_last v) tt _ _ r (begun v ins) v e

    pub refused_after : tick_after v ins bs ≡ v
    unfolding tick_after
    refused_after = kept_or (fits v bs) (is_before_last v) tt _ _ r (doors_stepped (doors_of v) (begun v ins)) v e

    pub refused_told : {M : Type 0} (told m : M) → told_if v bs told m ≡ m
    refused_told told m = kept_or (fits v bs) (is_before_last v) tt _ _ r told m e

    pub refused_memory : {M : Type 0} (driven : M → ℕ → Output → M) (told m : M) → tick_memory driven v ins bs told m ≡ m
    unfolding tick_memory
    refused_memory driven told m = kept_or (fits v bs) (is_before_last v) tt _ _ r (doors_driven driven (doors_of v) (begun v ins) told) m e

  -- an accepted one goes through all doors
  module _ (u : Unit {0}) (e : Ok u ≡ tick_answer v bs) where
    fit : fits v bs ≡ true
    fit = (tested (fits v bs) (is_before_last v) _ _ u e).0

    soon : is_before_last v ≡ true
    soon = (tested (fits v bs) (is_before_last v) _ _ u e).1

    pub begun_is : begun_if v ins bs ≡ begun v ins
    begun_is = cond-true _ _ _ fit ∙ cond-true _ _ _ soon

    pub told_is : {M : Type 0} (told m : M) → told_if v bs told m ≡ told
    told_is told m = cond-true _ _ _ fit ∙ cond-true _ _ _ soon

    pub after_is : tick_after v ins bs ≡ doors_stepped (doors_of v) (begun v ins)
    unfolding tick_after
    after_is = cond-true _ _ _ fit ∙ cond-true _ _ _ soon

    pub memory_is : {M : Type 0} (driven : M → ℕ → Output → M) (told m : M) → tick_memory driven v ins bs told m ≡ doors_driven driven (doors_of v) (begun v ins) told
    unfolding tick_memory
    memory_is driven told m = cond-true _ _ _ fit ∙ cond-true _ _ _ soon

    -- where every row is kept, and serials were raised for no more than a notice a door and tenth
    pub begun_room : ((d : ℕ) → d < doors_of v → kept v.tenth (row_at v d) ≡ true) → v.notices.next ≤ 64 * v.tenth + 1 → Room (begun v ins)
    begun_room kept-all serials = record {
      released = λ d l. (let a = kept_tenths v.tenth (row_at v d) (kept-all d l) in omega arith);
      last = (let a = ltb-true v.tenth 2000000000 soon in omega arith);
      serials = omega arith;
    }
