-- Calls on a door: what they keep of its row, and what they come to where there is such a door and where there is none. Assumes
-- nothing.
use Rattle.std.proofs.Common.{◌≡◌, ℕ, Bool, true, false, cond, ltb, Some, None, Ok, Err, Option, Result, sym, refl, ap, subst, arith}
use Rattle.std.proofs.lemmas.Bool.{cond-true, cond-false}
use Rattle.board.specs.declared.refusal.Cause.{Cause}
use Rattle.board.specs.declared.refusal.Cause.TheVariants.{NoSuchDoor}
use Rattle.board.specs.declared.status.Output.{Output}
use Rattle.slots.specs.Priority.{slot_answer}
use Rattle.events.specs.declared.event.Transition.{Transition}
use Rattle.events.specs.Event.{transition_numbered}
use Rattle.door_parts.specs.Settings.{set_item_answer}
use Rattle.door.specs.declared.door.Door.{Door}
use Rattle.door.specs.declared.row.Row.{Row}
use Rattle.door.specs.declared.simulated.Simulated.{Simulated}
use Rattle.door.specs.declared.simulated.Simulated.TheVariants as simulated
use Rattle.door.specs.Calls as door
use Rattle.door.specs.Simulated.{simulated_of, masks}
use Rattle.history.specs.Kept.{kept, MadeKept, Same}
use Rattle.history.specs.Views.{View, doors_of}
use Rattle.history.specs.DoorCalls.{refused_at, outcome, stored, stored_memory, call_answer, call_after, call_memory}
use Rattle.history.proofs.Rows.{kept_tenths, kept_bound, kept_from}

same_then : {X : Type 0} (r : Row) (x : Result X Cause) (f : X → Result Row Cause) → ((a : X) → Same r (f a)) → Same r (door.then x f)
same_then r (Ok a) f h = h a
same_then r (Err e) f h = tt

written_same : (r : Row) (x : Simulated) → Same r (door.done r (door.with_simulated r x))
written_same r (simulated.Door c) = refl
written_same r (simulated.Lock l) = refl
written_same r (simulated.Alarm a) = refl

masked_same : (r : Row) (x : Simulated) (b : Bool) (e : Cause) → Same r (cond b (Err e) (door.done r (door.with_simulated r x)))
masked_same r x true e = tt
masked_same r x false e = written_same r x

out_same : (r : Row) (x : Simulated) (o b : Bool) (e f : Cause) → Same r (cond o (cond b (Err e) (door.done r (door.with_simulated r x))) (Err f))
out_same r x true b e f = masked_same r x b e
out_same r x false b e f = tt

pub simulate_same : (r : Row) (i n : ℕ) → Same r (door.simulate_answer r i n)
simulate_same r i n = same_then r (simulated_of i n) _ (λ x. out_same r x r.out_of_service (masks r.settings x) _ _)

-- so a door that such a call made can be stored
pub stays_kept : (t : ℕ) (old r : Row) (o : Result Door Cause) (x : Result Row Cause) → kept t old ≡ true → r ≡ old → door.row_of o ≡ x → Same r x → MadeKept t (door.row_of o)
stays_kept t old r (Err e) x k q h s = tt
stays_kept t old r (Ok d) x k q h s =
    let same : Same r (Ok d.row) = subst (Same r) (sym h) s in
    let a = kept_tenths t old k in
    let b = kept_bound t old k in
    let e : r.released_tenths ≡ old.released_tenths = ap (λ (y : Row). y.released_tenths) q in
    kept_from t d.row d.ok (omega arith) (omega arith)

module _ (v : View) (d : ℕ) (made : Result Row Cause) where
  -- there is no such door
  module _ (none : ltb d (doors_of v) ≡ false) where
    pub no_answer : call_answer v d made ≡ Err (refused_at d NoSuchDoor)
    unfolding call_answer
    no_answer = cond-false _ _ _ none

    pub no_after : call_after v d made ≡ v
    unfolding call_after
    no_after = cond-false _ _ _ none

    pub no_memory : {M : Type 0} (driven : M → ℕ → Output → M) (m : M) → call_memory driven v d made m ≡ m
    unfolding call_memory
    no_memory driven m = cond-false _ _ _ none

  module _ (here : ltb d (doors_of v) ≡ true) where
    pub call_value : call_answer v d made ≡ outcome d made
    unfolding call_answer
    call_value = cond-true _ _ _ here

    pub call_view : call_after v d made ≡ stored v d made
    unfolding call_after
    call_view = cond-true _ _ _ here

    pub call_drives : {M : Type 0} (driven : M → ℕ → Output → M) (m : M) → call_memory driven v d made m ≡ stored_memory driven m d made
    unfolding call_memory
    call_drives driven m = cond-true _ _ _ here
