-- What a door does keeps its record legal. Assumes nothing.
use Rattle.std.proofs.Common.{◌≡◌, ℕ, ◌-◌, Bool, true, false, cond, not, ◌||◌, eqb, ltb, leb, List, [], ◌∷◌, map, set, Some, None, Ok, Err, Option, Result, sym, refl, ap, ◌∙◌, arith}
use Rattle.std.proofs.lemmas.Bool.{and_parts, and_from}
use Rattle.std.proofs.lemmas.Bool.Decides.{nat_tests}
use Rattle.std.proofs.lemmas.List.Elements.{All-set}
use Rattle.std.proofs.lemmas.List.Sums.{AllPass-from_list_all, list_all-from_AllPass}
use Rattle.slots.specs.declared.value.DoorValue.{DoorValue}
use Rattle.slots.specs.declared.value.DoorValue.TheVariants.{Lock, Unlock, PulseUnlock, ExtendedPulseUnlock}
use Rattle.slots.specs.declared.timed.Timed.{Timed}
use Rattle.slots.specs.Value.{is_pulse}
use Rattle.slots.specs.PriorityArray.{any_filled, before, written_at}
use Rattle.slots.specs.Timed.{timed, all_timed, stored, pulse_stored, fallen, with_time}
use Rattle.board.specs.declared.refusal.Cause.{Cause}
use Rattle.board.specs.declared.refusal.Cause.TheVariants.{ValueOutOfRange, SimulateInService, AlarmStateMasked}
use Rattle.board.specs.declared.status.DoorStatus.{DoorStatus}
use Rattle.board.specs.declared.status.LockStatus.{LockStatus}
use Rattle.door_parts.specs.declared.settings.Item.{Item}
use Rattle.door_parts.specs.declared.settings.Item.TheVariants.{AlarmValues, EventEnable, FaultValues, RelinquishDefault, TimeDelay, DoorExtendedPulseTime, DoorOpenTooLongTime, DoorPulseTime, DoorUnlockDelayTime, MaskedAlarmValues}
use Rattle.door_parts.specs.declared.settings.Settings.{Settings}
use Rattle.door_parts.specs.Settings.{then_set, number_answer, set_of_answer, with_default, set_answer, set_known, set_item_answer, item_of}
use Rattle.door_parts.specs.Commanded.{written}
use Rattle.door.specs.declared.row.Row.{Row}
use Rattle.door.specs.declared.simulated.Simulated.{Simulated}
use Rattle.door.specs.declared.simulated.Simulated.TheVariants as simulated
use Rattle.door.specs.Row.{legal, settled, with_commanded, with_settings, with_service, with_events}
use Rattle.door.specs.Simulated.{simulated_of, masks}
use Rattle.door.specs.Calls.{done, value_answer, command_answer, set_row_answer, with_simulated, simulate_answer, out_answer, service_answer, acknowledge_known, acknowledge_answer}
use Rattle.door.specs.Calls.{then}
use Rattle.slots.specs.Priority.{slot_answer}
use Rattle.events.specs.declared.event.Transition.{Transition}
use Rattle.events.specs.Event.{transition_numbered, acknowledged}
use Rattle.door.specs.Tick.{held_row}

long_pulse : (b : Bool) (v : DoorValue) (n : ℕ) → timed (pulse_stored b v n) ≡ true
long_pulse true v n = refl
long_pulse false Lock n = grind (arith, nat_tests)
long_pulse false Unlock n = grind (arith, nat_tests)
long_pulse false PulseUnlock n = grind (arith, nat_tests)
long_pulse false ExtendedPulseUnlock n = grind (arith, nat_tests)

pub timed-stored : (b : Bool) (p e : ℕ) (v : Option DoorValue) → timed (stored b p e v) ≡ true
timed-stored b p e None = refl
timed-stored b p e (Some Lock) = refl
timed-stored b p e (Some Unlock) = refl
timed-stored b p e (Some PulseUnlock) = long_pulse b PulseUnlock p
timed-stored b p e (Some ExtendedPulseUnlock) = long_pulse b ExtendedPulseUnlock e

all_timed-set : (xs : List (Option Timed)) (i : ℕ) (s : Option Timed) → all_timed xs ≡ true → timed s ≡ true → all_timed (set xs i s) ≡ true
all_timed-set xs i s h k = list_all-from_AllPass timed (set xs i s) (All-set (λ x. timed x ≡ true) xs i s k (AllPass-from_list_all timed xs h))

at_place : (b : Bool) (xs : List (Option Timed)) (i : ℕ) (s : Option Timed) → all_timed xs ≡ true → timed s ≡ true → all_timed (cond b (set xs i s) xs) ≡ true
at_place true xs i s h k = all_timed-set xs i s h k
at_place false xs i s h k = h

pub all_timed-written : (xs : List (Option Timed)) (i : ℕ) (s : Option Timed) → all_timed xs ≡ true → timed s ≡ true → all_timed (written_at xs i s) ≡ true
all_timed-written xs i s h k = at_place (ltb i 16) xs i s h k

all_fall : (p : Bool) (v : DoorValue) (n : ℕ) → p ≡ is_pulse v → timed (cond p (cond (leb n 1) None (Some (with_time v (n - 1)))) (Some (with_time v n))) ≡ true
all_fall true v n e = grind (arith, nat_tests)
all_fall false v n e = let h : is_pulse v ≡ false = sym e in ap (λ b. not b || ltb 0 n) h

-- after a tick every pulse that still stands has time left
pub all_timed-fallen : (xs : List (Option Timed)) → all_timed (map fallen xs) ≡ true
all_timed-fallen [] = refl
all_timed-fallen (None ∷ xs) = all_timed-fallen xs
all_timed-fallen (Some t ∷ xs) = and_from _ _ (all_fall (is_pulse t.value) t.value t.left refl) (all_timed-fallen xs)

-- a refused call gives no record; an accepted one the one that was worked out
accepted : {X : Type 0} (a : Result X Cause) (f : X → Result Row Cause) (y : Row) → then a f ≡ Ok y → ((x : X) → a ≡ Ok x → f x ≡ Ok y → legal y ≡ true) → legal y ≡ true
accepted (Ok x) f y e k = k x refl e
accepted (Err c) f y e k = cc

one_of : (b : Bool) (p q : Result Row Cause) (y : Row) → cond b p q ≡ Ok y → (p ≡ Ok y → legal y ≡ true) → (q ≡ Ok y → legal y ≡ true) → legal y ≡ true
one_of true p q y e k l = k e
one_of false p q y e k l = l e

refused : (c : Cause) (y : Row) → Err c ≡ Ok y → legal y ≡ true
refused c y e = cc

-- settling looks neither at the slots nor at the settings
same_legal : (r changed y : Row) → legal r ≡ true → legal changed ≡ legal r → done r changed ≡ Ok y → legal y ≡ true
same_legal r changed y h k e =
    let g : settled changed r.sensed.alarm_state ≡ y = cc in
    ap legal (sym g) ∙ k ∙ h

legal_written : (r y : Row) (i : ℕ) (v : Option DoorValue) → legal r ≡ true → done r (with_commanded r (written r.commanded r.settings i v)) ≡ Ok y → legal y ≡ true
legal_written r y i v h e =
    let was = and_parts (not (is_pulse r.settings.relinquish_default)) (all_timed r.commanded.slots.at) h in
    let g : settled (with_commanded r (written r.commanded r.settings i v)) r.sensed.alarm_state ≡ y = cc in
    ap legal (sym g)
    ∙ and_from _ _ was.0
    (all_timed-written r.commanded.slots.at i _ was.1 (timed-stored (any_filled (before i r.commanded.slots.at)) r.settings.door_pulse_time r.settings.door_extended_pulse_time v))

pub legal_command : (r y : Row) (p : ℕ) (v : Option ℕ) → legal r ≡ true → Ok y ≡ command_answer r p v → legal y ≡ true
legal_command r y p v h e = accepted (slot_answer p) _ y (sym e) (λ i a f. accepted (value_answer v) _ y f (λ w b g. legal_written r y i w h g))

with_simulated_legal : (r : Row) (m : Simulated) → legal (with_simulated r m) ≡ legal r
with_simulated_legal r (simulated.Door c) = refl
with_simulated_legal r (simulated.Lock l) = refl
with_simulated_legal r (simulated.Alarm a) = refl

pub legal_simulate : (r y : Row) (i n : ℕ) → legal r ≡ true → Ok y ≡ simulate_answer r i n → legal y ≡ true
legal_simulate r y i n h e =
    accepted (simulated_of i n) _ y (sym e)
    (λ m a f.
    one_of r.out_of_service _ _ y f
    (λ g. one_of (masks r.settings m) _ _ y g (refused AlarmStateMasked y) (same_legal r (with_simulated r m) y h (with_simulated_legal r m)))
    (refused SimulateInService y))

pub legal_service : (r y : Row) (n : ℕ) → legal r ≡ true → Ok y ≡ service_answer r n → legal y ≡ true
legal_service r y n h e = accepted (out_answer n) _ y (sym e) (λ out a f. same_legal r (with_service r out) y h refl f)

known_acknowledged : (r y : Row) (o : Option Transition) → legal r ≡ true → acknowledge_known r o ≡ Ok y → legal y ≡ true
known_acknowledged r y None h e = refused ValueOutOfRange y e
known_acknowledged r y (Some t) h e = same_legal r (with_events r (acknowledged r.events t)) y h refl e

pub legal_acknowledge : (r y : Row) (n : ℕ) → legal r ≡ true → Ok y ≡ acknowledge_answer r n → legal y ≡ true
legal_acknowledge r y n h e = known_acknowledged r y (transition_numbered n) h (sym e)

abbrev lasts : Settings → Bool
lasts s = not (is_pulse s.relinquish_default)

then_lasts : {X : Type 0} (x : Result X Cause) (f : X → Settings) (s : Settings) → then_set x f ≡ Ok s → ((y : X) → lasts (f y) ≡ true) → lasts s ≡ true
then_lasts (Ok y) f s e h = let g : f y ≡ s = cc in ap lasts (sym g) ∙ h y
then_lasts (Err c) f s e h = cc

default_lasts : (a b : Bool) (s new : Settings) → then_set (cond a (Ok Lock) (cond b (Ok Unlock) (Err ValueOutOfRange))) (with_default s) ≡ Ok new → lasts new ≡ true
default_lasts true b s new e = let g : with_default s Lock ≡ new = cc in ap lasts (sym g)
default_lasts false true s new e = let g : with_default s Unlock ≡ new = cc in ap lasts (sym g)
default_lasts false false s new e = cc

item_lasts : (i : Item) (s new : Settings) (n : ℕ) → set_answer s i n ≡ Ok new → lasts s ≡ true → lasts new ≡ true
item_lasts AlarmValues s new n e h = then_lasts (set_of_answer n) _ new e (λ y. h)
item_lasts EventEnable s new n e h = then_lasts (number_answer 7 n) _ new e (λ y. h)
item_lasts FaultValues s new n e h = then_lasts (set_of_answer n) _ new e (λ y. h)
item_lasts RelinquishDefault s new n e h = default_lasts (eqb n 0) (eqb n 1) s new e
item_lasts TimeDelay s new n e h = then_lasts (number_answer 86400 n) _ new e (λ y. h)
item_lasts DoorExtendedPulseTime s new n e h = then_lasts (number_answer 864000 n) _ new e (λ y. h)
item_lasts DoorOpenTooLongTime s new n e h = then_lasts (number_answer 864000 n) _ new e (λ y. h)
item_lasts DoorPulseTime s new n e h = then_lasts (number_answer 864000 n) _ new e (λ y. h)
item_lasts DoorUnlockDelayTime s new n e h = then_lasts (number_answer 864000 n) _ new e (λ y. h)
item_lasts MaskedAlarmValues s new n e h = then_lasts (set_of_answer n) _ new e (λ y. h)

known_lasts : (o : Option Item) (s new : Settings) (n : ℕ) → set_known o s n ≡ Ok new → lasts s ≡ true → lasts new ≡ true
known_lasts None s new n e h = cc
known_lasts (Some i) s new n e h = item_lasts i s new n e h

pub legal_set : (r y : Row) (i n : ℕ) → legal r ≡ true → Ok y ≡ set_row_answer r i n → legal y ≡ true
legal_set r y i n h e =
    let was = and_parts (not (is_pulse r.settings.relinquish_default)) (all_timed r.commanded.slots.at) h in
    accepted (set_item_answer r.settings i n) _ y (sym e)
    (λ s a f.
    let g : settled (with_settings r s) r.sensed.alarm_state ≡ y = cc in
    ap legal (sym g) ∙ and_from _ _ (known_lasts (item_of i) r.settings s n a was.0) was.1)

-- at a tick the slots fall, and the settings stay
pub legal_ticked : (r x : Row) (c : DoorStatus) (l : LockStatus) → legal r ≡ true → x ≡ held_row r c l → legal x ≡ true
legal_ticked r x c l h e =
    let was = and_parts (not (is_pulse r.settings.relinquish_default)) (all_timed r.commanded.slots.at) h in
    ap legal e ∙ and_from _ _ was.0 (all_timed-fallen r.commanded.slots.at)
