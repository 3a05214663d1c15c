-- The calls that name a door: what they answer, and what they make of a panel and of its board's memory. Assumes nothing.
use Rattle.std.specs.Prelude.{ℕ, cond, Ok, Err, Option, Result, nat_lt}
use Rattle.board.specs.declared.refusal.Cause.{Cause}
use Rattle.board.specs.declared.refusal.Cause.TheVariants.{NoSuchDoor}
use Rattle.board.specs.declared.refusal.Layer.TheVariants.{Panel}
use Rattle.board.specs.declared.refusal.Refusal.{Refusal}
use Rattle.board.specs.declared.status.Output.{Output}
use Rattle.door.specs.declared.row.Row.{Row}
use Rattle.door.specs.Calls as door
use Rattle.history.specs.Views.{View, doors_of, row_at, with_row, drives_door}

-- a refusal of the panel has the door that the call names as its place
abbrev pub refused_at : ℕ → Cause → Refusal
refused_at d e = record { cause = e; layer = Panel; place = d }

abbrev pub outcome : ℕ → Result Row Cause → Result Unit Refusal
outcome d (Ok r) = Ok tt
outcome d (Err e) = Err (refused_at d e)

abbrev pub stored : View → ℕ → Result Row Cause → View
stored v d (Ok r) = with_row v d r
stored v d (Err e) = v

-- a door that there is not goes before any other cause; else the door says what becomes of its row
unfoldable pub call_answer : View → ℕ → Result Row Cause → Result Unit Refusal
call_answer v d made = cond (nat_lt d (doors_of v)) (outcome d made) (Err (refused_at d NoSuchDoor))

unfoldable pub call_after : View → ℕ → Result Row Cause → View
call_after v d made = cond (nat_lt d (doors_of v)) (stored v d made) v

module _ {M : Type 0} (driven : M → ℕ → Output → M) where
  abbrev pub stored_memory : M → ℕ → Result Row Cause → M
  stored_memory m d (Ok r) = drives_door driven m d r
  stored_memory m d (Err e) = m

  unfoldable pub call_memory : View → ℕ → Result Row Cause → M → M
  call_memory v d made m = cond (nat_lt d (doors_of v)) (stored_memory m d made) m

-- what each call makes of the row of its door
abbrev pub commanded : View → ℕ → ℕ → Option ℕ → Result Row Cause
commanded v d p x = door.command_answer (row_at v d) p x

abbrev pub set_to : View → ℕ → ℕ → ℕ → Result Row Cause
set_to v d i n = door.set_row_answer (row_at v d) i n

abbrev pub simulated : View → ℕ → ℕ → ℕ → Result Row Cause
simulated v d i n = door.simulate_answer (row_at v d) i n

abbrev pub serviced : View → ℕ → ℕ → Result Row Cause
serviced v d n = door.service_answer (row_at v d) n

abbrev pub acknowledged : View → ℕ → ℕ → Result Row Cause
acknowledged v d n = door.acknowledge_answer (row_at v d) n
