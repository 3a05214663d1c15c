-- The sounder write. Assumes nothing.
use Rattle.std.specs.Prelude.{ℕ, Ok, Err, Option, Result}
use Rattle.board.specs.Held.{with_output}
use Rattle.board.specs.declared.refusal.Cause.{Cause}
use Rattle.board.specs.declared.refusal.Refusal.{Refusal}
use Rattle.board.specs.declared.status.Output.{Output}
use Rattle.board.specs.declared.status.Output.TheVariants as output
use Rattle.slots.specs.declared.sounder.Sounder.{Sounder}
use Rattle.slots.specs.declared.sounder.SounderValue.{SounderValue}
use Rattle.slots.specs.declared.sounder.SounderValue.TheVariants.{Inactive, Active}
use Rattle.slots.specs.Sounder.{sounder_present, sounder_answer}
use Rattle.history.specs.Views.{View, doors_of}
use Rattle.history.specs.DoorCalls.{refused_at}

-- the sounder's output is released while ACTIVE rules
abbrev pub sounder_output : SounderValue → Output
sounder_output Inactive = output.Held
sounder_output Active = output.Released

-- output n is driven to the value that rules
abbrev pub with_sounder : View → Sounder → View
with_sounder v s = record {
  board = with_output v.board (doors_of v) (sounder_output (sounder_present s));
  rows = v.rows;
  sounder = s;
  notices = v.notices;
  reported = v.reported;
  number = v.number;
  tenth = v.tenth;
}

-- what a write makes of the sounder, or why it is refused: the place is n
abbrev pub written : View → ℕ → Option ℕ → Result Sounder Cause
written v p x = sounder_answer v.sounder p x

abbrev pub sounder_outcome : View → Result Sounder Cause → Result Unit Refusal
sounder_outcome v (Ok s) = Ok tt
sounder_outcome v (Err e) = Err (refused_at (doors_of v) e)

abbrev pub sounder_after : View → Result Sounder Cause → View
sounder_after v (Ok s) = with_sounder v s
sounder_after v (Err e) = v

module _ {M : Type 0} (driven : M → ℕ → Output → M) where
  abbrev pub sounder_memory : View → Result Sounder Cause → M → M
  sounder_memory v (Ok s) m = driven m (doors_of v) (sounder_output (sounder_present s))
  sounder_memory v (Err e) m = m
