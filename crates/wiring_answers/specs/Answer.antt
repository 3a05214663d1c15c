-- What a board answers, as text. Assumes nothing.
use Rattle.std.specs.Prelude.{ℕ, List, ◌++◌, vec_items, codes, decimal, slice_index_or}
use Rattle.std.specs.List.{range_with_len, flat_map}
use Rattle.board.specs.Held.{Held, drive_answer, tick_answer, if_driven, if_told}
use Rattle.board.specs.Status.{door_status_name, lock_status_name, output_name}
use Rattle.board.specs.declared.status.DoorStatus.TheVariants.{Closed}
use Rattle.board.specs.declared.status.LockStatus.TheVariants.{Locked}
use Rattle.board.specs.declared.status.Output.{Output}
use Rattle.board.specs.declared.status.Output.TheVariants as output
use Rattle.outcome.specs.Outcome.{outcome_text}
use Rattle.wiring.specs.declared.step.Call.{Call}
use Rattle.wiring.specs.declared.step.Call.TheVariants as call

abbrev pub made_text : Held → List ℕ
made_text h = codes "board doors=" ++ (decimal h.doors ++ (codes " width=" ++ decimal h.width))

-- one door: its number, output, contact and reading
abbrev pub door_text : Held → ℕ → List ℕ
door_text h d =
    decimal d ++ (codes "=" ++ (output_name (slice_index_or h.outputs d output.Held) ++ (codes "/" ++ (door_status_name (slice_index_or h.inputs.contacts d Closed) ++ (codes "/" ++ (lock_status_name (slice_index_or h.inputs.readings d Locked) ++ codes " "))))))

abbrev pub sounder_text : Held → List ℕ
sounder_text h = codes "sounder=" ++ output_name (slice_index_or h.outputs h.doors output.Held)

abbrev pub asked_text : Held → List ℕ
asked_text h = flat_map (door_text h) (range_with_len 0 h.doors) ++ sounder_text h

abbrev pub call_text : Held → Call → List ℕ
call_text h (call.Drive d) = outcome_text (drive_answer h d.output)
call_text h (call.Tick v) = outcome_text (tick_answer h (vec_items v))
call_text h call.Ask = asked_text h

-- what the board holds after a call
abbrev pub call_after : {M : Type 0} → (M → Held) → (M → ℕ → Output → M) → (M → List ℕ → M) → M → Call → M
call_after held driven told m (call.Drive d) = if_driven (held m) d.output (driven m d.output d.to) m
call_after held driven told m (call.Tick v) = if_told (held m) (vec_items v) (told m (vec_items v)) m
call_after held driven told m call.Ask = m
