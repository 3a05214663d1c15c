use Rattle.std.proofs.Common.{◌≡◌, string_bytes}
use Rattle.std.specs.List.{range_with_len, flat_map}
use Rattle.wiring_answers.specs.Answer.{door_text}
use Rattle.wiring_answers.proofs.answer.asked_line.Given as goal

abbrev pub invariant-loop-door : goal.invariant-loop-door
invariant-loop-door g l = string_bytes l.out ≡ flat_map (door_text (g.B.Board.held (g.B.Board.memory l.board))) (range_with_len 0 l.door)
