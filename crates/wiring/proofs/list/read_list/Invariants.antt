use Rattle.std.proofs.Common.{◌≡◌, ◌+◌, ◌≤◌, false, ◌++◌, map, length, vec_items}
use Rattle.text.specs.Lines.{lines}
use Rattle.wiring.specs.Step.{said}
use Rattle.wiring.specs.List.{steps_of, faults_of}
use Rattle.wiring.proofs.list.read_list.Given as goal

abbrev pub invariant-loop-line : goal.invariant-loop-line
invariant-loop-line l =
    (map said (vec_items l.reading.list.steps) ++ steps_of l.line-iterator ≡ steps_of (lines l.text))
    × (vec_items l.reading.list.faults ++ faults_of l.number l.reading.started l.line-iterator ≡ faults_of 1 false (lines l.text))
    × (l.number + length l.line-iterator ≤ length l.text + 1)
