use Rattle.std.proofs.Common.{◌+◌, ◌≤◌, arith, le-leb}
use lib.Seq.{take-set-lt}
use Rattle.boards.proofs.terminals.Terminals.drive.Goals as goal

pub returns-clause-after : goal.returns-clause-after
returns-clause-after c =
    let s = c.args.self.now in
    let l : c.args.output ≤ s.doors = omega arith in
    simp (le-leb _ _ l, take-set-lt (s.doors + 1) s.outputs c.args.output c.args.to (omega arith))
