use Rattle.std.proofs.Common.{◌≡◌, take, drop}
use Rattle.board.specs.Held.{each}
use Rattle.steady.proofs.Runs.{next_run}
use Rattle.steady.proofs.steady.calls.SteadyBoard.tick.Given as goal

abbrev pub invariant-loop-door : goal.invariant-loop-door
invariant-loop-door g l =
    (l.self.below ≡ l.initial.self.below)
    × (l.self.count ≡ l.initial.self.count)
    × (take l.door l.self.runs ≡ each l.door (next_run l.initial.self.count (g.B.Board.held (g.B.Board.memory l.initial.self.below)).doors l.initial.self.runs (g.B.Board.held (g.B.Board.memory l.initial.self.below)).inputs.contacts))
    × (drop l.door l.self.runs ≡ drop l.door l.initial.self.runs)
