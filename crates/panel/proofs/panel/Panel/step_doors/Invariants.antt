use Rattle.std.proofs.Common.{◌≡◌}
use Rattle.history.specs.Ticks.{doors_stepped, doors_driven}
use Rattle.panel.specs.Look.{view}
use Rattle.panel.proofs.panel.Panel.step_doors.Given as goal

abbrev pub invariant-loop-door : goal.invariant-loop-door
invariant-loop-door g l =
    (view g.B.Board.held g.B.Board.memory l.self ≡ doors_stepped l.door (view g.B.Board.held g.B.Board.memory l.initial.self))
    × (g.B.Board.memory l.self.board ≡ doors_driven g.B.Board.driven l.door (view g.B.Board.held g.B.Board.memory l.initial.self) (g.B.Board.memory l.initial.self.board))
