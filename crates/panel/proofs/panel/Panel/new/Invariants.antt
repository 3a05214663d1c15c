use Rattle.std.proofs.Common.{◌≡◌}
use Rattle.history.specs.Views.{all_held, all_driven}
use Rattle.panel.proofs.panel.Panel.new.Given as goal

abbrev pub invariant-loop-output : goal.invariant-loop-output
invariant-loop-output g l =
    (g.B.Board.held (g.B.Board.memory l.board) ≡ all_held l.output (g.B.Board.held (g.B.Board.memory l.initial.board)))
    × (g.B.Board.memory l.board ≡ all_driven g.B.Board.driven l.output (g.B.Board.memory l.initial.board))
