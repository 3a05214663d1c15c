use Rattle.std.proofs.Common.{arith}
use Rattle.panel.proofs.Tables.{keep_view}
use Rattle.panel.proofs.panel.Panel.keep.Goals as goal

pub returns-clause-after : goal.returns-clause-after
returns-clause-after g c =
    let p = c.args.self.now in
    let sound = g.met.B.Board.sound p.board in
    keep_view (g.B.Board.held (g.B.Board.memory p.board)) p.rows p.sounder p.waiting p.next_serial p.reported p.number p.tenth c.args.notice c.with.result c.requires.0 (omega arith) c.with.ensures
