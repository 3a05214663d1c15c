use Rattle.std.proofs.Common.{◌<◌, length, arith}
use Rattle.history.proofs.Rows.{kept_at}
use Rattle.panel.proofs.panel.Panel.row_at.Goals as goal

pub returns-clause-kept : goal.returns-clause-kept
returns-clause-kept g c =
    let p = c.args.self.now in
    let sound = g.met.B.Board.sound p.board in
    let within : c.args.door < length p.rows = omega arith in
    kept_at p.tenth p.rows c.args.door _ within p.kept
