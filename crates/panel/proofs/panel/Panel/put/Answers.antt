use Rattle.std.proofs.Common.{◌≤◌, ap, ◌∙◌, arith, length-set}
use Rattle.history.proofs.Rows.{kept_set}
use Rattle.panel.proofs.Tables.{held_driven, put_view}
use Rattle.panel.proofs.panel.Panel.put.Goals as goal

pub invariant_of-self : goal.invariant_of-self
invariant_of-self g c =
    let p = c.args.self.now in
    record {
      table = simp length-set p.table;
      queue = p.queue;
      memo = p.memo;
      kept = kept_set p.tenth p.rows c.args.door c.args.row c.requires.1 p.kept;
      serials = p.serials;
    }

pub returns-clause-after : goal.returns-clause-after
returns-clause-after g c =
    let held = g.B.Board.held in
    let memory = g.B.Board.memory in
    let p = c.args.self.now in
    let i = c.args.door in
    let within : i ≤ (held (memory p.board)).doors = omega arith in
    let m = c.drive_door.ensures in
    let h = ap held m ∙ held_driven held g.B.Board.driven (memory p.board) i c.args.row (g.met.B.Board.drives p.board i c.args.row.commanded.output within) in
    put_view (held (memory p.board)) (held (memory c.drive_door.new.board)) p.rows p.sounder p.waiting p.next_serial p.reported p.number p.tenth i c.args.row c.requires.0 h
