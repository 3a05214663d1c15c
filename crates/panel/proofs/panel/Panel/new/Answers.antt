use Rattle.std.proofs.Common.{◌≡◌, ◌+◌, refl, ap, ◌∙◌, arith}
use Rattle.board.specs.declared.status.Output.TheVariants.{Held}
use Rattle.door.specs.Shown.{report_row}
use Rattle.history.proofs.Making.{within, held_more, driven_more, made_view}
use Rattle.history.proofs.Rows.{kept_fresh}
use Rattle.panel.proofs.panel.Panel.new.Goals as goal

pub hold-requires : goal.hold-requires
hold-requires g c =
    within c.loop-output.output (g.B.Board.held (g.B.Board.memory c.args.board)) (g.B.Board.held (g.B.Board.memory c.loop-output.board)) c.loop-output.invariant.0 (omega arith)

pub loop-output-preserved : goal.loop-output-preserved
loop-output-preserved g c =
    let held = g.B.Board.held in
    let memory = g.B.Board.memory in
    let b = c.loop-output.board in
    let i = c.loop-output.output in
    let l = within i (held (memory c.args.board)) (held (memory b)) c.loop-output.invariant.0 (omega arith) in
    let m = c.hold.ensures in
    let h = ap held m ∙ g.met.B.Board.drives b i Held l in
    (held_more i (held (memory c.args.board)) (held (memory b)) _ c.loop-output.invariant.0 h, driven_more g.B.Board.driven i (memory c.args.board) (memory b) _ c.loop-output.invariant.1 m)

pub invariant_of-result : goal.invariant_of-result
invariant_of-result g c = record { table = refl; queue = refl; memo = refl; kept = kept_fresh c.args.tenth 64 c.at_making.result c.at_making.ensures; serials = omega arith }

pub returns-clause-value : goal.returns-clause-value
returns-clause-value g c =
    let held = g.B.Board.held in
    let memory = g.B.Board.memory in
    let h = held (memory c.args.board) in
    let sound = g.met.B.Board.sound c.args.board in
    let all : c.loop-output.output ≡ h.doors + 1 = omega arith in
    made_view h (held (memory c.loop-output.board)) c.loop-output.output c.args.number c.args.tenth c.at_making.result c.at_making-2.result c.none.result c.report_row.result
    sound.few all c.loop-output.invariant.0 c.at_making.ensures c.at_making-2.ensures c.none.ensures (c.report_row.ensures ∙ ap report_row c.at_making-3.ensures)
