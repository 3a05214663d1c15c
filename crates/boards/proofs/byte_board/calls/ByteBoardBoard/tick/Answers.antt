use Rattle.std.proofs.Common.{◌<◌, length, ◌∙◌, arith}
use Rattle.boards.proofs.Parts.{filled_part}
use Rattle.boards.specs.declared.terminals.Input.{Input}
use Rattle.boards.proofs.byte_board.calls.ByteBoardBoard.tick.Goals as goal

pub loop-door-preserved : goal.loop-door-preserved
loop-door-preserved g c =
    let s = c.loop-door.self.terminals in
    let bs = c.args.bytes.now in
    let v = c.loop-door.invariant in
    let e = c.set_input.ensures in
    let h : c.loop-door.door < length s.inputs = omega arith in (
      e.doors ∙ v.0,
      e.width ∙ v.1,
      e.outputs ∙ v.2,
      filled_part (λ (i : Input). i.contact) (g.W.DoorBytes.contact bs) s.inputs _ c.loop-door.door _ h e.inputs v.3 c.contact_of.ensures,
      filled_part (λ (i : Input). i.reading) (g.W.DoorBytes.reading bs) s.inputs _ c.loop-door.door _ h e.inputs v.4 c.reading_of.ensures,
    )
