use Rattle.std.proofs.Common.{◌<◌, arith}
use Rattle.history.proofs.Rooms.{step_here, step_released, step_last, step_serials}
use Rattle.panel.specs.Look.{view}
use Rattle.panel.proofs.panel.Panel.step_doors.Goals as goal

pub step_door-requires : goal.step_door-requires
step_door-requires g c =
    let p = c.args.self.now in
    let v = view g.B.Board.held g.B.Board.memory p in
    let w = view g.B.Board.held g.B.Board.memory c.loop-door.self in
    let i = c.loop-door.door in
    let sound = g.met.B.Board.sound p.board in
    let here : i < v.board.doors = omega arith in
    let e = c.loop-door.invariant.0 in
    (step_here v w i c.requires e here, (step_released v w i c.requires e here, (step_last v w i c.requires e here, step_serials v w i c.requires e here sound.few)))
