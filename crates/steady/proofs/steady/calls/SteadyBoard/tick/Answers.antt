use Rattle.std.proofs.Common.{◌<◌, ◌∙◌, arith}
use Rattle.steady.proofs.Runs.{step_runs}
use Rattle.steady.proofs.steady.calls.SteadyBoard.tick.Goals as goal

pub loop-door-preserved : goal.loop-door-preserved
loop-door-preserved g c =
    let t = c.tick.new.self in
    let s = c.loop-door.self in
    let i = c.loop-door.door in
    let hd = g.B.Board.held (g.B.Board.memory t) in
    let h = g.met.B.Board.sound t in
    let v = c.loop-door.invariant in
    let e = c.follow.ensures in
    let within : i < hd.doors = omega arith in
    let w = simp (v.0, v.1) at e.runs in
    let next = step_runs c.args.self.now.count hd.doors i c.args.self.now.runs s.runs c.follow.new.self.runs hd.inputs.contacts within (omega arith) (omega arith) v.2 v.3 w in
    (e.below ∙ v.0, e.count ∙ v.1, next.0, next.1)
