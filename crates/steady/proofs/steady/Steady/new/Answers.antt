use Rattle.std.proofs.Common.{◌≤◌, arith}
use Rattle.steady.specs.Steady.{count_for}
use Rattle.steady.proofs.Steadied.{made_layer, made_steadies}
use Rattle.steady.proofs.steady.Steady.new.Goals as goal

pub returns : goal.returns
returns g c =
    let held = g.B.Board.held in
    let m = g.B.Board.memory c.args.below in
    let h = g.met.B.Board.sound c.args.below in
    let made = made_layer held m c.args.count c.count_for.result c.new.result c.count_for.ensures.value c.new.ensures h.few in
    let small : count_for c.args.count ≤ 255 = omega arith in
    record {
      made = made;
      steadies = made_steadies held g.B.Board.driven g.B.Board.told m c.args.count _ made small;
    }
