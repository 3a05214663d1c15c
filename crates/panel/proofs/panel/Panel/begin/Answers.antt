use Rattle.std.proofs.Common.{◌+◌, arith}
use Rattle.history.proofs.Rows.{kept_later}
use Rattle.panel.proofs.panel.Panel.begin.Goals as goal

pub invariant_of-self-2 : goal.invariant_of-self-2
invariant_of-self-2 g c =
    let p = c.args.self.now in
    record { table = p.table; queue = p.queue; memo = p.memo; kept = kept_later p.tenth (p.tenth + 1) p.rows (omega arith) p.kept; serials = omega arith }
