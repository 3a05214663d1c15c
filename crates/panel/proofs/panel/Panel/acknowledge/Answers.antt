use Rattle.std.proofs.Common.{rules}
use Rattle.door.specs.declared.row.Row.{Row}
use Rattle.door.specs.Calls.{acknowledge_answer}
use Rattle.panel.proofs.panel.Panel.acknowledge.Goals as goal

pub returns : goal.returns
returns g c =
    let f = λ (r : Row). acknowledge_answer r c.args.number in
    let e = c.call_door.ensures in
    record { value = e.value f (λ d made h. search rules); after = e.after f (λ d made h. search rules); memory = e.memory f (λ d made h. search rules) }
