use Rattle.std.proofs.Common.{rules}
use Rattle.door.specs.declared.row.Row.{Row}
use Rattle.door.specs.Calls.{command_answer}
use Rattle.panel.proofs.panel.Panel.command.Goals as goal

pub returns : goal.returns
returns g c =
    let f = λ (r : Row). command_answer r c.args.priority c.args.value in
    let e = c.call_door.ensures in
    record { value = e.value f (λ d made h. search rules); after = e.after f (λ d made h. search rules); memory = e.memory f (λ d made h. search rules) }
