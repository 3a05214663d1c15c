use Rattle.std.proofs.Common.{◌≡◌, rules, sym, subst}
use Rattle.door.specs.declared.row.Row.{Row}
use Rattle.door.specs.Calls.{row_of, simulate_answer}
use Rattle.history.specs.Kept.{Same}
use Rattle.history.proofs.DoorCalls.{simulate_same}
use Rattle.panel.proofs.panel.Panel.simulate.Goals as goal

pub call_door-requires-clause-leaves : goal.call_door-requires-clause-leaves
call_door-requires-clause-leaves g c = λ d made h.
    let e : row_of made ≡ simulate_answer d.row c.args.item c.args.number = search rules in
    subst (Same d.row) (sym e) (simulate_same d.row c.args.item c.args.number)

pub returns : goal.returns
returns g c =
    let f = λ (r : Row). simulate_answer r c.args.item c.args.number in
    let e = c.call_door.ensures in
    record { value = e.value f (λ d made h. search rules); after = e.after f (λ d made h. search rules); memory = e.memory f (λ d made h. search rules) }
