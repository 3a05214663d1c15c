use Rattle.std.proofs.Common.{◌≡◌, true, sym, refl, ap, ◌∙◌, subst}
use Rattle.door.specs.declared.row.Row.{Row}
use Rattle.door.specs.Row.{legal}
use Rattle.door.specs.Tick.{TickedRow}
use Rattle.history.specs.Ticks.{ticked_door, door_ticked}
use Rattle.history.proofs.Ticks.{ticked_kept, stepped_is}
use Rattle.panel.specs.Look.{view}
use Rattle.panel.proofs.panel.Panel.step_door.Goals as goal

pub put-requires : goal.put-requires
put-requires g c =
    let v = view g.B.Board.held g.B.Board.memory c.args.self.now in
    let d = c.args.door in
    let row : c.into_row-row.result ≡ (door_ticked v d).row = c.into_row-row.ensures ∙ ap (λ (x : TickedRow). x.row) c.tick_door-ticked.ensures in
    let ok : legal c.into_row-row.result ≡ true = subst (λ (x : Row). legal x ≡ true) (sym c.into_row-row.ensures) c.tick_door-ticked.result.door.ok in
    (c.requires.0, ticked_kept v d c.into_row-row.result row ok c.requires.1.0 c.requires.1.1.0)

pub returns-clause-after : goal.returns-clause-after
returns-clause-after g c =
    let v = view g.B.Board.held g.B.Board.memory c.args.self.now in
    let d = c.args.door in
    stepped_is v _ _ d (ticked_door c.tick_door-ticked.result) c.into_row-row.result c.tick_door-ticked.result.transition c.tick_door-ticked.ensures c.into_row-row.ensures refl c.put.ensures.after c.raise.ensures.after
