use Rattle.std.proofs.Common.{◌<◌, sym, ◌∙◌, subst}
use Rattle.board.proofs.Asked.{contact_is, reading_is}
use Rattle.door.specs.declared.row.Row.{Row}
use Rattle.history.proofs.Ticks.{ticked_is, door_ticked_is}
use Rattle.panel.specs.Look.{view}
use Rattle.panel.proofs.panel.Panel.tick_door.Goals as goal

pub returns : goal.returns
returns g c =
    let h = g.B.Board.held (g.B.Board.memory c.args.self.now.board) in
    let v = view g.B.Board.held g.B.Board.memory c.args.self.now in
    let d = c.args.door in
    let x = contact_is h d c.unwrap-contact.result c.requires.0 (sym c.contact.ensures ∙ c.unwrap-contact.ensures) in
    let y = reading_is h d c.unwrap-reading.result c.requires.0 (sym c.reading.ensures ∙ c.unwrap-reading.ensures) in
    let few : c.door_at.result.row.released_tenths < 2000000000 = subst (λ (r : Row). r.released_tenths < 2000000000) (sym c.door_at.ensures) c.requires.1 in
    door_ticked_is v d _ c.door_at.result.row c.unwrap-contact.result c.unwrap-reading.result
    (ticked_is c.tick.result c.unwrap.result c.door_at.result.row c.unwrap-contact.result c.unwrap-reading.result c.args.self.now.tenth c.unwrap.ensures c.tick.ensures few)
    c.door_at.ensures x y
