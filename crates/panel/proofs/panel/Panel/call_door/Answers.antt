use Rattle.std.proofs.Common.{◌<◌, Err, refl, sym, ap, ◌∙◌, subst, arith, ltb-true}
use Rattle.door.specs.declared.row.Row.{Row}
use Rattle.door.specs.Calls.{row_of}
use Rattle.history.specs.Kept.{Same}
use Rattle.history.specs.Views.{row_at}
use Rattle.history.specs.DoorCalls.{outcome, stored, stored_memory}
use Rattle.history.proofs.DoorCalls.{no_answer, no_after, no_memory, call_value, call_view, call_drives}
use Rattle.panel.specs.Look.{view}
use Rattle.panel.proofs.Tables.{storable}
use Rattle.panel.proofs.panel.Panel.call_door.Goals as goal

pub returns-then-not-has_door : goal.returns-then-not-has_door
returns-then-not-has_door g c =
    let v = view g.B.Board.held g.B.Board.memory c.args.self.now in
    let d = c.args.door in
    let none = sym c.if-not-has_door.ensures in
    record {
      value = λ f m. ap Err c.of.ensures ∙ sym (no_answer v d (f (row_at v d)) none);
      after = λ f m. sym (no_after v d (f (row_at v d)) none);
      memory = λ f m. sym (no_memory v d (f (row_at v d)) none g.B.Board.driven (g.B.Board.memory c.args.self.now.board));
    }

pub finish-requires : goal.finish-requires
finish-requires g c =
    let p = c.args.self.now in
    let n = (g.B.Board.held (g.B.Board.memory p.board)).doors in
    let sound = g.met.B.Board.sound p.board in
    let here : c.args.door < n = ltb-true _ _ (sym c.if-not-has_door.ensures) in
    let same = subst (λ (r : Row). Same r (row_of c.call-made.result)) c.door_at.ensures (c.requires.leaves c.door_at.result c.call-made.result c.call-made.ensures) in
    (here, storable p.tenth n p.rows c.args.door c.call-made.result _ here (omega arith) p.kept refl same)

pub returns : goal.returns
returns g c =
    let v = view g.B.Board.held g.B.Board.memory c.args.self.now in
    let d = c.args.door in
    let m = g.B.Board.memory c.args.self.now.board in
    let here = sym c.if-not-has_door.ensures in
    record {
      value = λ f makes.
          let e = makes c.door_at.result c.call-made.result c.call-made.ensures ∙ ap f c.door_at.ensures in
          c.finish.ensures.value ∙ ap (outcome d) e ∙ sym (call_value v d (f (row_at v d)) here);
      after = λ f makes.
          let e = makes c.door_at.result c.call-made.result c.call-made.ensures ∙ ap f c.door_at.ensures in
          c.finish.ensures.after ∙ ap (stored v d) e ∙ sym (call_view v d (f (row_at v d)) here);
      memory = λ f makes.
          let e = makes c.door_at.result c.call-made.result c.call-made.ensures ∙ ap f c.door_at.ensures in
          c.finish.ensures.memory ∙ ap (stored_memory g.B.Board.driven m d) e ∙ sym (call_drives v d (f (row_at v d)) here g.B.Board.driven m);
    }
