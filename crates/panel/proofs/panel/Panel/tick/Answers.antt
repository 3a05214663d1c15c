use Rattle.std.proofs.Common.{rules, ◌≡◌, ◌≤◌, length, sym, ap, ◌∙◌, subst, arith}
use Rattle.history.specs.Kept.{Room}
use Rattle.history.specs.Views.{View, doors_of}
use Rattle.history.specs.Ticks.{begun, tick_answer, doors_stepped, doors_driven}
use Rattle.history.proofs.Rooms.{begun_is, told_is, after_is, memory_is, begun_room, refused_begun, refused_after, refused_told, refused_memory}
use Rattle.panel.specs.Look.{view}
use Rattle.panel.proofs.Tables.{kept_row}
use Rattle.panel.proofs.panel.Panel.tick.Goals as goal

pub step_doors-requires : goal.step_doors-requires
step_doors-requires g c =
    let p = c.args.self.now in
    let v = view g.B.Board.held g.B.Board.memory p in
    let bs = c.args.bytes.now in
    let ins = (g.B.Board.held (g.B.Board.told (g.B.Board.memory p.board) bs)).inputs in
    let sound = g.met.B.Board.sound p.board in
    let long : v.board.doors ≤ length p.rows = omega arith in
    let ok = sym c.in_ok-begin.was ∙ c.begin.ensures.value in
    subst Room (sym (c.begin.ensures.after ∙ begun_is v ins bs c.in_ok-begin.field-0 ok))
    (begun_room v ins bs c.in_ok-begin.field-0 ok (λ d l. kept_row p.tenth v.board.doors p.rows d l long p.kept) p.serials)

pub returns : goal.returns
returns g c =
    let p = c.args.self.now in
    let v = view g.B.Board.held g.B.Board.memory p in
    let bs = c.args.bytes.now in
    let m = g.B.Board.memory p.board in
    let told = g.B.Board.told m bs in
    let ins = (g.B.Board.held told).inputs in
    let u = c.in_ok-begin.field-0 in
    let ok = sym c.in_ok-begin.was ∙ c.begin.ensures.value in
    let w = view g.B.Board.held g.B.Board.memory c.begin.new.self in
    let e : w ≡ begun v ins = c.begin.ensures.after ∙ begun_is v ins bs u ok in
    let t = c.begin.ensures.memory ∙ told_is v ins bs u ok told m in
    record {
      value = ok;
      after = c.step_doors.ensures.after ∙ ap (λ (x : View). doors_stepped (doors_of x) x) e ∙ sym (after_is v ins bs u ok);
      memory =
          c.step_doors.ensures.memory
          ∙ ap (λ (x : View). doors_driven g.B.Board.driven (doors_of x) x (g.B.Board.memory c.begin.new.self.board)) e
          ∙ ap (doors_driven g.B.Board.driven (doors_of v) (begun v ins)) t
          ∙ sym (memory_is v ins bs u ok g.B.Board.driven told m);
    }

pub returns-in_err-begin : goal.returns-in_err-begin
returns-in_err-begin g c =
    let p = c.args.self.now in
    let v = view g.B.Board.held g.B.Board.memory p in
    let bs = c.args.bytes.now in
    let m = g.B.Board.memory p.board in
    let told = g.B.Board.told m bs in
    let ins = (g.B.Board.held told).inputs in
    let r = c.in_err-begin.field-0.0 in
    let no = sym c.in_err-begin.was ∙ c.begin.ensures.value in
    let value : c.from_residual.result ≡ tick_answer v bs = search rules in
    record {
      value = value;
      after = c.begin.ensures.after ∙ refused_begun v ins bs r no ∙ sym (refused_after v ins bs r no);
      memory = c.begin.ensures.memory ∙ refused_told v ins bs r no told m ∙ sym (refused_memory v ins bs r no g.B.Board.driven told m);
    }
