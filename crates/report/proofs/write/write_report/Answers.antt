use Rattle.std.proofs.Common.{◌≡◌, ◌+◌, ◌≤◌, ◌∷◌, [], ◌++◌, length, drop, sym, ap, ◌∙◌, arith, length-drop, length-take, length-append, rules}
use Rattle.std.proofs.lemmas.Iterator.Consumers.{YieldsList-end}
use Rattle.report.specs.Fields.{fields_between}
use Rattle.report.specs.Writing.{report_below, door_size, door_bytes, bytes_of_door, doors_in}
use Rattle.report.proofs.Grow.{grow, part}
use Rattle.report.proofs.Records.{below_none, below_more, length_door, length_told, turn_told, yields_told}
use Rattle.report.proofs.write.write_report.Goals as goal

pub loop-door-init : goal.loop-door-init
loop-door-init c =
    let none = below_none c.args.last.now c.args.rows.now in
    record { written = record { long = ap length none; bytes = sym (ap (λ x. x ++ c.args.buffer.now) none) }; fits = omega arith }

pub write_door-at-requires : goal.write_door-at-requires
write_door-at-requires c =
    let turn = turn_told c.args.last.now c.args.rows.now c.into_iter-door-iterator.result _ c.next.new.self (length c.args.buffer.now) (cc, cc, cc) c.loop-door.yielded c.loop-door.yielded_by c.in-Some.is c.next.ensures.steps (omega arith) in
    let room = turn.room in
    let long = c.loop-door.invariant.written.long in
    simp (length-take, length-drop) (omega arith)

pub overflow_add-at : goal.overflow_add-at
overflow_add-at c =
    let turn = turn_told c.args.last.now c.args.rows.now c.into_iter-door-iterator.result _ c.next.new.self (length c.args.buffer.now) (cc, cc, cc) c.loop-door.yielded c.loop-door.yielded_by c.in-Some.is c.next.ensures.steps (omega arith) in
    let room = turn.room in
    let long = c.loop-door.invariant.written.long in
    let end : c.loop-door.at + c.write_door-at.result ≤ length c.args.buffer.now = omega arith in
    search rules

pub loop-door-preserved : goal.loop-door-preserved
loop-door-preserved c =
    let last = c.args.last.now in
    let rows = c.args.rows.now in
    let n = length c.loop-door.yielded in
    let turn = turn_told c.args.last.now c.args.rows.now c.into_iter-door-iterator.result _ c.next.new.self (length c.args.buffer.now) (cc, cc, cc) c.loop-door.yielded c.loop-door.yielded_by c.in-Some.is c.next.ensures.steps (omega arith) in
    let room = turn.room in
    let long = c.loop-door.invariant.written.long in
    let fields = fields_between c.in-Some.last.now c.in-Some.row.now in
    let w = door_size fields in
    let bytes = door_bytes c.in-Some.door fields in
    let p = part c.loop-door.buffer c.write_door-at.new.rest bytes c.loop-door.at w (omega arith) c.write_door-at.ensures.after in
    let next : c.loop-door.at + c.write_door-at.result ≡ c.loop-door.at + w = omega arith in
    let written = grow c.loop-door.invariant.written bytes (length_door c.in-Some.door fields) next p in
    let here : bytes ≡ bytes_of_door last rows n = ap (λ d. door_bytes d fields) turn.door ∙ ap (door_bytes n) turn.fields in
    let more : report_below last rows n ++ bytes ≡ report_below last rows (length (c.loop-door.yielded ++ ((c.in-Some.door, (c.in-Some.last, c.in-Some.row)) ∷ []))) =
    ap (λ x. report_below last rows n ++ x) here ∙ sym (below_more last rows n) ∙ ap (report_below last rows) (sym (length-append c.loop-door.yielded ((c.in-Some.door, (c.in-Some.last, c.in-Some.row)) ∷ []))) in
    record { written = rw more at written; fits = omega arith }

pub returns : goal.returns
returns c =
    let last = c.args.last.now in
    let rows = c.args.rows.now in
    let road = yields_told last rows {s = c.into_iter-door-iterator.result} (cc) (cc) (cc) in
    let end = YieldsList-end road c.loop-door.yielded _ c.loop-door.yielded_by _ c.next.new.self c.in-None.is c.next.ensures.steps in
    let n : length c.loop-door.yielded ≡ doors_in last rows = end.1 ∙ length_told last rows in
    let long : length (report_below last rows (doors_in last rows)) ≡ c.loop-door.at = rw n at c.loop-door.invariant.written.long in
    let bytes : c.loop-door.buffer ≡ report_below last rows (doors_in last rows) ++ drop c.loop-door.at c.args.buffer.now = rw n at c.loop-door.invariant.written.bytes in
    record { value = search rules; after = search rules }
