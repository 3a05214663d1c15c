use Rattle.std.proofs.Common.{◌≡◌, [], ◌∷◌, refl, arith, rules}
use Rattle.report.specs.Fields.{map_of, record_size}
use Rattle.report.specs.Writing.{encoded}
use Rattle.report.proofs.Grow.{Front, grow, two}
use Rattle.report.proofs.Records.{length_one, length_four}
use Rattle.report.proofs.write.write_record.Goals as goal

pub returns : goal.returns
unfolding encoded
returns c =
    let f = c.args.fields.now in
    let h0 : Front c.args.rest.now _ (c.map.result ∷ c.args.door ∷ []) 2 = record { long = refl; bytes = two c.args.rest.now c.map.result c.args.door (search rules) } in
    let h1 = grow h0 _ (length_one f.present_value) c.put-a.ensures.next c.put-a.ensures.after in
    let h2 = grow h1 _ (length_one f.status_flags) c.put-b.ensures.next c.put-b.ensures.after in
    let h3 = grow h2 _ (length_one f.door_alarm_state) c.put-c.ensures.next c.put-c.ensures.after in
    let h4 = grow h3 _ (length_one f.door_status) c.put-d.ensures.next c.put-d.ensures.after in
    let h5 = grow h4 _ (length_one f.lock_status) c.put-e.ensures.next c.put-e.ensures.after in
    let h6 = grow h5 _ (length_one f.secured_status) c.put-f.ensures.next c.put-f.ensures.after in
    let h7 = grow h6 _ (length_one f.output) c.put-g.ensures.next c.put-g.ensures.after in
    let h8 = grow h7 _ (length_four f.released_tenths) c.put.ensures.next c.put.ensures.after in
    let m : c.map.result ≡ map_of f = c.map.ensures in
    let count : c.put.result ≡ record_size f = omega arith in
    record { count = count; after = cc }
