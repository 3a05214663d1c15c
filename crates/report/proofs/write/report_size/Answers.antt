use Rattle.std.proofs.Common.{◌≤◌, length, ◌∙◌, arith, rules, tests}
use Rattle.std.proofs.lemmas.Iterator.{YieldsList-from_map}
use Rattle.std.proofs.lemmas.Iterator.Consumers.{YieldsList-at, sum_by_from_yields_List}
use Rattle.std.proofs.lemmas.Iterator.Adapters.{at_most_from_yields_List, fits_from_length}
use Rattle.report.proofs.Records.{size_told, told, length_told, sizes, yields_told}
use Rattle.report.proofs.write.report_size.Goals as goal

pub sum-requires-clause-fits : goal.sum-requires-clause-fits
sum-requires-clause-fits c =
    let last = c.args.last.now in
    let rows = c.args.rows.now in
    let road = YieldsList-at c.map.ensures.source (yields_told last rows c.doors_of.ensures.doors c.doors_of.ensures.last c.doors_of.ensures.rows) in
    let few : length (told last rows) ≤ 64 = omega (arith, length_told last rows) in
    fits_from_length _ _ 64 _ (at_most_from_yields_List road few) c.map.ensures.closure (omega arith) (λ x r q k. search (rules, tests))

pub returns : goal.returns
returns c =
    let last = c.args.last.now in
    let rows = c.args.rows.now in
    let road = YieldsList-at c.map.ensures.source (yields_told last rows c.doors_of.ensures.doors c.doors_of.ensures.last c.doors_of.ensures.rows) in
    sum_by_from_yields_List size_told (told last rows) c.map.result _ c.sum.ensures.ran (YieldsList-from_map _ size_told road c.map.ensures.closure (λ x r q k. search (rules, tests))) ∙ sizes last rows
