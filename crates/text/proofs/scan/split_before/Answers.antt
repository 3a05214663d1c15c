use Rattle.std.proofs.Common.{◌≡◌, rules, ◌∙◌, ap, take, drop}
use Rattle.std.specs.List.{position_or_len}
use Rattle.std.proofs.lemmas.Iterator.{YieldsList-from_slice}
use Rattle.std.proofs.lemmas.Iterator.Search.{position_from_yields_List}
use Rattle.text.proofs.Places.{place_or_len}
use Rattle.text.proofs.scan.split_before.Goals as goal

pub returns : goal.returns
returns g c = λ p same.
    let bs = c.args.bytes.now in
    let n : c.unwrap_or.result ≡ position_or_len p bs =
    c.unwrap_or.ensures ∙ place_or_len p bs _ (position_from_yields_List p _ _ _ c.position-end.ensures.ran (YieldsList-from_slice bs cc) (λ x b q k. search (rules, same))) in
    (c.split_at.ensures.front ∙ ap (λ k. take k bs) n, c.split_at.ensures.back ∙ ap (λ k. drop k bs) n)
