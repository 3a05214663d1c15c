-- A list that is mapped in place, one element after the other. Assumes nothing.
use Rattle.std.proofs.Common.{◌≡◌, ℕ, ◌+◌, ◌<◌, List, map, length, get_or, take, drop, set, ◌∙◌, arith}
use Rattle.std.proofs.lemmas.List.{take_more_set, drop_more, drop-set-lt, map_more}

pub mapped_more : {X : Type 0} (f : X → X) (old new : List X) (i : ℕ) (d v : X) → i < length old → i < length new → take i new ≡ map f (take i old) → drop i new ≡ drop i old → v ≡ f (get_or new i d) → (take (i + 1) (set new i v) ≡ map f (take (i + 1) old)) × (drop (i + 1) (set new i v) ≡ drop (i + 1) old)
mapped_more f old new i d v ho hn e r w =
    let here = drop_more new i d hn in
    let was = drop_more old i d ho in
    let same : get_or new i d ≡ get_or old i d = cc in
    let rest : drop (i + 1) new ≡ drop (i + 1) old = cc in
    let more = map_more f old i d ho in
    let front = take_more_set new i v hn in
    (cc, drop-set-lt (i + 1) new i v (omega arith) ∙ rest)
