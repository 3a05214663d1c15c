use Rattle.std.proofs.Common.{◌≡◌, ◌++◌, vec_items}
use Rattle.std.specs.Slice.Iter.{chunks_exact_rest, chunks_exact_size}
use Rattle.numeral.specs.Hex.{hex_pairs}
use Rattle.numeral.proofs.hex.pairs.Given as goal

abbrev pub invariant-loop-pair : goal.invariant-loop-pair
invariant-loop-pair l =
    (chunks_exact_size l.pair-iterator ≡ 2)
    × (vec_items l.bytes ++ hex_pairs (chunks_exact_rest l.pair-iterator) ≡ hex_pairs l.digits)
