-- A text that has a piece for each number: the lemma of board, under a name that `using` can say here. Assumes nothing.
use Rattle.std.proofs.Common.{◌≡◌, ℕ, ◌+◌, List, ◌++◌}
use Rattle.std.specs.List.{range_with_len, flat_map}
use Rattle.board.proofs.Filled as filled

pub one_piece_more : (f : ℕ → List ℕ) (n : ℕ) → flat_map f (range_with_len 0 (n + 1)) ≡ flat_map f (range_with_len 0 n) ++ f n
one_piece_more f n = filled.one_piece_more f n
