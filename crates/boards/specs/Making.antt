-- How many doors a board has that is wished for n. Assumes nothing.
use Rattle.std.specs.Prelude.{ℕ, cond, ◌==◌, nat_lt}

abbrev pub doors_for : ℕ → ℕ
doors_for n = cond (n == 0) 1 (cond (nat_lt 64 n) 64 n)
