-- How many contacts a layer shows. Assumes nothing.
use Rattle.std.proofs.Common.{◌≡◌, ◌≤◌, ℕ, List, length, take, map, ◌∙◌, sym, subst}
use Rattle.std.proofs.lemmas.List.{length-take-le, length-map}
use Rattle.steady.specs.declared.run.Run.{Run}
use Rattle.steady.specs.Steady.{shown_of}

pub shown_length : (runs : List Run) (n : ℕ) → length runs ≡ 64 → n ≤ 64 → length (map shown_of (take n runs)) ≡ n
shown_length runs n e l = let P : ℕ → Type 0 = λ k. n ≤ k in length-map _ _ ∙ length-take-le _ runs (subst P (sym e) l)
