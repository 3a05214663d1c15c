-- The lines of a text. Assumes nothing.
use Rattle.std.specs.Prelude.{ℕ, Bool, cond, List, [], ◌∷◌, ◌==◌}
use Rattle.std.specs.List.{onto_first}

abbrev pub newline : ℕ → Bool
newline b = b == 10

-- a newline ends a line; the last line may lack its end
abbrev pub lines : List ℕ → List (List ℕ)
lines [] = []
lines (b ∷ bs) = cond (newline b) ([] ∷ lines bs) (onto_first b (lines bs))
