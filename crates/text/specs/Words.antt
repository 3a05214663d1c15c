-- The words of a line. Assumes nothing.
use Rattle.std.specs.Prelude.{ℕ, Bool, true, cond, ◌||◌, List, [], ◌∷◌, ◌==◌}
use Rattle.std.specs.List.{before_first, onto_first}

-- space, tab and carriage return
abbrev pub blank : ℕ → Bool
blank b = b == 32 || (b == 9 || b == 13)

-- a `#` starts a comment
abbrev pub comment : ℕ → Bool
comment b = b == 35

-- no word goes on here
abbrev pub word_ends : List ℕ → Bool
word_ends [] = true
word_ends (b ∷ bs) = blank b

-- the longest runs of bytes that are no blank
abbrev pub words_of : List ℕ → List (List ℕ)
words_of [] = []
words_of (b ∷ bs) = cond (blank b) (words_of bs) (cond (word_ends bs) ((b ∷ []) ∷ words_of bs) (onto_first b (words_of bs)))

abbrev pub words : List ℕ → List (List ℕ)
words line = words_of (before_first comment line)
