-- The words that ask for a board: [steady COUNT] plain|loop DOORS. Assumes nothing.
use Rattle.std.specs.Prelude.{ℕ, Bool, cond, List, [], ◌∷◌, Some, None, Ok, Err, codes, Option, Result}
use Rattle.std.specs.Str.{bytes_eq}
use Rattle.line_words.specs.Read.{then, rest, first_number, limited}
use Rattle.line_words.specs.declared.fault.WordFault.{WordFault}
use Rattle.line_words.specs.declared.fault.WordFault.TheVariants.{Unknown, Missing}
use Rattle.board_words.specs.declared.wanted.BoardKind.{BoardKind}
use Rattle.board_words.specs.declared.wanted.BoardKind.TheVariants.{Plain, Loop}
use Rattle.board_words.specs.declared.wanted.Wanted.{Wanted}

abbrev pub kind_said : List ℕ → Result BoardKind WordFault
kind_said w = cond (bytes_eq w (codes "plain")) (Ok Plain) (cond (bytes_eq w (codes "loop")) (Ok Loop) (Err Unknown))

abbrev pub first_kind : List (List ℕ) → Result BoardKind WordFault
first_kind [] = Err Missing
first_kind (w ∷ ws) = kind_said w

-- DOORS, behind what is known by then
abbrev pub doors_say : Option ℕ → BoardKind → List (List ℕ) → Result Wanted WordFault
doors_say s k ws = then (first_number ws) (λ n. Ok (record { steady = s; kind = k; doors = n }))

abbrev pub is_steady : List ℕ → Bool
is_steady w = bytes_eq w (codes "steady")

-- COUNT plain|loop DOORS; the count is a byte
abbrev pub steady_says : List (List ℕ) → Result Wanted WordFault
steady_says ws = then (limited 255 (first_number ws)) (λ c. then (first_kind (rest ws)) (λ k. doors_say (Some c) k (rest (rest ws))))

abbrev pub wanted_says : List (List ℕ) → Result Wanted WordFault
wanted_says [] = Err Missing
wanted_says (w ∷ ws) = cond (is_steady w) (steady_says ws) (then (kind_said w) (λ k. doors_say None k ws))

-- the words behind these
abbrev pub past_wanted : List (List ℕ) → List (List ℕ)
past_wanted [] = []
past_wanted (w ∷ ws) = cond (is_steady w) (rest (rest (rest ws))) (rest ws)
