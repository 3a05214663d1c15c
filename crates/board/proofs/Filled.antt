-- A list, or a text, that is filled place by place. Assumes nothing.
use Rattle.std.proofs.Common.{◌≡◌, ℕ, ◌+◌, ◌<◌, List, [], ◌∷◌, ◌++◌, length, take, set, sym, ap, ◌∙◌, arith}
use Rattle.std.specs.List.{range_with_len, flat_map}
use Rattle.std.proofs.lemmas.List.{take_more_set, flat_map_more, map-id}
use Rattle.std.proofs.lemmas.List.FromFn.{map-range_with_len_more}
use Rattle.board.specs.Held.{each}

-- one place more
pub filled_more : {X : Type 0} (f : ℕ → X) (xs ys : List X) (i : ℕ) (v : X) → i < length xs → ys ≡ set xs i v → take i xs ≡ each i f → v ≡ f i → take (i + 1) ys ≡ each (i + 1) f
filled_more f xs ys i v l s e w =
    ap (take (i + 1)) s ∙ take_more_set xs i v l ∙ ap (λ t. t ++ (v ∷ [])) e ∙ ap (λ x. each i f ++ (x ∷ [])) w ∙ sym (map-range_with_len_more f 0 i i (omega arith))

counting_more : (n : ℕ) → range_with_len 0 (n + 1) ≡ range_with_len 0 n ++ (n ∷ [])
counting_more n = sym (map-id (range_with_len 0 (n + 1))) ∙ map-range_with_len_more (λ x. x) 0 n n (omega arith) ∙ ap (λ l. l ++ (n ∷ [])) (map-id (range_with_len 0 n))

-- with a piece for each number, the piece of one number more
pub one_piece_more : (f : ℕ → List ℕ) (n : ℕ) → flat_map f (range_with_len 0 (n + 1)) ≡ flat_map f (range_with_len 0 n) ++ f n
one_piece_more f n = ap (flat_map f) (counting_more n) ∙ sym (flat_map_more f [] (range_with_len 0 n) n)
