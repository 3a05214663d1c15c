-- What is read of the front of a table that is filled place by place. Assumes nothing.
use Rattle.std.proofs.Common.{◌≡◌, ℕ, ◌+◌, ◌<◌, List, length, map, set, take, sym, ap, ◌∙◌, subst}
use Rattle.std.proofs.lemmas.List.{length-map, map-set, take-map}
use Rattle.board.specs.Held.{each}
use Rattle.board.proofs.Filled.{filled_more}

-- one place more of what f reads of a table
pub filled_part : {X Y : Type 0} (f : X → Y) (g : ℕ → Y) (xs ys : List X) (i : ℕ) (v : X) → i < length xs → ys ≡ set xs i v → map f (take i xs) ≡ each i g → f v ≡ g i → map f (take (i + 1) ys) ≡ each (i + 1) g
filled_part f g xs ys i v l s e w =
    sym (take-map f (i + 1) ys)
    ∙ filled_more g (map f xs) (map f ys) i (f v) (subst (λ k. i < k) (sym (length-map xs f)) l) (ap (map f) s ∙ map-set f xs i v) (take-map f i xs ∙ e) w
