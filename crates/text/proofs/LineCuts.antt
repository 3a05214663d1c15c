-- The first line of a text, and the lines after it. Assumes nothing.
use Rattle.std.proofs.Common.{◌≡◌, ℕ, suc, ◌+◌, ◌≤◌, Bool, true, false, cond, eqb, List, [], ◌∷◌, length, take, drop, sym, refl, ap, subst, arith}
use Rattle.std.specs.List.{before_first, position_or_len, onto_first}
use Rattle.std.proofs.lemmas.List.{nil_from_length}
use Rattle.std.proofs.lemmas.Bool.{true≢false, eqb-true, cond_both}
use Rattle.text.specs.Lines.{newline, lines}
use Rattle.text.proofs.Places.{place-cons}

-- a line that is not empty begins with its first byte
longer : (b : ℕ) (bs : List ℕ) → onto_first b (lines bs) ≡ (b ∷ before_first newline bs) ∷ lines (drop 1 (drop (position_or_len newline bs) bs))
longer b [] = refl
longer b (c ∷ cs) =
    let n = position_or_len newline cs in
    let Cut : ℕ → Type 0 = λ m. onto_first b (lines (c ∷ cs)) ≡ (b ∷ take m (c ∷ cs)) ∷ lines (drop 1 (drop m (c ∷ cs))) in
    let At : Bool → Type 0 = λ t. onto_first b (cond t ([] ∷ lines cs) (onto_first c (lines cs))) ≡ (b ∷ take (cond t 0 (suc n)) (c ∷ cs)) ∷ lines (drop 1 (drop (cond t 0 (suc n)) (c ∷ cs))) in
    subst Cut (sym (place-cons newline c cs)) (elim (newline c) as At [ true ↦ refl | false ↦ ap (onto_first b) (longer c cs) ])

lines_cut : (bs : List ℕ) → eqb (length bs) 0 ≡ false → lines bs ≡ before_first newline bs ∷ lines (drop 1 (drop (position_or_len newline bs) bs))
lines_cut [] e = absurd (true≢false e)
lines_cut (b ∷ bs) e =
    let n = position_or_len newline bs in
    let Cut : ℕ → Type 0 = λ m. lines (b ∷ bs) ≡ take m (b ∷ bs) ∷ lines (drop 1 (drop m (b ∷ bs))) in
    let At : Bool → Type 0 = λ t. cond t ([] ∷ lines bs) (onto_first b (lines bs)) ≡ take (cond t 0 (suc n)) (b ∷ bs) ∷ lines (drop 1 (drop (cond t 0 (suc n)) (b ∷ bs))) in
    subst Cut (sym (place-cons newline b bs)) (elim (newline b) as At [ true ↦ refl | false ↦ longer b bs ])

pub next_line : (bs line after rest : List ℕ) → eqb (length bs) 0 ≡ false → line ≡ before_first newline bs → after ≡ drop (position_or_len newline bs) bs → rest ≡ drop 1 after → lines bs ≡ line ∷ lines rest
next_line bs line after rest some front back past = let cut = lines_cut bs some in cc

pub no_line : (bs : List ℕ) → eqb (length bs) 0 ≡ true → lines bs ≡ []
no_line bs e = ap lines (nil_from_length bs (eqb-true _ _ e))

onto_first-length : (b : ℕ) (ls : List (List ℕ)) → length (onto_first b ls) ≤ length ls + 1
onto_first-length b [] = omega arith
onto_first-length b (l ∷ ls) = omega arith

pub lines_within : (bs : List ℕ) → length (lines bs) ≤ length bs
lines_within [] = omega arith
lines_within (b ∷ bs) =
    let Few : List (List ℕ) → Type 0 = λ ls. length ls ≤ suc (length bs) in
    cond_both (newline b) ([] ∷ lines bs) (onto_first b (lines bs)) Few (λ _. omega (arith, lines_within bs)) (λ _. omega (arith, lines_within bs, onto_first-length b (lines bs)))
