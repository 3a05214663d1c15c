-- The first word of a line, and the words after it. Assumes nothing.
use Rattle.std.proofs.Common.{◌≡◌, ℕ, suc, Bool, true, false, not, cond, eqb, List, [], ◌∷◌, length, take, drop, sym, refl, ap, ◌∙◌, subst, arith}
use Rattle.std.specs.List.{before_first, position_or_len, onto_first}
use Rattle.std.proofs.lemmas.Bool.{true≢false, not-false, not-true, eqb-true, cond-true, cond-false, cond_both}
use Rattle.text.specs.Words.{blank, word_ends, words_of}
use Rattle.text.proofs.Places.{place-cons}

abbrev pub no_blank : ℕ → Bool
no_blank b = not (blank b)

-- what stands behind the blanks in front
abbrev pub skip_blanks : List ℕ → List ℕ
skip_blanks bs = drop (position_or_len no_blank bs) bs

skipped : (bs : List ℕ) → words_of (skip_blanks bs) ≡ words_of bs
skipped [] = refl
skipped (b ∷ bs) =
    let Same : ℕ → Type 0 = λ m. words_of (drop m (b ∷ bs)) ≡ words_of (b ∷ bs) in
    subst Same (sym (place-cons no_blank b bs)) (cond_both (no_blank b) 0 (suc (position_or_len no_blank bs)) Same (λ e. refl) (λ e. skipped bs ∙ sym (cond-true (blank b) _ _ (not-false _ e))))

-- where the first blank of a word's rest stands
first_blank : (b : ℕ) (bs : List ℕ) → blank b ≡ false → position_or_len blank (b ∷ bs) ≡ suc (position_or_len blank bs)
first_blank b bs e = place-cons blank b bs ∙ cond-false (blank b) _ _ e

ends_here : (bs : List ℕ) → word_ends bs ≡ true → position_or_len blank bs ≡ 0
ends_here [] e = refl
ends_here (b ∷ bs) e = place-cons blank b bs ∙ cond-true (blank b) _ _ e

word_cut : (bs : List ℕ) → word_ends bs ≡ false → words_of bs ≡ before_first blank bs ∷ words_of (drop (position_or_len blank bs) bs)
word_cut [] e = absurd (true≢false e)
word_cut (b ∷ bs) e =
    let n = position_or_len blank bs in
    let Cut : List (List ℕ) → Type 0 = λ ws. ws ≡ (b ∷ take n bs) ∷ words_of (drop n bs) in
    let one : words_of (b ∷ bs) ≡ cond (word_ends bs) ((b ∷ []) ∷ words_of bs) (onto_first b (words_of bs)) = cond-false (blank b) _ _ e in
    let cut : Cut (cond (word_ends bs) ((b ∷ []) ∷ words_of bs) (onto_first b (words_of bs))) =
    cond_both (word_ends bs) _ _ Cut (λ at_end. ap (λ m. (b ∷ take m bs) ∷ words_of (drop m bs)) (sym (ends_here bs at_end))) (λ on. ap (onto_first b) (word_cut bs on)) in
    one ∙ cut ∙ ap (λ m. take m (b ∷ bs) ∷ words_of (drop m (b ∷ bs))) (sym (first_blank b bs e))

-- a word that is not empty begins where it stands
begins : (bs : List ℕ) → eqb (length (before_first blank bs)) 0 ≡ false → word_ends bs ≡ false
begins [] e = e
begins (b ∷ bs) e =
    elim (word_ends (b ∷ bs)) as (λ t. word_ends (b ∷ bs) ≡ t → t ≡ false) [ true ↦ (λ at_end. absurd (true≢false (ap (λ m. eqb (length (take m (b ∷ bs))) 0) (sym (ends_here (b ∷ bs) at_end)) ∙ e))) | false ↦ (λ _. refl) ] refl

-- where no word stands behind the blanks, nothing does
emptied : (bs : List ℕ) → eqb (length (before_first blank (skip_blanks bs))) 0 ≡ true → skip_blanks bs ≡ []
emptied [] e = refl
emptied (b ∷ bs) e =
    let Empty : ℕ → Type 0 = λ m. eqb (length (before_first blank (drop m (b ∷ bs)))) 0 ≡ true → drop m (b ∷ bs) ≡ [] in
    subst Empty (sym (place-cons no_blank b bs)) (cond_both (no_blank b) 0 (suc (position_or_len no_blank bs)) Empty
    (λ word e. let one : suc (length (take (position_or_len blank bs) bs)) ≡ 0 = eqb-true _ _ (ap (λ m. eqb (length (take m (b ∷ bs))) 0) (sym (first_blank b bs (not-true _ word))) ∙ e) in absurd (omega arith))
    (λ _. emptied bs)) e

pub next_word : (bs rest word after : List ℕ) → rest ≡ skip_blanks bs → word ≡ before_first blank rest → after ≡ drop (position_or_len blank rest) rest → eqb (length word) 0 ≡ false → words_of bs ≡ word ∷ words_of after
next_word bs rest word after skip front back some =
    let all = skipped bs in
    let cut = word_cut rest (begins rest (ap (λ w. eqb (length w) 0) (sym front) ∙ some)) in
    cc

pub no_word : (bs rest word after : List ℕ) → rest ≡ skip_blanks bs → word ≡ before_first blank rest → after ≡ drop (position_or_len blank rest) rest → eqb (length word) 0 ≡ true → (words_of bs ≡ []) × (words_of after ≡ [])
no_word bs rest word after skip front back none =
    let empty : rest ≡ [] = skip ∙ emptied bs (ap (λ r. eqb (length (before_first blank r)) 0) (sym skip) ∙ ap (λ w. eqb (length w) 0) (sym front) ∙ none) in
    (sym (skipped bs) ∙ ap words_of (sym skip ∙ empty), ap words_of (back ∙ ap (λ r. drop (position_or_len blank r) r) empty))
