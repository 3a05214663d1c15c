-- The first place in a list that passes a test. Assumes nothing.
use Rattle.std.proofs.Common.{◌≡◌, ℕ, suc, ◌+◌, Bool, true, false, not, cond, List, ◌∷◌, length, Option, arith, refl}
use Rattle.std.specs.List.{position, position_or_len}
use Rattle.std.specs.Option.{unwrap_or}
use Rattle.std.proofs.lemmas.Bool.Decides.{nat_tests}
use Rattle.std.proofs.lemmas.List.Sums.{prefix_len-le-length}

module _ (p : ℕ → Bool) where
  -- what `position` answers, or the length where it answers none
  pub place_or_len : (bs : List ℕ) (r : Option ℕ) → r ≡ position p bs → unwrap_or r (length bs) ≡ position_or_len p bs
  place_or_len bs r e = let small = prefix_len-le-length (λ x. not (p x)) bs in rw e (grind (arith, nat_tests))

  pub place-cons : (b : ℕ) (bs : List ℕ) → position_or_len p (b ∷ bs) ≡ cond (p b) 0 (suc (position_or_len p bs))
  place-cons b bs = let n = position_or_len p bs in elim (p b) as (λ t. cond (not t) (1 + n) 0 ≡ cond t 0 (suc n)) [ true ↦ refl | false ↦ omega arith ]
