-- A decimal number, digit by digit. Assumes nothing.
use Rattle.std.proofs.Common.{◌≡◌, ℕ, ◌+◌, ◌-◌, ◌*◌, ◌^◌, ◌<◌, ◌≤◌, List, [], ◌∷◌, length, get_or, drop, None, sym, ◌∙◌, arith}
use Rattle.std.proofs.lemmas.List.{at_drop_more}
use Rattle.std.proofs.lemmas.Bool.Decides.{nat_tests}
use Rattle.numeral.specs.Decimal.{decimal_after, decimal_value, if_small}

after_ge : (bs : List ℕ) (n : ℕ) → n ≤ decimal_after n bs
after_ge [] n = omega arith
after_ge (b ∷ bs) n = omega (arith, after_ge bs (10 * n + (b - 48)))

small_none : (m n : ℕ) → m ≤ n → None ≡ if_small m → None ≡ if_small n
small_none m n h e = grind (arith, nat_tests)

-- the loop's invariant: n is the value of the digits before i
pub record Sofar (ds : List ℕ) (i n : ℕ) : Type 0 where
  pub fits : n < 2 ^ 64
  pub value : decimal_after n (drop i ds) ≡ decimal_value ds

-- where the digits up to i are too large, all of them are
pub too_large : (ds : List ℕ) (i n : ℕ) → Sofar ds i n → i < length ds → None ≡ if_small (10 * n + (get_or ds i 0 - 48)) → None ≡ if_small (decimal_value ds)
too_large ds i n old h e =
    let m = 10 * n + (get_or ds i 0 - 48) in
    let step : decimal_after m (drop (i + 1) ds) ≡ decimal_value ds = sym (at_drop_more (decimal_after n) ds i 0 h) ∙ old.value in
    small_none m (decimal_value ds) (omega (arith, step, after_ge (drop (i + 1) ds) m)) e
