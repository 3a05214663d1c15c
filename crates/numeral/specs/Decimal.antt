-- Decimal numbers. Assumes nothing.
use Rattle.std.specs.Prelude.{ℕ, ◌+◌, ◌-◌, ◌*◌, ◌^◌, Bool, cond, not, ◌&&◌, ◌||◌, List, [], ◌∷◌, length, Some, None, Ok, Err, Option, Result, ◌==◌, nat_le, nat_lt}
use Rattle.std.specs.List.{list_all}
use Rattle.numeral.specs.declared.decimal.NumberFault.{NumberFault}
use Rattle.numeral.specs.declared.decimal.NumberFault.TheVariants.{NotDigits, TooLarge}

-- `0` to `9`
abbrev pub digit : ℕ → Bool
digit b = nat_le 48 b && nat_le b 57

abbrev pub all_digits : List ℕ → Bool
all_digits bs = list_all digit bs

-- the number that digits write behind those of n
abbrev pub decimal_after : ℕ → List ℕ → ℕ
decimal_after n [] = n
decimal_after n (b ∷ bs) = decimal_after (10 * n + (b - 48)) bs

abbrev pub decimal_value : List ℕ → ℕ
decimal_value bs = decimal_after 0 bs

-- n, where 64 bits hold it
abbrev pub if_small : ℕ → Option ℕ
if_small n = cond (nat_lt n (2 ^ 64)) (Some n) None

abbrev pub decimal_answer : List ℕ → Result ℕ NumberFault
decimal_answer bs =
    cond (length bs == 0 || not (all_digits bs)) (Err NotDigits) (cond (nat_lt (decimal_value bs) (2 ^ 64)) (Ok (decimal_value bs)) (Err TooLarge))
