-- The bits of a record's map. Assumes nothing.
use Rattle.std.proofs.Common.{◌≡◌, ℕ, zero, suc, ◌+◌, ◌*◌, ◌/◌, ◌%◌, ◌^◌, ◌<◌, Bool, true, false, cond, not, eqb, List, [], ◌∷◌, get_or, is_some, Some, None, Option, ap, ◌∙◌, sym, arith}
use lib.Bits.{bit_and}
use Rattle.std.specs.Int.{bit_at}
use Rattle.std.proofs.lemmas.Nat.Bits.{and_pow}
use Rattle.std.proofs.lemmas.Nat.{pow_pos}
use Rattle.std.proofs.Math.Nat.{div-div-eq-div-mul, div-one, zero-div, pow-succ'}
use Rattle.std.proofs.lemmas.Bool.Decides.{nat_tests}
use Rattle.report.specs.declared.fields.Fields.{Fields}
use Rattle.report.specs.Fields.{bit_of, map_of}

-- the number with these bits, the lowest first
abbrev number : List Bool → ℕ
number [] = 0
number (b ∷ bs) = cond b 1 0 + 2 * number bs

lowest : (b : Bool) (n : ℕ) → ((cond b 1 0 + 2 * n) % 2 ≡ cond b 1 0) × ((cond b 1 0 + 2 * n) / 2 ≡ n)
lowest true n = (omega arith, omega arith)
lowest false n = (omega arith, omega arith)

bit_of_number : (bs : List Bool) (k : ℕ) → bit_at (number bs) k ≡ cond (get_or bs k false) 1 0
bit_of_number [] k = ap (λ n. n % 2) (zero-div (2 ^ k))
bit_of_number (b ∷ bs) zero = ap (λ n. n % 2) (div-one (cond b 1 0 + 2 * number bs)) ∙ (lowest b (number bs)).0
bit_of_number (b ∷ bs) (suc k) =
    ap (λ n. number (b ∷ bs) / n % 2) (pow-succ' 2 k) ∙ ap (λ n. n % 2) (sym (div-div-eq-div-mul (number (b ∷ bs)) 2 (2 ^ k)) ∙ ap (λ n. n / 2 ^ k) (lowest b (number bs)).1) ∙ bit_of_number bs k

tested : (b : Bool) (w : ℕ) → 0 < w → eqb (cond b 1 0 * w) 0 ≡ not b
tested true w h = grind (arith, nat_tests)
tested false w h = grind (arith, nat_tests)

-- which fields are there
abbrev there : Fields → List Bool
there f =
    is_some f.present_value ∷ is_some f.status_flags ∷ is_some f.door_alarm_state ∷ is_some f.door_status
    ∷ is_some f.lock_status ∷ is_some f.secured_status ∷ is_some f.output ∷ is_some f.released_tenths ∷ []

bit_is : (o : Option ℕ) (w : ℕ) → bit_of o w ≡ cond (is_some o) 1 0 * w
bit_is None w = omega arith
bit_is (Some v) w = omega arith

map_is : (f : Fields) → map_of f ≡ number (there f)
map_is f = omega (arith, bit_is f.present_value 1, bit_is f.status_flags 2, bit_is f.door_alarm_state 4, bit_is f.door_status 8, bit_is f.lock_status 16, bit_is f.secured_status 32, bit_is f.output 64, bit_is f.released_tenths 128)

-- bit k of the map stands where field k is there
pub stands : (f : Fields) (k : ℕ) → eqb (bit_and (map_of f) (2 ^ k)) 0 ≡ not (get_or (there f) k false)
stands f k =
    ap (λ n. eqb (bit_and n (2 ^ k)) 0) (map_is f) ∙ ap (λ n. eqb n 0) (and_pow (number (there f)) k) ∙ ap (λ n. eqb (n * 2 ^ k) 0) (bit_of_number (there f) k)
    ∙ tested (get_or (there f) k false) (2 ^ k) (pow_pos k)
