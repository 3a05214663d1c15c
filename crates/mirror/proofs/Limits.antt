-- The limit of a field by the order of its type. Assumes nothing.
use Rattle.std.proofs.Common.{◌≡◌, ℕ, Some, None, Option, refl, arith}
use Rattle.std.specs.Ordering.{nat_cmp, partial_le, is_le}
use Rattle.std.proofs.Common.{leb}
use Rattle.std.proofs.lemmas.Bool.Decides.{nat_tests}
use Rattle.mirror.specs.Record.{is_at_most, in_range}

least : (v most : ℕ) → is_le (nat_cmp v most) ≡ leb v most
least v most = grind (arith, nat_tests)

pub at_most_is : (o : Option ℕ) (most : ℕ) → is_at_most (partial_le (λ x y. Some (nat_cmp x y))) o most ≡ in_range o most
at_most_is None most = refl
at_most_is (Some v) most = least v most
