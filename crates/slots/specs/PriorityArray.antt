-- The sixteen slots of what can be commanded. Assumes nothing.
use Rattle.std.specs.Prelude.{ℕ, min, Bool, cond, List, take, replicate, None, Option, is_some, nat_lt, slice_set}
use Rattle.std.specs.List.{list_any}

abbrev pub none_filled : {T : Type 0} → List (Option T)
none_filled = replicate 16 None

-- what stands at a place is replaced; there are sixteen places
abbrev pub written_at : {T : Type 0} → List (Option T) → ℕ → Option T → List (Option T)
written_at slots i s = cond (nat_lt i 16) (slice_set slots i s) slots

-- the slots before a place
abbrev pub before : {T : Type 0} → ℕ → List (Option T) → List (Option T)
before i slots = take (min i 16) slots

abbrev pub any_filled : {T : Type 0} → List (Option T) → Bool
any_filled slots = list_any is_some slots
