-- The priority rule. Assumes nothing.
use Rattle.std.specs.Prelude.{ℕ, ◌-◌, ◌<◌, Bool, cond, ◌||◌, List, [], ◌∷◌, Some, None, Ok, Err, Option, Result, ◌==◌, nat_lt}
use Rattle.board.specs.declared.refusal.Cause.{Cause}
use Rattle.board.specs.declared.refusal.Cause.TheVariants.{NoSuchPriority}

-- the value in the lowest-numbered filled slot, else the default
abbrev pub present : {T : Type 0} → List (Option T) → T → T
present [] d = d
present (Some v ∷ slots) d = v
present (None ∷ slots) d = present slots d

-- priorities are 1 to 16, and 6 is reserved
abbrev pub no_priority : ℕ → Bool
no_priority p = nat_lt p 1 || (nat_lt 16 p || p == 6)

-- the slot of priority p stands at p - 1
abbrev pub slot_answer : ℕ → Result ℕ Cause
slot_answer p = cond (no_priority p) (Err NoSuchPriority) (Ok (p - 1))

abbrev pub Below16 : Result ℕ Cause → Type 0
Below16 (Ok i) = i < 16
Below16 (Err e) = Unit {0}
