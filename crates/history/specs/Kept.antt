-- What holds of every row of a panel's table. Assumes nothing.
use Rattle.std.specs.Prelude.{◌≡◌, ℕ, ◌+◌, ◌*◌, ◌<◌, ◌≤◌, Bool, true, ◌&&◌, List, [], ◌∷◌, Ok, Err, Result, nat_le}
use Rattle.std.specs.List.{list_all}
use Rattle.board.specs.declared.refusal.Cause.{Cause}
use Rattle.door.specs.declared.row.Row.{Row}
use Rattle.door.specs.Row.{legal}
use Rattle.history.specs.Views.{View, doors_of, row_at}

-- a door can be made of it, and it was released for no more tenths than have passed, nor for more than 2,000,000,000
abbrev pub kept : ℕ → Row → Bool
kept tenth r = legal r && (nat_le r.released_tenths tenth && nat_le r.released_tenths 2000000000)

unfoldable pub all_kept : ℕ → List Row → Bool
all_kept tenth rows = list_all (kept tenth) rows

-- a row that a call made is kept
abbrev pub MadeKept : ℕ → Result Row Cause → Type 0
MadeKept tenth (Ok r) = kept tenth r ≡ true
MadeKept tenth (Err e) = Unit {0}

-- a call that is no tick leaves the released tenths of its row
abbrev pub Same : Row → Result Row Cause → Type 0
Same r (Ok q) = q.released_tenths ≡ r.released_tenths
Same r (Err e) = Unit {0}

-- there is room for a tick that has begun: no door has been released for as many tenths as have passed, the last tenth has not
-- passed, and there are serials for all doors
pub record Room (v : View) : Type 0 where
  pub released : (d : ℕ) → d < doors_of v → (row_at v d).released_tenths < v.tenth
  pub last : v.tenth ≤ 2000000000
  pub serials : v.notices.next + 63 ≤ 64 * v.tenth
