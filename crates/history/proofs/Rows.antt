-- What holds of every row of a table, after a write and as tenths pass. Assumes nothing.
use Rattle.std.proofs.Common.{◌≡◌, ℕ, zero, suc, ◌<◌, ◌≤◌, true, ◌&&◌, leb, List, [], ◌∷◌, length, get_or, set, replicate, sym, refl, subst, arith, le-leb}
use Rattle.std.specs.List.{All}
use Rattle.std.proofs.lemmas.Bool.{and_parts, and_from, leb-true}
use Rattle.std.proofs.lemmas.List.Elements.{All-get_or, All-set, All-weaker, All-replicate}
use Rattle.std.proofs.lemmas.List.Sums.{AllPass-from_list_all, list_all-from_AllPass}
use Rattle.door.specs.declared.row.Row.{Row}
use Rattle.door.specs.Row.{legal, row_at_making}
use Rattle.history.specs.Kept.{kept, all_kept}

pub kept_legal : (t : ℕ) (r : Row) → kept t r ≡ true → legal r ≡ true
kept_legal t r h = (and_parts (legal r) (leb r.released_tenths t && leb r.released_tenths 2000000000) h).0

pub kept_tenths : (t : ℕ) (r : Row) → kept t r ≡ true → r.released_tenths ≤ t
kept_tenths t r h =
    leb-true r.released_tenths t (and_parts (leb r.released_tenths t) (leb r.released_tenths 2000000000) (and_parts (legal r) (leb r.released_tenths t && leb r.released_tenths 2000000000) h).1).0

pub kept_bound : (t : ℕ) (r : Row) → kept t r ≡ true → r.released_tenths ≤ 2000000000
kept_bound t r h =
    leb-true r.released_tenths 2000000000 (and_parts (leb r.released_tenths t) (leb r.released_tenths 2000000000) (and_parts (legal r) (leb r.released_tenths t && leb r.released_tenths 2000000000) h).1).1

pub kept_from : (t : ℕ) (r : Row) → legal r ≡ true → r.released_tenths ≤ t → r.released_tenths ≤ 2000000000 → kept t r ≡ true
kept_from t r l a b = and_from (legal r) _ l (and_from (leb r.released_tenths t) _ (le-leb r.released_tenths t a) (le-leb r.released_tenths 2000000000 b))

-- of each row of a table
abbrev pub Kept : ℕ → Row → Type 0
Kept t r = kept t r ≡ true

each_kept : (t : ℕ) (rs : List Row) → all_kept t rs ≡ true → All (Kept t) rs
unfolding all_kept
each_kept t rs h = AllPass-from_list_all (kept t) rs h

of_each : (t : ℕ) (rs : List Row) → All (Kept t) rs → all_kept t rs ≡ true
unfolding all_kept
of_each t rs h = list_all-from_AllPass (kept t) rs h

-- a row of the table
pub kept_at : (t : ℕ) (rs : List Row) (i : ℕ) (d : Row) → i < length rs → all_kept t rs ≡ true → kept t (get_or rs i d) ≡ true
kept_at t rs i d l h = All-get_or (Kept t) rs i d l (each_kept t rs h)

-- a row is written
pub kept_set : (t : ℕ) (rs : List Row) (i : ℕ) (r : Row) → kept t r ≡ true → all_kept t rs ≡ true → all_kept t (set rs i r) ≡ true
kept_set t rs i r k h = of_each t (set rs i r) (All-set (Kept t) rs i r k (each_kept t rs h))

kept_longer : (t u : ℕ) (r : Row) → t ≤ u → kept t r ≡ true → kept u r ≡ true
kept_longer t u r l h = let a = kept_tenths t r h in kept_from u r (kept_legal t r h) (omega arith) (kept_bound t r h)

-- tenths pass
pub kept_later : (t u : ℕ) (rs : List Row) → t ≤ u → all_kept t rs ≡ true → all_kept u rs ≡ true
kept_later t u rs l h = of_each u rs (All-weaker (Kept t) (Kept u) (λ r k. kept_longer t u r l k) rs (each_kept t rs h))

pub kept_fresh : (t n : ℕ) (r : Row) → r ≡ row_at_making → all_kept t (replicate n r) ≡ true
kept_fresh t n r e = of_each t (replicate n r) (All-replicate (Kept t) n r (subst (Kept t) (sym e) (kept_from t row_at_making refl (omega arith) (omega arith))))
