-- The runs of all doors, door by door. Assumes nothing.
use Rattle.std.proofs.Common.{◌≡◌, ℕ, ◌+◌, ◌<◌, ◌≤◌, List, length, get_or, take, drop, set, sym, ap, ◌∙◌, arith}
use Rattle.std.proofs.lemmas.List.{drop_more, drop-set-lt, get_or-take}
use Rattle.board.specs.Held.{each}
use Rattle.board.specs.declared.status.DoorStatus.{DoorStatus}
use Rattle.board.specs.declared.status.DoorStatus.TheVariants.{Closed}
use Rattle.board.proofs.Filled.{filled_more}
use Rattle.steady.specs.declared.run.Run.{Run}
use Rattle.steady.specs.Run.{no_run, run_after}
use Rattle.steady.specs.Steady.{Layer}

-- the run of door d after a tick that left the contacts cs, where old held n doors' runs
abbrev pub next_run : ℕ → ℕ → List Run → List DoorStatus → ℕ → Run
next_run k n old cs d = run_after k (get_or (take n old) d no_run) (get_or cs d Closed)

same_at : (xs ys : List Run) (i : ℕ) (z : Run) → i < length xs → i < length ys → drop i xs ≡ drop i ys → (get_or xs i z ≡ get_or ys i z) × (drop (i + 1) xs ≡ drop (i + 1) ys)
same_at xs ys i z hx hy e =
    let dx = drop_more xs i z hx in
    let dy = drop_more ys i z hy in
    (cc, cc)

pub step_runs : (k n i : ℕ) (old new ys : List Run) (cs : List DoorStatus) → i < n → n ≤ length old → length new ≡ length old → take i new ≡ each i (next_run k n old cs) → drop i new ≡ drop i old → ys ≡ set new i (run_after k (get_or new i no_run) (get_or cs i Closed)) → (take (i + 1) ys ≡ each (i + 1) (next_run k n old cs)) × (drop (i + 1) ys ≡ drop (i + 1) old)
step_runs k n i old new ys cs l few len e r w =
    let s = same_at new old i no_run (omega arith) (omega arith) r in
    let known = s.0 ∙ sym (get_or-take n old i no_run l) in
    let v = run_after k (get_or new i no_run) (get_or cs i Closed) in (
      filled_more (next_run k n old cs) new ys i v (omega arith) w e (ap (λ x. run_after k x (get_or cs i Closed)) known),
      ap (drop (i + 1)) w ∙ drop-set-lt (i + 1) new i v (omega arith) ∙ s.1,
    )

abbrev pub layer : {M : Type 0} → M → ℕ → List Run → Layer M
layer m k rs = record { below = m; count = k; runs = rs }
