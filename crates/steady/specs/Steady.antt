-- The steady contact over any board. Assumes nothing.
use Rattle.std.specs.Prelude.{ℕ, cond, List, map, length, take, replicate, ◌==◌, slice_index_or}
use Rattle.board.specs.Held.{Held, with_inputs, each}
use Rattle.board.specs.declared.status.DoorStatus.{DoorStatus}
use Rattle.board.specs.declared.status.DoorStatus.TheVariants.{Closed}
use Rattle.board.specs.declared.status.Output.{Output}
use Rattle.steady.specs.declared.run.Run.{Run}
use Rattle.steady.specs.declared.steady.Steady.{Steady}
use Rattle.steady.specs.Run.{run_at_making, no_run, run_after}

-- what the layer holds: the memory of the board below, how many ticks in a row show a contact, and a run for each door
pub record Layer (M : Type 0) : Type 0 where
  pub below : M
  pub count : ℕ
  pub runs : List Run

abbrev pub shown_of : Run → DoorStatus
shown_of r = r.shown

-- a count of 0 is taken as 1
abbrev pub count_for : ℕ → ℕ
count_for k = cond (k == 0) 1 k

-- each run goes on by the contact that its door has below
abbrev pub runs_after : ℕ → List Run → List DoorStatus → List Run
runs_after k rs cs = each (length rs) (λ d. run_after k (slice_index_or rs d no_run) (slice_index_or cs d Closed))

-- over a board whose memory is an M
module _ {M : Type 0} (held : M → Held) where
  abbrev pub steady_held : Layer M → Held
  steady_held l = with_inputs (held l.below) (record { contacts = map shown_of l.runs; readings = (held l.below).inputs.readings })

  abbrev pub steady_told : (M → List ℕ → M) → Layer M → List ℕ → Layer M
  steady_told told l bs = record { below = told l.below bs; count = l.count; runs = runs_after l.count l.runs (held (told l.below bs)).inputs.contacts }

  abbrev pub steady_memory : {B : Type 0} → (B → M) → Steady B → Layer M
  steady_memory memory s = record { below = memory s.below; count = s.count; runs = take (held (memory s.below)).doors s.runs }

  abbrev pub steady_fresh : M → ℕ → Layer M
  steady_fresh m k = record { below = m; count = count_for k; runs = replicate (held m).doors run_at_making }

abbrev pub steady_driven : {M : Type 0} → (M → ℕ → Output → M) → Layer M → ℕ → Output → Layer M
steady_driven driven l i v = record { below = driven l.below i v; count = l.count; runs = l.runs }
