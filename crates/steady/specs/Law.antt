-- The steady contact's promise over all that is driven and told after it is made. Assumes nothing.
use Rattle.std.specs.Prelude.{◌≡◌, ℕ, zero, suc, ◌<◌, Bool, true, false, cond, ◌&&◌, List, [], ◌∷◌, slice_index_or}
use Rattle.board.specs.Held.{Held}
use Rattle.board.specs.declared.status.DoorStatus.{DoorStatus}
use Rattle.board.specs.declared.status.DoorStatus.TheVariants.{Closed, Unknown}
use Rattle.board.specs.declared.status.Output.{Output}
use Rattle.steady.specs.Run.{same_status}
use Rattle.steady.specs.Steady.{Layer, count_for, steady_held, steady_driven, steady_told}

-- a call that changes a board, by the board's own rules (a refused one changes nothing)
pub data Move : Type 0 where
  drove : ℕ → Output → Move
  ticked : List ℕ → Move

-- a board's memory after such calls, the newest first in the list
abbrev pub after : {M : Type 0} → (M → ℕ → Output → M) → (M → List ℕ → M) → List Move → M → M
after driven told [] m = m
after driven told (drove i v ∷ ms) m = driven (after driven told ms m) i v
after driven told (ticked bs ∷ ms) m = told (after driven told ms m) bs

-- the contact of door d as each of the ticks left it, the newest first
abbrev pub gave : {M : Type 0} → (M → Held) → (M → ℕ → Output → M) → (M → List ℕ → M) → ℕ → List Move → M → List DoorStatus
gave held driven told d [] m = []
gave held driven told d (drove i v ∷ ms) m = gave held driven told d ms m
gave held driven told d (ticked bs ∷ ms) m = slice_index_or (held (told (after driven told ms m) bs)).inputs.contacts d Closed ∷ gave held driven told d ms m

-- the newest k of cs are all c
abbrev pub last_all : ℕ → DoorStatus → List DoorStatus → Bool
last_all zero c cs = true
last_all (suc k) c [] = false
last_all (suc k) c (x ∷ xs) = same_status x c && last_all k c xs

-- UNKNOWN before the first tick; at a tick the contact that the last k ticks all gave, if they gave one, else as before
abbrev pub steadied : ℕ → List DoorStatus → DoorStatus
steadied k [] = Unknown
steadied k (c ∷ cs) = cond (last_all k c (c ∷ cs)) c (steadied k cs)

-- over a board with memory m: whatever is driven and told, the contact is the steadied one, and all else is as below
pub record Steadies {M : Type 0} (held : M → Held) (driven : M → ℕ → Output → M) (told : M → List ℕ → M) (m : M) (k : ℕ) (l : Layer M) : Type 0 where
  pub contact : (ms : List Move) (d : ℕ) → d < (held m).doors → slice_index_or (steady_held held (after (steady_driven driven) (steady_told held told) ms l)).inputs.contacts d Closed ≡ steadied (count_for k) (gave held driven told d ms m)
  pub reading : (ms : List Move) → (steady_held held (after (steady_driven driven) (steady_told held told) ms l)).inputs.readings ≡ (held (after driven told ms m)).inputs.readings
  pub output : (ms : List Move) → (steady_held held (after (steady_driven driven) (steady_told held told) ms l)).outputs ≡ (held (after driven told ms m)).outputs
  pub doors : (ms : List Move) → (steady_held held (after (steady_driven driven) (steady_told held told) ms l)).doors ≡ (held (after driven told ms m)).doors
  pub width : (ms : List Move) → (steady_held held (after (steady_driven driven) (steady_told held told) ms l)).width ≡ (held (after driven told ms m)).width
