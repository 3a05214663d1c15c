-- Refusals: the number of each cause and layer, and the order in which causes go. Assumes nothing.
use Rattle.std.specs.Prelude.{ℕ, suc, Bool, cond, List, [], ◌∷◌, ◌++◌, ◌==◌, nat_lt, codes, decimal}
use Rattle.board.specs.declared.refusal.Cause.{Cause}
use Rattle.board.specs.declared.refusal.Cause.TheVariants.{NoSuchDoor, NoSuchPriority, ValueOutOfRange, NoSuchItem, WrongTickLength, RecordCut, BadRecord, SimulateInService, AlarmStateMasked, NoNoticeWaiting, SlipIsOut, NoSuchSlip, ReportTooLong, LastTenth}
use Rattle.board.specs.declared.refusal.Layer.{Layer}
use Rattle.board.specs.declared.refusal.Layer.TheVariants.{Board, Panel, Records}
use Rattle.board.specs.declared.refusal.Refusal.{Refusal}

abbrev pub cause_number : Cause → ℕ
-- because of the input
cause_number NoSuchDoor = 1
cause_number NoSuchPriority = 2
cause_number ValueOutOfRange = 3
cause_number NoSuchItem = 4
cause_number WrongTickLength = 5
cause_number RecordCut = 6
cause_number BadRecord = 7
-- because of the state
cause_number SimulateInService = 8
cause_number AlarmStateMasked = 9
cause_number NoNoticeWaiting = 10
cause_number SlipIsOut = 11
cause_number NoSuchSlip = 12
cause_number ReportTooLong = 13
cause_number LastTenth = 14

abbrev pub layer_number : Layer → ℕ
layer_number Board = 1
layer_number Panel = 2
layer_number Records = 3

-- where several causes hold of one call, the one that stands earlier here goes
abbrev pub cause_order : List Cause
cause_order = NoSuchDoor ∷ NoSuchPriority ∷ ValueOutOfRange ∷ NoSuchItem ∷ WrongTickLength ∷ RecordCut ∷ BadRecord ∷ SimulateInService ∷ AlarmStateMasked ∷ NoNoticeWaiting ∷ SlipIsOut ∷ NoSuchSlip ∷ ReportTooLong ∷ LastTenth ∷ []

abbrev pub same_cause : Cause → Cause → Bool
same_cause a b = cause_number a == cause_number b

-- how many stand before c in a list of causes
abbrev pub position : Cause → List Cause → ℕ
position c [] = 0
position c (x ∷ xs) = cond (same_cause c x) 0 (suc (position c xs))

abbrev pub goes_before : Cause → Cause → Bool
goes_before a b = nat_lt (position a cause_order) (position b cause_order)

-- a refusal for cause e at layer l, with place p
abbrev pub refusal_of : Layer → Cause → ℕ → Refusal
refusal_of l e p = record { cause = e; layer = l; place = p }

abbrev pub refusal_text : Refusal → List ℕ
refusal_text r = codes "refused " ++ (decimal (cause_number r.cause) ++ (codes " layer " ++ (decimal (layer_number r.layer) ++ (codes " place " ++ decimal r.place))))

-- no output, contact or reading i at a board
abbrev pub no_such_output : ℕ → Refusal
no_such_output i = record { cause = NoSuchDoor; layer = Board; place = i }

-- a tick of n bytes at a board of another width
abbrev pub wrong_tick_length : ℕ → Refusal
wrong_tick_length n = record { cause = WrongTickLength; layer = Board; place = n }
