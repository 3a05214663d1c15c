-- A whole wiring list: what its lines say, and which of them are faulty. Assumes nothing.
use Rattle.std.specs.Prelude.{ℕ, ◌+◌, Bool, true, false, cond, ◌||◌, List, [], ◌∷◌, ◌++◌, Some, None, Ok, Err, codes, decimal, Option, Result}
use Rattle.wiring.specs.declared.fault.Fault.{Fault}
use Rattle.wiring.specs.declared.fault.Fault.TheVariants.{Word, NoBoard}
use Rattle.line_words.specs.declared.fault.WordFault.{WordFault}
use Rattle.wiring.specs.Fault.{fault_reason}
use Rattle.wiring.specs.declared.list.LineFault.{LineFault}
use Rattle.wiring.specs.Step.{Said, line_says}
use Rattle.wiring.specs.Step.Said.{says_board, says_drive, says_tick, says_ask}

abbrev pub is_board : Said → Bool
is_board (says_board w) = true
is_board (says_drive d) = false
is_board (says_tick bs) = false
is_board says_ask = false

abbrev pub at_line : ℕ → Fault → LineFault
at_line n e = record { line = n; fault = e }

abbrev pub line_fault_text : LineFault → List ℕ
line_fault_text w = codes "line " ++ (decimal w.line ++ (codes ": " ++ fault_reason w.fault))

-- what one line adds to the steps
abbrev pub steps_in : Result (Option Said) WordFault → List Said
steps_in (Ok None) = []
steps_in (Ok (Some s)) = s ∷ []
steps_in (Err e) = []

-- whether a board may stand before the next line: a faulty line may have been meant for one
abbrev pub started_after : Bool → Result (Option Said) WordFault → Bool
started_after b (Ok None) = b
started_after b (Ok (Some s)) = b || is_board s
started_after b (Err e) = true

-- what line n adds to the faults
abbrev pub faults_in : ℕ → Bool → Result (Option Said) WordFault → List LineFault
faults_in n b (Ok None) = []
faults_in n b (Ok (Some s)) = cond (b || is_board s) [] (at_line n NoBoard ∷ [])
faults_in n b (Err e) = at_line n (Word e) ∷ []

abbrev pub steps_of : List (List ℕ) → List Said
steps_of [] = []
steps_of (l ∷ ls) = steps_in (line_says l) ++ steps_of ls

-- a list without a board line has its fault after its last line
abbrev pub faults_of : ℕ → Bool → List (List ℕ) → List LineFault
faults_of n b [] = cond b [] (at_line n NoBoard ∷ [])
faults_of n b (l ∷ ls) = faults_in n b (line_says l) ++ faults_of (n + 1) (started_after b (line_says l)) ls
