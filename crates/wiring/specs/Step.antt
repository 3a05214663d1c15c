-- What the words of a line say. Assumes nothing.
use Rattle.std.specs.Prelude.{ℕ, cond, List, [], ◌∷◌, Some, None, Ok, Err, vec_items, codes, Option, Result}
use Rattle.std.specs.Str.{bytes_eq}
use Rattle.board.specs.declared.status.Output.{Output}
use Rattle.board.specs.declared.status.Output.TheVariants.{Held, Released}
use Rattle.text.specs.Words.{words}
use Rattle.line_words.specs.Read.{then, rest, first_number, first_bytes, ended}
use Rattle.line_words.specs.declared.fault.WordFault.{WordFault}
use Rattle.line_words.specs.declared.fault.WordFault.TheVariants.{Unknown, Missing}
use Rattle.board_words.specs.Wanted.{wanted_says, past_wanted}
use Rattle.board_words.specs.declared.wanted.Wanted.{Wanted}
use Rattle.wiring.specs.declared.step.Drive.{Drive}
use Rattle.wiring.specs.declared.step.Call.TheVariants as call
use Rattle.wiring.specs.declared.step.Step.{Step}
use Rattle.wiring.specs.declared.step.Step.TheVariants as step

abbrev pub output_said : List ℕ → Result Output WordFault
output_said w = cond (bytes_eq w (codes "held")) (Ok Held) (cond (bytes_eq w (codes "released")) (Ok Released) (Err Unknown))

abbrev pub first_output : List (List ℕ) → Result Output WordFault
first_output [] = Err Missing
first_output (w ∷ ws) = output_said w

-- OUTPUT held|released
abbrev pub drive_says : List (List ℕ) → Result Drive WordFault
drive_says ws =
    then (first_number ws) (λ n. then (first_output (rest ws)) (λ v. then (ended (rest (rest ws))) (λ _. Ok (record { output = n; to = v }))))

-- [steady COUNT] plain|loop DOORS
abbrev pub board_says : List (List ℕ) → Result Wanted WordFault
board_says ws = then (wanted_says ws) (λ w. then (ended (past_wanted ws)) (λ _. Ok w))

-- BYTES
abbrev pub tick_says : List (List ℕ) → Result (List ℕ) WordFault
tick_says ws = then (first_bytes ws) (λ bs. then (ended (rest ws)) (λ _. Ok bs))

-- what a line can say
pub data Said : Type 0 where
  says_board : Wanted → Said
  says_drive : Drive → Said
  says_tick : List ℕ → Said
  says_ask : Said

-- by the first word, and the words after it
abbrev pub first_says : List ℕ → List (List ℕ) → Result Said WordFault
first_says w ws =
    cond (bytes_eq w (codes "board")) (then (board_says ws) (λ b. Ok (says_board b)))
    (cond (bytes_eq w (codes "drive")) (then (drive_says ws) (λ d. Ok (says_drive d)))
    (cond (bytes_eq w (codes "tick")) (then (tick_says ws) (λ bs. Ok (says_tick bs)))
    (cond (bytes_eq w (codes "ask")) (then (ended ws) (λ _. Ok says_ask))
    (Err Unknown))))

-- a line with no word says nothing
abbrev pub words_say : List (List ℕ) → Result (Option Said) WordFault
words_say [] = Ok None
words_say (w ∷ ws) = then (first_says w ws) (λ s. Ok (Some s))

abbrev pub line_says : List ℕ → Result (Option Said) WordFault
line_says line = words_say (words line)

-- what a value of the program says
abbrev pub said : Step → Said
said (step.Board w) = says_board w
said (step.Call (call.Drive d)) = says_drive d
said (step.Call (call.Tick v)) = says_tick (vec_items v)
said (step.Call call.Ask) = says_ask

-- the same where a line may have no word
abbrev pub step_said : Option Step → Option Said
step_said None = None
step_said (Some s) = Some (said s)
