-- What the first of some words says. Assumes nothing.
use Rattle.std.specs.Prelude.{ℕ, ◌≡◌, cond, List, [], ◌∷◌, Ok, Err, Result, nat_lt}
use Rattle.std.specs.Bool.{⊤}
use Rattle.numeral.specs.Decimal.{decimal_answer}
use Rattle.numeral.specs.Hex.{hex_answer}
use Rattle.numeral.specs.declared.decimal.NumberFault.{NumberFault}
use Rattle.numeral.specs.declared.hex.HexFault.{HexFault}
use Rattle.numeral.specs.declared.hex.HexFault.TheVariants as hex
use Rattle.line_words.specs.Fault.{number_fault}
use Rattle.line_words.specs.declared.fault.ReadFault.{ReadFault}
use Rattle.line_words.specs.declared.fault.ReadFault.TheVariants.{Word, OutOfMemory}
use Rattle.line_words.specs.declared.fault.WordFault.{WordFault}
use Rattle.line_words.specs.declared.fault.WordFault.TheVariants.{Missing, Extra, TooLarge, NotHex, OddHex}

-- the first fault stands; without one, what comes next
abbrev pub then : {X Y F : Type 0} → Result X F → (X → Result Y F) → Result Y F
then (Ok x) f = f x
then (Err e) f = Err e

abbrev pub rest : List (List ℕ) → List (List ℕ)
rest [] = []
rest (w ∷ ws) = ws

abbrev pub number_said : Result ℕ NumberFault → Result ℕ WordFault
number_said (Ok n) = Ok n
number_said (Err e) = Err (number_fault e)

abbrev pub word_number : List ℕ → Result ℕ WordFault
word_number w = number_said (decimal_answer w)

abbrev pub first_number : List (List ℕ) → Result ℕ WordFault
first_number [] = Err Missing
first_number (w ∷ ws) = word_number w

-- a number that may be no larger than m
abbrev pub limited : ℕ → Result ℕ WordFault → Result ℕ WordFault
limited m (Ok n) = cond (nat_lt m n) (Err TooLarge) (Ok n)
limited m (Err e) = Err e

-- `hex_answer` never has the last case: what a word writes asks for no memory
abbrev pub hex_said : Result (List ℕ) HexFault → Result (List ℕ) WordFault
hex_said (Ok bs) = Ok bs
hex_said (Err hex.NotHex) = Err NotHex
hex_said (Err hex.OddDigits) = Err OddHex
hex_said (Err (hex.OutOfMemory e)) = Err NotHex

abbrev pub first_bytes : List (List ℕ) → Result (List ℕ) WordFault
first_bytes [] = Err Missing
first_bytes (w ∷ ws) = hex_said (hex_answer w)

abbrev pub ended : List (List ℕ) → Result Unit WordFault
ended [] = Ok tt
ended (w ∷ ws) = Err Extra

-- what was read, as `said` shows it, is exactly what the words say; out of memory, nothing was read
abbrev pub Reads : {X Y : Type 0} → (X → Y) → Result X ReadFault → Result Y WordFault → Type 0
Reads said (Ok x) r = Ok (said x) ≡ r
Reads said (Err (Word e)) r = Err e ≡ r
Reads said (Err (OutOfMemory e)) r = ⊤
