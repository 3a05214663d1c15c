-- A line that holds a report in hex. Assumes nothing.
use Rattle.std.specs.Prelude.{ℕ, List, Some, None, Ok, Err, vec_items, Option, Result, Vec}
use Rattle.text.specs.Words.{words}
use Rattle.line_words.specs.declared.fault.WordFault.{WordFault}
use Rattle.line_words.specs.declared.fault.WordFault.TheVariants.{Unknown, Missing, Extra, NotANumber, TooLarge, NotHex, OddHex}
use Rattle.line_words.specs.Read.{rest, first_bytes, ended}

-- a line with no word says nothing
abbrev pub none_if_missing : WordFault → Result (Option (List ℕ)) WordFault
none_if_missing Missing = Ok None
none_if_missing Unknown = Err Unknown
none_if_missing Extra = Err Extra
none_if_missing NotANumber = Err NotANumber
none_if_missing TooLarge = Err TooLarge
none_if_missing NotHex = Err NotHex
none_if_missing OddHex = Err OddHex

-- the bytes of the first word, which has to be the only one
abbrev pub only_word : Result (List ℕ) WordFault → Result Unit WordFault → Result (Option (List ℕ)) WordFault
only_word (Err e) end = none_if_missing e
only_word (Ok bs) (Err e) = Err e
only_word (Ok bs) (Ok u) = Ok (Some bs)

abbrev pub words_say : List (List ℕ) → Result (Option (List ℕ)) WordFault
words_say ws = only_word (first_bytes ws) (ended (rest ws))

abbrev pub line_says : List ℕ → Result (Option (List ℕ)) WordFault
line_says line = words_say (words line)

-- what a value of the program says
abbrev pub report_said : {Z : Type 0} → Option (Vec ℕ Z) → Option (List ℕ)
report_said None = None
report_said (Some v) = Some (vec_items v)
