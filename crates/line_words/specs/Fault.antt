-- What is wrong with a word, by what is wrong with its number or bytes, and in words. Assumes nothing.
use Rattle.std.specs.Prelude.{ℕ, List, codes}
use Rattle.numeral.specs.declared.decimal.NumberFault.{NumberFault}
use Rattle.numeral.specs.declared.decimal.NumberFault.TheVariants as number
use Rattle.numeral.specs.declared.hex.HexFault.{HexFault}
use Rattle.numeral.specs.declared.hex.HexFault.TheVariants as hex
use Rattle.line_words.specs.declared.fault.WordFault.{WordFault}
use Rattle.line_words.specs.declared.fault.WordFault.TheVariants.{Unknown, Missing, Extra, NotANumber, TooLarge, NotHex, OddHex}
use Rattle.line_words.specs.declared.fault.ReadFault.{ReadFault}
use Rattle.line_words.specs.declared.fault.ReadFault.TheVariants.{Word, OutOfMemory}

-- a number that is none, as a fault of its word
abbrev pub number_fault : NumberFault → WordFault
number_fault number.NotDigits = NotANumber
number_fault number.TooLarge = TooLarge

-- bytes that were not read: a fault of their word, or want of memory
abbrev pub hex_read_fault : HexFault → ReadFault
hex_read_fault hex.NotHex = Word NotHex
hex_read_fault hex.OddDigits = Word OddHex
hex_read_fault (hex.OutOfMemory e) = OutOfMemory e

abbrev pub word_reason : WordFault → List ℕ
word_reason Unknown = codes "unknown word"
word_reason Missing = codes "a word is missing"
word_reason Extra = codes "a word too many"
word_reason NotANumber = codes "not a number"
word_reason TooLarge = codes "number too large"
word_reason NotHex = codes "not a hex digit"
word_reason OddHex = codes "odd number of hex digits"

-- want of memory in the words of std's own error
abbrev pub read_reason : ReadFault → List ℕ
read_reason (Word fault) = word_reason fault
read_reason (OutOfMemory e) = codes "memory allocation failed"
