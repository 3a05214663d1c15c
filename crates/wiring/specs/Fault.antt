-- What is wrong with a line, in words. Assumes nothing.
use Rattle.std.specs.Prelude.{ℕ, List, codes}
use Rattle.line_words.specs.Fault.{word_reason}
use Rattle.wiring.specs.declared.fault.Fault.{Fault}
use Rattle.wiring.specs.declared.fault.Fault.TheVariants.{Word, NoBoard}

abbrev pub fault_reason : Fault → List ℕ
fault_reason (Word e) = word_reason e
fault_reason NoBoard = codes "no board line before it"
