-- What a call came to, as text. Assumes nothing.
use Rattle.std.specs.Prelude.{ℕ, List, Ok, Err, codes, Result}
use Rattle.board.specs.Refusals.{refusal_text}
use Rattle.board.specs.declared.refusal.Refusal.{Refusal}

abbrev pub outcome_text : Result Unit Refusal → List ℕ
outcome_text (Ok u) = codes "ok"
outcome_text (Err r) = refusal_text r
