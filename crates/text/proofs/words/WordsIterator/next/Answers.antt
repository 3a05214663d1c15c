use Rattle.std.proofs.Common.{◌≡◌, ◌∷◌, length, sym, ap, ◌∙◌, rules, arith}
use Rattle.text.specs.Words.{blank, words_of}
use Rattle.text.proofs.WordCuts.{no_blank, next_word, no_word}
use Rattle.text.proofs.words.WordsIterator.next.Goals as goal

pub returns-then-is_empty : goal.returns-then-is_empty
returns-then-is_empty c =
    let skip = c.split_before.ensures no_blank (λ b r h. search rules) in
    let cut = c.split_before-2.ensures blank (λ b r h. search rules) in
    let none = no_word c.self.inside.rest.now c.split_before.result.1.now c.split_before-2.result.0.now c.split_before-2.result.1.now skip.1 cut.0 cut.1 (sym c.if-is_empty.ensures) in
    record { steps = (sym c.self.view_is ∙ none.0, none.1); goes = search rules }

pub returns : goal.returns
returns c =
    let after = c.split_before-2.result.1.now in
    let skip = c.split_before.ensures no_blank (λ b r h. search rules) in
    let cut = c.split_before-2.ensures blank (λ b r h. search rules) in
    let first : c.args.self.now ≡ c.split_before-2.result.0.now ∷ words_of after =
    sym c.self.view_is ∙ next_word c.self.inside.rest.now c.split_before.result.1.now _ after skip.1 cut.0 cut.1 (sym c.if-is_empty.ensures) in
    record { steps = first; goes = record { on = λ _. (tt, tt, omega (arith, ap length first)); keeps = tt; rests = λ _. tt } }
