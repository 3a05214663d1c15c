use Rattle.std.proofs.Common.{◌≡◌, ◌∷◌, length, sym, ap, ◌∙◌, rules, arith}
use Rattle.text.specs.Lines.{newline, lines}
use Rattle.text.proofs.LineCuts.{next_line, no_line}
use Rattle.text.proofs.lines.LinesIterator.next.Goals as goal

pub returns-then-is_empty : goal.returns-then-is_empty
returns-then-is_empty c =
    let none = sym c.self.view_is ∙ no_line c.self.inside.rest.now (sym c.if-is_empty.ensures) in
    record { steps = (none, none); goes = search rules }

pub returns : goal.returns
returns c =
    let after = c.past_first-self-inside.result.now in
    let cut = c.split_before.ensures newline (λ b r h. search rules) in
    let first : c.args.self.now ≡ c.split_before.result.0.now ∷ lines after =
    sym c.self.view_is ∙ next_line _ _ c.split_before.result.1.now after (sym c.if-is_empty.ensures) cut.0 cut.1 c.past_first-self-inside.ensures in
    record { steps = first; goes = record { on = λ _. (tt, tt, omega (arith, ap length first)); keeps = tt; rests = λ _. tt } }
