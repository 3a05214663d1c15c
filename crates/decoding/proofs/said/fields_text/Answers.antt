use Rattle.std.proofs.Common.{◌≡◌, ℕ, ◌+◌, ◌<◌, List, [], ◌++◌, get_or, take, sym, ap, ◌∙◌}
use Rattle.std.specs.List.{flat_map}
use Rattle.std.proofs.lemmas.List.{flat_map_more, take_more, take_all}
use Rattle.decoding.specs.declared.field.Field.{Field}
use Rattle.decoding.specs.declared.field.Field.TheVariants.{PresentValue}
use Rattle.decoding.specs.Field.{fields_in_order}
use Rattle.decoding.specs.Said.{text_in, fields_text}
use Rattle.decoding.proofs.said.fields_text.Goals as goal

-- the text of one field more
one_more : (f : Field → List ℕ) (i : ℕ) (old new : List ℕ) → i < 8 → old ≡ flat_map f (take i fields_in_order) → new ≡ old ++ f (get_or fields_in_order i PresentValue) → new ≡ flat_map f (take (i + 1) fields_in_order)
one_more f i old new h e w =
    w ∙ ap (λ x. x ++ f (get_or fields_in_order i PresentValue)) e
    ∙ flat_map_more f [] (take i fields_in_order) (get_or fields_in_order i PresentValue)
    ∙ ap (flat_map f) (sym (take_more fields_in_order i PresentValue h))

pub loop-field-preserved : goal.loop-field-preserved
loop-field-preserved c = one_more (text_in c.args.fields.now) c.loop-field.field-index _ _ c.loop-field-test.true c.loop-field.invariant c.in_ok-push_field.ensures

pub returns : goal.returns
unfolding fields_text
returns c = c.loop-field.invariant ∙ ap (flat_map (text_in c.args.fields.now)) (take_all c.loop-field.field-index fields_in_order c.loop-field-test.false)
