use Rattle.std.proofs.Common.{◌≡◌, take, string_bytes}
use Rattle.std.specs.List.{flat_map}
use Rattle.decoding.specs.Field.{fields_in_order}
use Rattle.decoding.specs.Said.{text_in}
use Rattle.decoding.proofs.said.fields_text.Given as goal

abbrev pub invariant-loop-field : goal.invariant-loop-field
invariant-loop-field l = string_bytes l.out ≡ flat_map (text_in l.fields) (take l.field-index fields_in_order)
