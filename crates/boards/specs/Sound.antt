-- Terminals keep the bounds of a board. Assumes nothing.
use Rattle.std.proofs.Common.{◌≡◌, ◌+◌, ◌≤◌, length, map, take, ◌∙◌, arith}
use Rattle.std.proofs.lemmas.List.{length-map, length-take-le}
use Rattle.board.specs.Held.{Sound}
use Rattle.boards.specs.declared.terminals.Input.{Input}
use Rattle.boards.specs.declared.terminals.Terminals.{Terminals}
use Rattle.boards.specs.Terminals.{terminals}

part_length : {Y : Type 0} (t : Terminals) (f : Input → Y) → length (map f (take t.doors t.inputs)) ≡ t.doors
part_length t f = let l : t.doors ≤ length t.inputs = omega (arith, t.few, t.ins) in length-map _ f ∙ length-take-le _ t.inputs l

pub terminals_sound : (t : Terminals) → Sound (terminals t)
terminals_sound t =
    let l : t.doors + 1 ≤ length t.outputs = omega (arith, t.few, t.outs) in
    record {
      some = t.some;
      few = t.few;
      narrow = t.narrow;
      outputs = length-take-le _ t.outputs l;
      contacts = part_length t (λ (i : Input). i.contact);
      readings = part_length t (λ (i : Input). i.reading);
    }
