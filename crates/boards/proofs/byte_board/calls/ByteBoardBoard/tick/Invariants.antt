use Rattle.std.proofs.Common.{◌≡◌, map, take}
use Rattle.board.specs.Held.{each}
use Rattle.boards.specs.declared.terminals.Input.{Input}
use Rattle.boards.proofs.byte_board.calls.ByteBoardBoard.tick.Given as goal

abbrev pub invariant-loop-door : goal.invariant-loop-door
invariant-loop-door g l =
    (l.self.terminals.doors ≡ l.initial.self.terminals.doors)
    × (l.self.terminals.width ≡ l.initial.self.terminals.width)
    × (l.self.terminals.outputs ≡ l.initial.self.terminals.outputs)
    × (map (λ (i : Input). i.contact) (take l.door l.self.terminals.inputs) ≡ each l.door (g.W.DoorBytes.contact l.bytes))
    × (map (λ (i : Input). i.reading) (take l.door l.self.terminals.inputs) ≡ each l.door (g.W.DoorBytes.reading l.bytes))
