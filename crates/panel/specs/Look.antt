-- The view of a panel over any board: of each table, the part of the doors that the board has. Assumes nothing.
use Rattle.std.specs.Prelude.{take}
use Rattle.board.specs.Held.{Held}
use Rattle.history.specs.Views.{View}
use Rattle.panel.specs.declared.panel.Panel.{Panel}

module _ {M : Type 0} (held : M → Held) {B : Type 0} (memory : B → M) where
  abbrev pub view : Panel B → View
  view p = record {
    board = held (memory p.board);
    rows = take (held (memory p.board)).doors p.rows;
    sounder = p.sounder;
    notices = record { waiting = take (held (memory p.board)).doors p.waiting; next = p.next_serial };
    reported = take (held (memory p.board)).doors p.reported;
    number = p.number;
    tenth = p.tenth;
  }
