use Rattle.boards.proofs.Fresh.{fresh_terminals}
use Rattle.boards.proofs.terminals.Terminals.new.Goals as goal

pub returns : goal.returns
returns c = fresh_terminals c.args.doors c.args.width c.requires.few
