-- `remove` meets its contract. Assumes nothing.
use Rattle.site.proofs.MovedRows.{row_out}
use Rattle.site.proofs.moves.remove.Goals as goal

pub returns : goal.returns
returns c = rw c.take_from_front.ensures (row_out c.args.table.now c.args.at c.args.rows c.requires.0 c.requires.1)
