-- `insert` meets its contract. Assumes nothing.
use Rattle.site.proofs.MovedRows.{row_in}
use Rattle.site.proofs.moves.insert.Goals as goal

pub returns : goal.returns
returns c = rw c.put_in_front.ensures (row_in c.args.table.now c.args.at c.args.rows c.args.row.now c.told-row c.requires.0 c.requires.1)
