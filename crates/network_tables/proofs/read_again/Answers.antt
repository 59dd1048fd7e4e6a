-- `network_tables::read_again` meets its contract.
use Rattle.network_tables.proofs.Rows.{again}
use Rattle.network_tables.proofs.read_again.Goals as goal

pub returns : goal.returns
returns c = rw c.unwrap_or.ensures (again c.read_row.result c.read_row.ensures)
