-- `network_tables::read_row` meets its contract.
use Rattle.std.proofs.Common.{rules}
use Rattle.network_tables.proofs.Rows.{row_read}
use Rattle.network_tables.proofs.read_row.Goals as goal

pub returns : goal.returns
returns c = search (row_read, rules)
