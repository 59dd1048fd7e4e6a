-- `network_tables::read_head` meets its contract.
use Rattle.std.proofs.Common.{rules}
use Rattle.network_tables.proofs.Rows.{head_read}
use Rattle.network_tables.proofs.read_head.Goals as goal

pub returns : goal.returns
returns c = search (head_read, rules)
