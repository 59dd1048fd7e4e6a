-- `network::read_network` meets its contract.
use Rattle.network.proofs.Chain.{without-start}
use Rattle.network.proofs.read_network.Goals as goal

pub returns : goal.returns
returns c = without-start c.read_tables.ensures
