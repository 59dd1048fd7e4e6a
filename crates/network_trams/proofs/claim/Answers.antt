-- `network_trams::claim` meets its contract.
use Rattle.std.proofs.Common.{rules}
use Rattle.network_trams.proofs.Claims.{claim-made, claim-none}
use Rattle.network_trams.proofs.claim.Goals as goal

pub returns-then-contains : goal.returns-then-contains
returns-then-contains c = search (claim-made, rules)

pub returns-else-contains : goal.returns-else-contains
returns-else-contains c = search (claim-none, rules)
