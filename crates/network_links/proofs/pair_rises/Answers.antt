-- `network_links::pair_rises` meets its contract.
use Rattle.std.proofs.Common.{rules}
use Rattle.network_links.proofs.Movements.{pair-first, pair-later}
use Rattle.network_links.proofs.pair_rises.Goals as goal

pub returns-then-j-eq0 : goal.returns-then-j-eq0
returns-then-j-eq0 c = search (pair-first, rules)

pub returns : goal.returns
returns c = search (pair-later, rules)
