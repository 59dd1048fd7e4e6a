-- `network_links::bad_shares` meets its contract.
use Rattle.std.proofs.Common.{rules}
use Rattle.network_links.proofs.Movements.{shares_whole, shares-short}
use Rattle.network_links.proofs.bad_shares.Goals as goal

pub returns-then-sum-from : goal.returns-then-sum-from
returns-then-sum-from c = search (shares_whole, rules)

pub returns : goal.returns
returns c = search (shares-short, rules)
