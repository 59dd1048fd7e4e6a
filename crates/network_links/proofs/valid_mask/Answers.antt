-- `network_links::valid_mask` meets its contract.
use Rattle.std.proofs.Common.{rules}
use Rattle.network_links.proofs.Links.{mask-none, mask-some}
use Rattle.network_links.proofs.valid_mask.Goals as goal

pub returns-then-signal-eq0 : goal.returns-then-signal-eq0
returns-then-signal-eq0 c = search (mask-none, rules)

pub returns : goal.returns
returns c = search (mask-some, rules)
