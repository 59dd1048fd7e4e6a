use Rattle.std.proofs.Common.{refl, rules}
use Rattle.network_links.proofs.Shares.{sums-begin, sums_next}
use Rattle.network_links.proofs.add_shares.Goals as goal

pub loop-movement-init : goal.loop-movement-init
loop-movement-init c = search (sums-begin, rules)

pub loop-movement-preserved : goal.loop-movement-preserved
loop-movement-preserved c = sums_next c.requires c.loop-movement.invariant (search rules) (search rules) refl refl c.add_share.ensures
