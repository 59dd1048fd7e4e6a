-- `network_links::check_shares` meets its contract.
use Rattle.network_tables.specs.Blocks.{PassedTo}
use Rattle.network_links.specs.Movements.{share_checks_in}
use Rattle.network_links.proofs.check_shares.Given as goal

abbrev pub invariant-loop-i : goal.invariant-loop-i
invariant-loop-i l = PassedTo l.counts.links (share_checks_in l.movements l.counts) l.i
