-- `network_links::last_movement` meets its contract.
use Rattle.std.proofs.Common.{rules, tests}
use Rattle.network_links.proofs.Last.{last-found}
use Rattle.network_links.proofs.last_movement.Goals as goal

pub returns : goal.returns
returns c = last-found c.args.movements.now c.args.link _ _ _ c.rposition.ensures.ran (search rules) (search rules) (λ x b q k. search (rules, tests))
