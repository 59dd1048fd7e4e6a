-- `network_signals::valid_counts` meets its contract.
use Rattle.std.proofs.Common.{◌≡◌, refl, rules}
use Rattle.base_laws.specs.Test.{◌and◌, within}
use Rattle.model.specs.Network.{max_links, max_steps}
use Rattle.network_signals.specs.Counts.{valid_counts_in}
use Rattle.network_signals.proofs.valid_counts.Goals as goal

pub returns : goal.returns
unfolding valid_counts_in within ◌and◌
returns c =
    let links : c.contains.result ≡ within 1 c.args.counts.links max_links = search rules in
    let steps : c.contains-2.result ≡ within 1 c.args.counts.steps max_steps = search rules in
    rw (links, steps) refl
