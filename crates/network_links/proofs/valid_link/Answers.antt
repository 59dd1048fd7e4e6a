-- `network_links::valid_link` meets its contract.
use Rattle.std.proofs.Common.{◌≡◌, ◌∙◌, arith, rules}
use Rattle.std.proofs.lemmas.Bool.Decides.{nat_tests}
use Rattle.base_laws.specs.Test.{◌and◌, within}
use Rattle.network_links.proofs.Links.{link-above, link-within}
use Rattle.network_links.proofs.valid_link.Goals as goal

pub returns-then-signals-signal : goal.returns-then-signals-signal
returns-then-signals-signal c = search (link-above, rules)

pub returns : goal.returns
unfolding within ◌and◌
returns c =
    let time : c.contains.result ≡ within 1 c.args.link.travel_time 3600 = c.contains.ensures.value ∙ rw (c.new.ensures.start, c.new.ensures.end, c.new.ensures.exhausted) (grind (arith, nat_tests)) in
    link-within c.args.link c.args.signals.now (omega arith) time c.valid_mask.ensures
