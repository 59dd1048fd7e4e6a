-- `network_signals::valid_times` meets its contract.
use Rattle.std.proofs.Common.{◌∙◌, rules, tests, take}
use Rattle.std.proofs.lemmas.Iterator.{YieldsList-from_slice, YieldsList-from_zip}
use Rattle.std.proofs.lemmas.Iterator.Search.{all_from_yields_List}
use Rattle.network_signals.specs.Signals.{valid_time}
use Rattle.network_signals.proofs.Values.{pairs-every}
use Rattle.network_signals.proofs.valid_times.Goals as goal

pub returns : goal.returns
returns c =
    let s = c.args.signal in
    all_from_yields_List (λ p. valid_time p.0 p.1) c.all.new.self _ _ c.all.ensures.ran
    (YieldsList-from_zip (YieldsList-from_slice (take s.phases s.least) (search rules)) (YieldsList-from_slice (take s.phases s.greatest) (search rules)))
    (λ p b q h. search (rules, tests))
    ∙ pairs-every valid_time s.phases s.least s.greatest (search rules) (search rules)
