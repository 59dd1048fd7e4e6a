-- `network_signals::shortest_time` meets its contract.
use Rattle.std.proofs.Common.{◌∙◌, rules, min, take}
use Rattle.std.proofs.lemmas.Iterator.{YieldsList-from_slice}
use Rattle.std.proofs.lemmas.Iterator.Consumers.{fold_from_yields_List}
use Rattle.network_signals.proofs.Values.{shortest-fold}
use Rattle.network_signals.proofs.shortest_time.Goals as goal

pub returns : goal.returns
returns c =
    let s = c.args.signal in
    fold_from_yields_List _ min _ _ c.fold.ensures.ran (YieldsList-from_slice (take s.phases s.greatest) (search rules)) (λ a x b q h. search rules)
    ∙ shortest-fold s s.phases c.args.so_far (search rules)
