-- `network_steps::valid_demands` meets its contract.
use Rattle.std.proofs.Common.{◌∙◌, rules, tests}
use Rattle.std.proofs.lemmas.Iterator.{YieldsList-from_slice}
use Rattle.std.proofs.lemmas.Iterator.Search.{all_from_yields_List}
use Rattle.network_steps.proofs.Values.{small_demand, each-demand}
use Rattle.network_steps.proofs.valid_demands.Goals as goal

pub returns : goal.returns
returns c =
    let demands = c.args.demands.now in
    all_from_yields_List small_demand _ _ _ c.all.ensures.ran (YieldsList-from_slice demands (search rules)) (λ j b q k. search (rules, tests))
    ∙ each-demand demands
