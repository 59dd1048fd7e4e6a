-- `split_tables::outside_has` meets its contract.
use Rattle.std.proofs.Common.{◌∙◌, rules, tests}
use Rattle.std.proofs.lemmas.Iterator.{YieldsList-from_slice}
use Rattle.std.proofs.lemmas.Iterator.Consumers.{YieldsList-from_enumerate}
use Rattle.std.proofs.lemmas.Iterator.Search.{any_from_yields_List}
use Rattle.split_tables.proofs.Numbering.{is_outside_with, outside-told}
use Rattle.split_tables.proofs.outside_has.Goals as goal

pub returns : goal.returns
returns c =
    let a = c.args in
    any_from_yields_List (is_outside_with a.set a.r) _ _ _ c.any.ensures.ran (YieldsList-from_enumerate (YieldsList-from_slice a.links.now (search rules)) (search rules)) (λ item b q k. search (rules, tests))
    ∙ outside-told a.set a.links.now a.r
