-- `sheet_writer::has_no_tram` meets its contract.
use Rattle.std.proofs.Common.{◌∙◌, rules, tests}
use Rattle.std.proofs.lemmas.Iterator.{YieldsList-from_slice}
use Rattle.std.proofs.lemmas.Iterator.Search.{all_from_yields_List}
use Rattle.sheet_writer.proofs.Columns.{is_free, trams-all}
use Rattle.sheet_writer.proofs.has_no_tram.Goals as goal

pub returns : goal.returns
returns c =
    let a = c.args in
    all_from_yields_List (is_free a.r) _ _ _ c.all.ensures.ran (YieldsList-from_slice a.trams.now (search rules)) (λ t b q k. search (rules, tests)) ∙ trams-all a.trams.now a.r
