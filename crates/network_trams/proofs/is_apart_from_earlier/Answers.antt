use Rattle.std.proofs.Common.{◌∙◌, take, arith, rules, tests}
use Rattle.std.proofs.lemmas.Iterator.{YieldsList-from_slice}
use Rattle.std.proofs.lemmas.Iterator.Search.{all_from_yields_List}
use Rattle.network_tables.proofs.Every.{items-every}
use Rattle.network_tables.specs.declared.Tram.{Tram}
use Rattle.network_tables.specs.Fields.{tram_by, tram_at}
use Rattle.network_trams.specs.Trams.{apart_in, apart_from}
use Rattle.network_trams.proofs.is_apart_from_earlier.Goals as goal

pub returns : goal.returns
unfolding apart_from
returns c =
    let trams = c.args.trams.now in
    let apart = λ (earlier : Tram). apart_in earlier (tram_at trams c.args.k) in
    all_from_yields_List apart _ _ _ c.all.ensures.ran (YieldsList-from_slice (take c.args.k trams) (search rules)) (λ j b q k. search (rules, tests))
    ∙ items-every apart trams (tram_by (λ f. 0)) c.args.k (omega arith)
