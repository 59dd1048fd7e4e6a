-- `network_past::valid_links` meets its contract.
use Rattle.std.proofs.Common.{refl, ◌∙◌, ℕ, arith, rules, tests}
use Rattle.std.proofs.lemmas.Iterator.{YieldsList-from_range}
use Rattle.std.proofs.lemmas.Iterator.Search.{all_from_yields_List}
use Rattle.network_tables.proofs.Every.{all-every}
use Rattle.network_past.specs.Past.{valid_past_in, valid_links_in}
use Rattle.network_past.proofs.valid_links.Goals as goal

pub returns : goal.returns
unfolding valid_links_in
returns c =
    let a = c.args in
    let n = a.tables.now.reading.counts.links in
    let valid = λ (i : ℕ). valid_past_in a.tables.now a.demands.now a.row.now a.arrivals.now i in
    all_from_yields_List valid _ _ _ c.all.ensures.ran (YieldsList-from_range 0 n n refl (omega arith)) (λ i b q k. search (rules, tests))
    ∙ all-every n valid
