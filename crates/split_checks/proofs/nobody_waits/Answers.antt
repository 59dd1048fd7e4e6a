-- `split_checks::nobody_waits` meets its contract.
use Rattle.std.proofs.Common.{◌∙◌, sym, ap, length, eqb, arith, rules, tests}
use Rattle.std.proofs.lemmas.Iterator.{YieldsList-from_slice}
use Rattle.std.proofs.lemmas.Iterator.Search.{all_from_yields_List}
use Rattle.std.proofs.lemmas.List.{take_all}
use Rattle.std.specs.List.{list_all}
use Rattle.network_tables.proofs.Every.{items-every}
use Rattle.network_tables.specs.declared.Link.{Link}
use Rattle.network_tables.specs.Fields.{link_by}
use Rattle.split_checks.proofs.nobody_waits.Goals as goal

pub returns : goal.returns
returns c =
    let links = c.args.links.now in
    let n = length links in
    let none = λ (link : Link). eqb link.waiting 0 in
    all_from_yields_List none _ _ _ c.all.ensures.ran (YieldsList-from_slice links (search rules)) (λ l b q k. search (rules, tests))
    ∙ ap (list_all none) (sym (take_all n links (omega arith))) ∙ items-every none links (link_by (λ f. 0)) n (omega arith)
