-- `split_checks::parts_signals` meets its contract.
use Rattle.std.proofs.Common.{◌∙◌, ◌≤◌, rules, tests, length}
use Rattle.std.proofs.lemmas.Iterator.{YieldsList-from_slice, YieldsList-from_zip}
use Rattle.std.proofs.lemmas.Iterator.Adapters.{serves_from_places}
use Rattle.std.proofs.lemmas.Iterator.Search.{all_from_yields_List}
use Rattle.split_checks.specs.Tables.{own_signal_by}
use Rattle.split_checks.proofs.Signals.{numbered-signal, numbered-own, parts-told}
use Rattle.split_checks.proofs.parts_signals.Goals as goal

pub all-requires-clause-callable : goal.all-requires-clause-callable
all-requires-clause-callable c =
    let links = c.args.links.now in
    let half = c.args.half.now in
    let room : length links ≤ length half.links = search rules in
    serves_from_places (YieldsList-from_zip (YieldsList-from_slice links (search rules)) (YieldsList-from_slice half.links (search rules))) (λ x q k. search rules)
    (λ x k l e. let small = numbered-signal links half room c.requires.signals k _ l e in search rules)

pub returns : goal.returns
returns c =
    let links = c.args.links.now in
    let half = c.args.half.now in
    let room : length links ≤ length half.links = search rules in
    parts-told links half
    (all_from_yields_List (λ item. own_signal_by half item.1 item.0.signal) c.all.new.self _ c.all.result c.all.ensures.ran
    (YieldsList-from_zip (YieldsList-from_slice links (search rules)) (YieldsList-from_slice half.links (search rules))) (λ x b q k. search (rules, tests))
    ∙ numbered-own links half room)
