-- `split_text::put_network` meets its contract.
use Rattle.std.proofs.Common.{rules}
use Rattle.network_tables.specs.Fields.{rate_in}
use Rattle.network_trams.proofs.Ready.{trams-ready as load-ready}
use Rattle.split_text.proofs.Rows.{border-asked}
use Rattle.base_laws.proofs.Kit.{◌≡◌, refl, length, arith}
use Rattle.model_split.specs.Numbering.{rank}
use Rattle.split_text.specs.Rows.{tram_in}
use Rattle.split_text.proofs.Lines.{tram-signal, tram-rows, tram-many, trams-found}
use Rattle.split_text.proofs.Steps.{put-back}
use Rattle.split_text.proofs.Whole.{trams-asked, counts-ready, trams-ready, signals-ready, links-ready, movements-ready, steps-ready, all-put}
use Rattle.split_text.proofs.put_network.Goals as goal
use Rattle.split_text.proofs.put_network.Goals.{After-count_rows-found}

pub add_border-rates-requires-clause-asked : goal.add_border-rates-requires-clause-asked
add_border-rates-requires-clause-asked c = border-asked c.args.whole.now c.requires.asked.held

pub load_trams-trams-requires : goal.load_trams-trams-requires
load_trams-trams-requires c = load-ready c.requires.trams-start c.requires.asked.held.counted c.requires.asked.held.holds (search rules)

pub count_rows-found-requires : goal.count_rows-found-requires
count_rows-found-requires c = λ k none h. λ a b d e f. tram-signal c.load_trams-trams.result.now (trams-asked c.requires c.load_trams-trams.ensures) k none h

found : (c : After-count_rows-found) → c.count_rows-found.result ≡ rank (tram_in c.load_trams-trams.result.now c.args.half.now) (length c.load_trams-trams.result.now)
found c =
    let trams = c.load_trams-trams.result.now in
    let half = c.args.half.now in
    trams-found trams half (c.count_rows-found.ensures (tram-rows trams half) (λ k none changed h p. tram-many trams half k none h changed (search rules)))

pub put_counts-requires : goal.put_counts-requires
put_counts-requires c = (counts-ready c.requires c.load_trams-trams.ensures (found (goal.at.put_counts-requires c).After-count_rows-found), omega arith)

pub put_trams-requires : goal.put_trams-requires
put_trams-requires c = trams-ready c.requires refl c.put_counts.ensures c.load_trams-trams.ensures

pub put_signals-requires : goal.put_signals-requires
put_signals-requires c = signals-ready c.requires refl c.put_counts.ensures c.load_trams-trams.ensures c.put_trams.ensures

pub put_links-requires : goal.put_links-requires
put_links-requires c = links-ready c.requires refl c.put_counts.ensures c.load_trams-trams.ensures c.put_trams.ensures c.put_signals.ensures

pub put_movements-requires : goal.put_movements-requires
put_movements-requires c = movements-ready c.requires refl c.put_counts.ensures c.load_trams-trams.ensures c.put_trams.ensures c.put_signals.ensures c.put_links.ensures

pub put_steps-requires : goal.put_steps-requires
put_steps-requires c = steps-ready c.requires refl c.put_counts.ensures c.load_trams-trams.ensures c.put_trams.ensures c.put_signals.ensures c.put_links.ensures c.put_movements.ensures

pub returns : goal.returns
returns c = λ set h one.
    let lent = (c.put_steps.ensures set h one).buffer in
    let rates = c.add_border-rates.ensures (rate_in c.args.whole.now.tables.movements.now) (λ k number h p. search rules) in
    let counted = found (goal.at.returns c).After-count_rows-found in
    put-back
    (all-put c.requires rates c.load_trams-trams.ensures refl counted c.put_counts.ensures c.put_trams.ensures c.put_signals.ensures c.put_links.ensures c.put_movements.ensures c.put_steps.ensures set h one)
    (search rules)
