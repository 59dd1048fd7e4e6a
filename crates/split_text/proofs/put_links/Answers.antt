-- `split_text::put_links` meets its contract.
use Rattle.std.proofs.Common.{rules}
use Rattle.split_text.proofs.Lines.{link-rows, link-given, links-put, link-signal}
use Rattle.split_text.proofs.put_links.Goals as goal

pub put_rows-requires-clause-asks : goal.put_rows-requires-clause-asks
put_rows-requires-clause-asks c = λ k none h. λ a b d e f. link-signal c.requires k none h

pub returns : goal.returns
returns c =
    let t = c.args.tables.now in
    let rates = c.args.rates.now in
    let half = c.args.half.now in
    links-put t.links.now rates half t.sized.link-size
    (c.put_rows.ensures (link-rows t.links.now rates half) (λ i none changed h p. link-given t.links.now rates half i none h changed (search rules)))
