-- `split_text::put_trams` meets its contract.
use Rattle.std.proofs.Common.{rules}
use Rattle.split_text.proofs.Lines.{tram-rows, tram-given, trams-put, tram-signal}
use Rattle.split_text.proofs.put_trams.Goals as goal

pub put_rows-requires-clause-asks : goal.put_rows-requires-clause-asks
put_rows-requires-clause-asks c = λ k none h. λ a b d e f. tram-signal c.args.trams.now c.requires.0 k none h

pub returns : goal.returns
returns c =
    let trams = c.args.trams.now in
    let half = c.args.half.now in
    trams-put trams half (c.put_rows.ensures (tram-rows trams half) (λ k none changed h p. tram-given trams half k none h changed (search rules)))
