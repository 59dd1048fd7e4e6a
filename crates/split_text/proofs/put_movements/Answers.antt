-- `split_text::put_movements` meets its contract.
use Rattle.std.proofs.Common.{rules}
use Rattle.split_text.proofs.Lines.{movement-rows, movement-given, movements-put, movement-ends}
use Rattle.split_text.proofs.put_movements.Goals as goal

pub put_rows-requires-clause-asks : goal.put_rows-requires-clause-asks
put_rows-requires-clause-asks c = λ k none h. λ a b d e f. movement-ends c.requires k none h

pub returns : goal.returns
returns c =
    let t = c.args.tables.now in
    let half = c.args.half.now in
    movements-put t.movements.now half c.requires.table-asked.size
    (c.put_rows.ensures (movement-rows t.movements.now half) (λ j none changed h p. movement-given t.movements.now half j none h changed (search rules)))
