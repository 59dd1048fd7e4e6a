-- `split_tables::number_halves` meets its contract.
use Rattle.std.proofs.Common.{rules}
use Rattle.split_tables.proofs.Numbering.{halves-numbered}
use Rattle.split_tables.proofs.number_halves.Goals as goal

pub returns-clause-numbered : goal.returns-clause-numbered
returns-clause-numbered c = halves-numbered c.args.set c.args.tables.now c.number_half-halves.ensures c.number_half-halves-2.ensures (λ i b p. search rules) (λ r b p. search rules) (λ i b p. search rules) (λ r b p. search rules)
