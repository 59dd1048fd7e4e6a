-- `split_tables::number_half` meets its contract.
use Rattle.std.proofs.Common.{rules, arith}
use Rattle.split_tables.proofs.Numbering.{halves-named, half-told}
use Rattle.split_tables.proofs.number_half.Goals as goal

-- the calls of the closure name movements of the table
pub numbers_where-requires-2 : goal.numbers_where-requires-2
numbers_where-requires-2 g c =
    let tables = c.args.tables.now in
    let few = tables.sized.few.movements in
    let size = c.requires.ends.movement-size in
    (omega arith, ((omega (arith, few), omega (arith, few)), λ k l. (λ a b d e f u. omega (arith, few), λ a b d e f u. omega (arith, few, size), λ a b d e f u v w. halves-named c.requires.ends k l)))

pub returns : goal.returns
returns g c = half-told c.requires.ends c.numbers_where-links.ensures c.numbers_where.ensures c.numbers_where-2.ensures (λ j b p. search rules)
