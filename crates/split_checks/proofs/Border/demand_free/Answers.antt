-- `split_checks::Border::demand_free` meets its contract.
use Rattle.std.proofs.Common.{rules}
use Rattle.base_laws.proofs.Kit.{arith}
use Rattle.split_tables.proofs.Numbering.{halves-named}
use Rattle.split_checks.proofs.Tables.{free-told}
use Rattle.split_checks.proofs.Border.demand_free.Goals as goal

pub is_border-other-requires : goal.is_border-other-requires
is_border-other-requires c = halves-named c.args.self.now.ends _ c.requires.1

pub overflow_sub-movement : goal.overflow_sub-movement
overflow_sub-movement c = omega (arith, halves-named c.args.self.now.ends _ c.requires.1)

pub demand-requires : goal.demand-requires
demand-requires c = (omega (arith, halves-named c.args.self.now.ends _ c.requires.1), c.requires.0)

pub returns : goal.returns
returns c = search (free-told, rules)
