-- `split_checks::Border::right_kind` meets its contract.
use Rattle.std.proofs.Common.{rules}
use Rattle.base_laws.proofs.Kit.{arith}
use Rattle.split_tables.proofs.Numbering.{halves-named}
use Rattle.split_checks.proofs.Tables.{inside-kind, border-kind}
use Rattle.split_checks.proofs.Border.right_kind.Goals as goal

pub is_border-requires : goal.is_border-requires
is_border-requires c = halves-named c.args.self.now.ends _ c.requires

pub returns-then-not-is_border : goal.returns-then-not-is_border
returns-then-not-is_border c = search (inside-kind, rules)

pub overflow_sub-link : goal.overflow_sub-link
overflow_sub-link c = omega (arith, halves-named c.args.self.now.ends _ c.requires)

pub bounds-self-movement : goal.bounds-self-movement
bounds-self-movement c = omega (arith, c.args.self.now.ends.ends _ 0 c.requires (omega arith), c.args.self.now.tables.now.sized.link-size)

pub returns : goal.returns
returns c = search (border-kind, rules)
