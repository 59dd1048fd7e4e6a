use Rattle.std.proofs.Common.{rules}
use Rattle.base_laws.proofs.Kit.{arith}
use Rattle.sheet_check.proofs.Watching.{found_none, found-earlier, found-later, found_nothing, found-told}
use Rattle.sheet_check.proofs.check_runs.Goals as goal
use Rattle.sheet_check.proofs.check_runs.Goals.{then-is_earlier, else-is_earlier}

pub loop-i-init : goal.loop-i-init
loop-i-init c = search (found_none, rules)

pub loop-i-preserved : goal.loop-i-preserved
loop-i-preserved c = elim c.if-is_earlier.branch [
  | then-is_earlier w ↦ found-earlier c.loop-i.invariant (omega arith) c.is_earlier.ensures w.if-is_earlier.true w.line-is w.item-is
  | else-is_earlier w ↦ found-later c.loop-i.invariant (omega arith) c.is_earlier.ensures w.if-is_earlier.false w.line-is w.item-is
]

pub returns-then-line-eq0 : goal.returns-then-line-eq0
returns-then-line-eq0 c = search (found_nothing, rules)

pub refusal-requires : goal.refusal-requires
refusal-requires c = (search rules, omega (arith, c.loop-i.invariant.item-small, c.loop-i.auto.i-end, c.requires))

pub returns : goal.returns
returns c = found-told c.loop-i.invariant (omega arith) c.if-line-eq0.false c.refusal.ensures
