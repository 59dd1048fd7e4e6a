use Rattle.std.proofs.Common.{rules, arith, refl}
use Rattle.std.proofs.Math.Seq.{set-get_or}
use Rattle.base_search.specs.Checks.{checked}
use Rattle.base_search.proofs.Laws.{passed_on}
use Rattle.cells_lines.proofs.Demands.{demands-none, demands-all, demands-refused, demands-too-many, demands-more}
use Rattle.cells_lines.proofs.read_demands.Goals as goal

pub loop-k-init : goal.loop-k-init
loop-k-init c = demands-none c.requires

pub returns-then-is_end-clause-ok : goal.returns-then-is_end-clause-ok
returns-then-is_end-clause-ok c = rw set-get_or (demands-all c.requires c.loop-k.invariant refl (omega arith) (omega arith) cc)

pub returns-in_err-demand-clause-err : goal.returns-in_err-demand-clause-err
returns-in_err-demand-clause-err c = let e = demands-refused c.requires c.loop-k.invariant (omega arith) (grind arith) c.in_err-demand.ensures.err in search rules

pub loop-k-preserved : goal.loop-k-preserved
loop-k-preserved c = demands-more c.requires c.loop-k.invariant c.in_ok-demand.ensures.ok (omega arith)

pub returns-in_err-checked-clause-err : goal.returns-in_err-checked-clause-err
unfolding checked
returns-in_err-checked-clause-err c = rw (passed_on _ _ c.from_residual-in_err-checked.ensures.1) (let e = demands-too-many c.requires c.loop-k.invariant (omega arith) (grind arith) in grind arith)

pub returns-clause-ok : goal.returns-clause-ok
unfolding checked
returns-clause-ok c = demands-all c.requires c.loop-k.invariant (omega arith) (omega arith) (omega arith) (grind arith)
