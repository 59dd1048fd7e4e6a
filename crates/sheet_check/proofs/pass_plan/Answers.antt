use Rattle.std.proofs.Common.{rules}
use Rattle.base_laws.proofs.Kit.{refl, arith}
use Rattle.sheet_check.proofs.Call.{watch-first, trams-asked, passing-first, step-asked, passing-next, watches-few, passing-all}
use Rattle.sheet_check.proofs.pass_plan.Goals as goal

pub load_trams-trams-requires : goal.load_trams-trams-requires
load_trams-trams-requires c = trams-asked c.requires (search rules)

pub loop-init : goal.loop-init
loop-init c = (search rules, rw (c.first.ensures, watch-first c.default.result c.default.ensures) (passing-first c.requires))

pub pass_step-pass-requires : goal.pass_step-pass-requires
pass_step-pass-requires c = step-asked c.requires _ refl refl c.load_trams-trams.ensures c.loop.invariant.1 (omega (arith, c.loop.invariant.0))

pub loop-preserved : goal.loop-preserved
loop-preserved c = (omega (arith, c.loop.invariant.0, c.pass_step-pass.ensures.boundary), passing-next c.requires c.loop.invariant.1 c.pass_step-pass.ensures)

pub check_runs-requires : goal.check_runs-requires
check_runs-requires c = omega (arith, watches-few c.requires c.loop.invariant.1, c.requires.loaded.counted.few.signals)

pub returns : goal.returns
returns c = passing-all c.requires c.loop.invariant.1 c.loop.invariant.0 (omega arith) c.check_runs.ensures
