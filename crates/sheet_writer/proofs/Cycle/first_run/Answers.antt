use Rattle.base_laws.proofs.Kit.{refl}
use Rattle.sheet_writer.proofs.Runs.{off-none, off-more, off-run}
use Rattle.sheet_writer.proofs.Cycle.first_run.Goals as goal

pub loop-k-init : goal.loop-k-init
loop-k-init c = off-none c.args.self.now.fits.line-held

pub loop-k-preserved : goal.loop-k-preserved
loop-k-preserved c = off-more c.args.self.now.fits.line-held c.loop-k.invariant refl c.loop-k-test.true

pub returns : goal.returns
returns c = off-run c.args.self.now.fits.line-held c.loop-k.invariant refl c.loop-k-test.false
