use Rattle.std.proofs.Common.{rules}
use Rattle.base_laws.proofs.Kit.{arith}
use Rattle.sheet_check.proofs.Watching.{watched-none, watched-more, watched-still}
use Rattle.sheet_check.proofs.watch_signals.Goals as goal
use Rattle.sheet_check.proofs.watch_signals.Goals.{then-said-i-eq0, else-said-i-eq0}

pub loop-i-init : goal.loop-i-init
loop-i-init c = search (watched-none, rules)

pub loop-i-preserved : goal.loop-i-preserved
loop-i-preserved c = elim c.if-said-i-eq0.branch [
  | then-said-i-eq0 w ↦ rw w.pass-is (watched-more c.loop-i.invariant (omega (arith, c.loop-i-test.true, c.requires.few, c.requires.watches-size)) (rw w.duration_of-duration.ensures at w.watch_after.ensures) w.if-said-i-eq0.true)
  | else-said-i-eq0 w ↦ rw w.pass-is (watched-still c.loop-i.invariant w.if-said-i-eq0.false)
]
