use Rattle.std.proofs.Common.{rules}
use Rattle.step_past.proofs.Keeping.{keep-other, keep-set}
use Rattle.step_past.proofs.keep_curves.Goals as goal
use Rattle.step_past.proofs.keep_curves.Goals.{then-arrival-line, else-arrival-line}

pub loop-i-preserved : goal.loop-i-preserved
loop-i-preserved c = elim c.if-arrival-line.branch [
  | then-arrival-line w ↦ rw w.arrivals-is (search (keep-set, rules))
  | else-arrival-line w ↦ rw w.arrivals-is (search (keep-other, rules))
]
