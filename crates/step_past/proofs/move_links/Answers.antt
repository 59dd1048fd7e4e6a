use Rattle.std.proofs.Common.{rules}
use Rattle.step_past.proofs.Moving.{moving-other, moving-on}
use Rattle.step_past.proofs.move_links.Goals as goal
use Rattle.step_past.proofs.move_links.Goals.{then-arrival-from, else-arrival-from}

pub loop-i-preserved : goal.loop-i-preserved
loop-i-preserved c = elim c.if-arrival-from.branch [
  | then-arrival-from w ↦ rw w.arrivals-is (search (moving-on, rules))
  | else-arrival-from w ↦ rw w.arrivals-is (search (moving-other, rules))
]
