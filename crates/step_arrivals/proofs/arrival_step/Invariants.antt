-- `step_arrivals::arrival_step` meets its contract. The cursor is never past the step to be found.
use Rattle.base_laws.proofs.Kit.{◌-◌, ◌≡◌, length, get_or}
use Rattle.step_arrivals.specs.Arrivals.{Cursor}
use Rattle.step_arrivals.proofs.arrival_step.Given as goal

abbrev pub invariant-loop-m : goal.invariant-loop-m
invariant-loop-m l = (l.latest ≡ get_or l.times l.boundary 0 - l.travel) × Cursor l.times l.m l.boundary l.travel

abbrev pub decreases-loop-m : goal.decreases-loop-m
decreases-loop-m l = length l.times - l.m
