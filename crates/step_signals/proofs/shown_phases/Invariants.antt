-- `step_signals::shown_phases` meets its contract. The loop's invariant: the phases of the first i signals are written.
use Rattle.base_laws.proofs.Kit.{◌≤◌}
use Rattle.step_signals.specs.Step.{ShownPhases}
use Rattle.step_signals.proofs.shown_phases.Given as goal

abbrev pub invariant-loop-i : goal.invariant-loop-i
invariant-loop-i l = (l.i ≤ l.count) × ShownPhases l.signals l.i l.masks l.initial.phases l.phases
