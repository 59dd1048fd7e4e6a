-- Without a signal the first test decides, with one the second.
use Rattle.std.proofs.Common.{rules}
use Rattle.step_limits.proofs.Turns.{open_free, open-shown}
use Rattle.step_limits.proofs.is_open.Goals as goal

pub returns-then-signal-eq0 : goal.returns-then-signal-eq0
returns-then-signal-eq0 c = search (open_free, rules)

pub returns : goal.returns
returns c = search (open-shown, rules)
