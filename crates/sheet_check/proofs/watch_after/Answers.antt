-- `sheet_check::watch_after` meets its contract.
use Rattle.std.proofs.Common.{rules}
use Rattle.sheet_check.proofs.Watching.{watch-same, watch-other}
use Rattle.sheet_check.proofs.watch_after.Goals as goal

pub returns-then-phase-signal : goal.returns-then-phase-signal
returns-then-phase-signal c = search (watch-same, rules)

pub returns : goal.returns
returns c = search (watch-other, rules)
