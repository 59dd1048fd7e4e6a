-- `split_checks::own_signal` meets its contract.
use Rattle.std.proofs.Common.{rules}
use Rattle.split_checks.proofs.Tables.{none_owned, own-told}
use Rattle.split_checks.proofs.own_signal.Goals as goal

pub returns-then-signal-eq0 : goal.returns-then-signal-eq0
returns-then-signal-eq0 c = search (none_owned, rules)

pub returns : goal.returns
returns c = search (own-told, rules)
