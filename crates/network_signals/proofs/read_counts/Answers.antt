-- `network_signals::read_counts` meets its contract.
use Rattle.std.proofs.Common.{rules}
use Rattle.network_signals.proofs.Counts.{counts-malformed, counts-invalid, counts-passed}
use Rattle.network_signals.proofs.read_counts.Goals as goal

pub returns-in_default : goal.returns-in_default
returns-in_default c = search (counts-malformed, rules)

pub returns-then-not-valid_counts : goal.returns-then-not-valid_counts
returns-then-not-valid_counts c = search (counts-invalid, rules)

pub returns : goal.returns
returns c = search (counts-passed, rules)
