-- `split_text::signal_number` meets its contract.
use Rattle.std.proofs.Common.{rules}
use Rattle.split_text.proofs.Lines.{number-none, number-some}
use Rattle.split_text.proofs.signal_number.Goals as goal

pub returns-then-signal-eq0 : goal.returns-then-signal-eq0
returns-then-signal-eq0 c = search (number-none, rules)

pub returns : goal.returns
returns c = search (number-some, rules)
