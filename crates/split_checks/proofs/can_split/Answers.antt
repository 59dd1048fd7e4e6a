-- `split_checks::can_split` meets its contract.
use Rattle.std.proofs.Common.{rules}
use Rattle.split_checks.proofs.Network.{free-asked}
use Rattle.split_checks.proofs.Split.{split-told}
use Rattle.split_checks.proofs.can_split.Goals as goal

pub invariant_of-border : goal.invariant_of-border
invariant_of-border c = record { ends = free-asked c.requires.steps-asked c.args.halves.now.first }

pub returns : goal.returns
returns c = search (split-told, rules)
