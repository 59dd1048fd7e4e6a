-- `split_text::read_plan` meets its contract.
use Rattle.std.proofs.Common.{rules}
use Rattle.split_text.proofs.Reading.{plan-next}
use Rattle.split_text.proofs.read_plan.Goals as goal

pub returns : goal.returns
returns c = search (plan-next, rules)
