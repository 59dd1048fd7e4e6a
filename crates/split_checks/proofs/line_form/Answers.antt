-- `split_checks::line_form` meets its contract.
use Rattle.std.proofs.Common.{rules}
use Rattle.split_checks.proofs.Plan.{line-told}
use Rattle.split_checks.proofs.line_form.Goals as goal

pub returns : goal.returns
returns c = search (line-told, rules)
