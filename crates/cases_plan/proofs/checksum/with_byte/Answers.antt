-- `cases_plan::checksum::with_byte` meets its contract.
use Rattle.std.proofs.Common.{rules}
use Rattle.cases_plan.specs.Checksum.{with_byte}
use Rattle.cases_plan.proofs.checksum.with_byte.Goals as goal

pub returns : goal.returns
unfolding with_byte
returns c = search rules
