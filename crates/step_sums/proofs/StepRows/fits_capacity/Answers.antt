-- A sum stands in place of the difference.
use Rattle.std.proofs.Common.{rules}
use Rattle.base_laws.proofs.Tests.{leb-over}
use Rattle.step_sums.specs.Sums.{fits_capacity}
use Rattle.step_sums.proofs.StepRows.fits_capacity.Goals as goal

pub returns : goal.returns
unfolding fits_capacity
returns c = search (leb-over, rules)
