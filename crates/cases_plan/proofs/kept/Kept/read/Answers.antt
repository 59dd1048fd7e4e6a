-- `cases_plan::kept::Kept::read` meets its contract: what is given stands behind its length.
use Rattle.std.proofs.Common.{inr, refl, rules}
use Rattle.cases_plan.proofs.kept.Kept.read.Goals as goal

pub returns : goal.returns
returns g c = inr (record { shown = _; counted = search rules; room = _; left = _; filled = _; gave = c.in_ok-read_items.ensures; leaves = refl })
