-- `split_text::raised` meets its contract.
use Rattle.base_laws.proofs.Kit.{arith}
use Rattle.model_split.specs.Halves.{in_field}
use Rattle.split_text.proofs.raised.Goals as goal

pub returns : goal.returns
returns c = unfold in_field in omega (arith, c.min.ensures, c.from.ensures, c.saturating_add.ensures)
