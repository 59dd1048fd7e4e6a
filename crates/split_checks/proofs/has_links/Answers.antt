-- `split_checks::has_links` meets its contract.
use Rattle.base_laws.proofs.Kit.{refl, ◌∙◌, arith}
use Rattle.split_tables.proofs.Items.{counted-front}
use Rattle.split_checks.proofs.has_links.Goals as goal

pub returns : goal.returns
returns c = rw (c.count_in.ensures.0 ∙ counted-front c.args.half.now.links c.args.count (omega arith)) refl
