-- `sheet_lines::is_within` meets its contract.
use Rattle.std.proofs.Common.{◌∙◌, arith}
use Rattle.std.proofs.lemmas.Bool.Decides.{nat_tests}
use Rattle.base_laws.specs.Test.{◌and◌, within}
use Rattle.sheet_lines.proofs.is_within.Goals as goal

pub returns : goal.returns
unfolding within ◌and◌
returns c = c.contains.ensures.value ∙ rw (c.new.ensures.start, c.new.ensures.end, c.new.ensures.exhausted) (grind (arith, nat_tests))
