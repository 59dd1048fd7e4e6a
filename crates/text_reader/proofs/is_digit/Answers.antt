-- `text_reader::is_digit` meets its contract.
use Rattle.std.proofs.Common.{◌∙◌, arith}
use Rattle.std.proofs.lemmas.Bool.Decides.{nat_tests}
use Rattle.text_reader.specs.Field.{digit}
use Rattle.text_reader.proofs.is_digit.Goals as goal

pub returns : goal.returns
unfolding digit
returns c = c.contains.ensures.value ∙ rw (c.new.ensures.start, c.new.ensures.end, c.new.ensures.exhausted) (grind (arith, nat_tests))
