use Rattle.base_laws.proofs.Kit.{◌∙◌}
use lib.Ieee.{neg, of_bits, of_int}
use Rattle.traces.specs.Call.{million}
use Rattle.traces.proofs.Values.{partial_le-is, valid-place-is}
use Rattle.traces.proofs.valid_place.Goals as goal

pub returns : goal.returns
unfolding million neg of_bits of_int
returns c = c.contains.ensures.value ∙ simp (c.new.ensures.start, c.new.ensures.end, c.new.ensures.exhausted, partial_le-is) (valid-place-is c.args.x)
