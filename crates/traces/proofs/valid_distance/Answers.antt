use Rattle.base_laws.proofs.Kit.{◌∙◌, sym}
use lib.Ieee.{of_bits, of_int}
use Rattle.traces.specs.Call.{valid_distance}
use Rattle.traces.proofs.valid_distance.Goals as goal

pub returns-then-valid_place : goal.returns-then-valid_place
unfolding valid_distance of_bits of_int
returns-then-valid_place c = rw (sym c.valid_place.ensures ∙ c.if-valid_place.true)
