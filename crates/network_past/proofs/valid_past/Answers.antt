-- `network_past::valid_past` meets its contract.
use Rattle.std.proofs.Common.{rules}
use Rattle.base_laws.specs.Test.{◌and◌}
use Rattle.network_past.specs.Past.{valid_past_in}
use Rattle.network_past.proofs.Links.{step_room, elapsed-room, scaled-room}
use Rattle.network_past.proofs.valid_past.Goals as goal

pub seconds-seconds-requires : goal.seconds-seconds-requires
seconds-seconds-requires c = search (step_room, rules)

pub elapsed-elapsed-requires : goal.elapsed-elapsed-requires
elapsed-elapsed-requires c = elapsed-room c.requires

pub scaled_arrived-arrived-requires : goal.scaled_arrived-arrived-requires
scaled_arrived-arrived-requires c = scaled-room c.requires _ c.seconds-seconds.ensures c.elapsed-elapsed.ensures

pub returns : goal.returns
unfolding valid_past_in ◌and◌
returns c = cc
