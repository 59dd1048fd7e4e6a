-- `plan_link_state::arrived_by` meets its contract.
use Rattle.base_laws.specs.Test.{◌or◌}
use Rattle.plan_link_state.proofs.Ledger.{cursor-first, over-asked, step_room, elapsed-room, short, arrived-told}
use Rattle.plan_link_state.proofs.arrived_by.Goals as goal

pub arrival_step-step-requires : goal.arrival_step-step-requires
arrival_step-step-requires c = cursor-first c.requires

pub entered_over-arrival-requires : goal.entered_over-arrival-requires
entered_over-arrival-requires c = over-asked c.requires c.arrival_step-step.ensures

pub seconds-seconds-requires : goal.seconds-seconds-requires
seconds-seconds-requires c = step_room c.requires c.arrival_step-step.ensures

pub elapsed-elapsed-requires : goal.elapsed-elapsed-requires
elapsed-elapsed-requires c = elapsed-room c.requires c.arrival_step-step.ensures

pub scaled_arrived-requires : goal.scaled_arrived-requires
scaled_arrived-requires c = short c.requires c.arrival_step-step.ensures c.seconds-seconds.ensures c.elapsed-elapsed.ensures

pub returns : goal.returns
unfolding ◌or◌
returns c = arrived-told c.requires c.arrival_step-step.ensures c.seconds-seconds.ensures c.elapsed-elapsed.ensures c.entered_over-arrival.ensures c.scaled_arrived.ensures
