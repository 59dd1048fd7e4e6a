-- `plan_link_state::state_by` meets its contract. One law for each way out.
use Rattle.std.proofs.Common.{◌≡◌, ◌∙◌, rules}
use Rattle.base_laws.proofs.Kit.{ap}
use Rattle.base_search.specs.Checks.{Verdict, checked}
use Rattle.base_search.proofs.Laws.{passed_on}
use Rattle.base_laws.specs.Test.{◌and◌, within}
use Rattle.plan_link_state.proofs.State.{short-told, past-told, link-told, inside, row-held, arrived-asked, arrived-lasts, found-told}
use Rattle.plan_link_state.proofs.state_by.Goals as goal
use Rattle.plan_link_state.proofs.state_by.Goals.{After-contains}

-- the test of the link's number is the model's
link-test : (c : After-contains) → c.contains.result ≡ within 1 c.args.link c.args.tables.now.reading.counts.links
unfolding within ◌and◌
link-test c = search rules

link-checked : {v : Verdict} (c : After-contains) → v ≡ checked c.contains.result 20 0 0 → v ≡ checked (within 1 c.args.link c.args.tables.now.reading.counts.links) 20 0 0
link-checked c e = e ∙ ap (λ b. checked b 20 0 0) (link-test c)

pub returns-in_err-checked : goal.returns-in_err-checked
returns-in_err-checked c = rw (passed_on _ _ c.from_residual.ensures.1) (short-told c.requires c.args.ledger.now c.args.boundary c.args.link c.row_start-size.ensures c.checked.ensures c.in_err-checked.was)

pub returns-in_err-checked-2 : goal.returns-in_err-checked-2
returns-in_err-checked-2 c = rw (passed_on _ _ c.from_residual-in_err-checked-2.ensures.1) (past-told c.requires c.args.ledger.now c.args.boundary c.args.link c.row_start-size.ensures c.checked.ensures c.in_ok-checked.was c.checked-2.ensures c.in_err-checked-2.was)

pub returns-in_err-checked-3 : goal.returns-in_err-checked-3
returns-in_err-checked-3 c = rw (passed_on _ _ c.from_residual-in_err-checked-3.ensures.1) (link-told c.requires c.args.ledger.now c.args.boundary c.args.link c.row_start-size.ensures c.checked.ensures c.in_ok-checked.was c.checked-2.ensures c.in_ok-checked-2.was (link-checked (goal.at.returns-in_err-checked-3 c).After-contains c.checked-3.ensures) c.in_err-checked-3.was)

pub overflow_sub-i : goal.overflow_sub-i
overflow_sub-i c = (inside c.requires c.args.ledger.now c.args.boundary c.args.link c.row_start-size.ensures c.checked.ensures c.in_ok-checked.was c.checked-2.ensures c.in_ok-checked-2.was (link-checked (goal.at.overflow_sub-i c).After-contains c.checked-3.ensures) c.in_ok-checked-3.was).0

pub entered_at-entered-requires : goal.entered_at-entered-requires
entered_at-entered-requires c = row-held c.requires c.args.ledger.now c.args.boundary c.args.link c.row_start-size.ensures c.checked.ensures c.in_ok-checked.was c.checked-2.ensures c.in_ok-checked-2.was (link-checked (goal.at.entered_at-entered-requires c).After-contains c.checked-3.ensures) c.in_ok-checked-3.was

pub left_at-left-requires : goal.left_at-left-requires
left_at-left-requires c = row-held c.requires c.args.ledger.now c.args.boundary c.args.link c.row_start-size.ensures c.checked.ensures c.in_ok-checked.was c.checked-2.ensures c.in_ok-checked-2.was (link-checked (goal.at.left_at-left-requires c).After-contains c.checked-3.ensures) c.in_ok-checked-3.was

pub arrived_by-requires : goal.arrived_by-requires
arrived_by-requires c = arrived-asked c.requires c.args.ledger.now c.args.boundary c.args.link c.row_start-size.ensures c.checked.ensures c.in_ok-checked.was c.checked-2.ensures c.in_ok-checked-2.was (link-checked (goal.at.arrived_by-requires c).After-contains c.checked-3.ensures) c.in_ok-checked-3.was

pub state_from-requires : goal.state_from-requires
state_from-requires c = arrived-lasts c.requires c.args.ledger.now c.args.boundary c.args.link c.row_start-size.ensures c.checked.ensures c.in_ok-checked.was c.checked-2.ensures c.in_ok-checked-2.was (link-checked (goal.at.state_from-requires c).After-contains c.checked-3.ensures) c.in_ok-checked-3.was c.arrived_by.ensures

pub returns : goal.returns
returns c = found-told c.requires c.args.ledger.now c.args.boundary c.args.link c.row_start-size.ensures c.checked.ensures c.in_ok-checked.was c.checked-2.ensures c.in_ok-checked-2.was (link-checked (goal.at.returns c).After-contains c.checked-3.ensures) c.in_ok-checked-3.was c.entered_at-entered.ensures c.left_at-left.ensures c.arrived_by.ensures c.state_from.ensures
