use Rattle.base_search.proofs.Laws.{passed_on}
use Rattle.traces.proofs.Calls.{counts-stop, one-advance-each, values-stop, all-stepped}
use Rattle.traces.proofs.step_vehicles.Goals as goal

pub returns-in_err-check_counts : goal.returns-in_err-check_counts
returns-in_err-check_counts c =
    let e = passed_on _ _ c.from_residual.ensures.1 in
    let d = counts-stop _ _ _ _ _ c.check_counts.ensures _ _ e c.in_err-check_counts.was in
    record { value = d.value; places_after = d.places_after; step_keeps = d.step_keeps }

pub returns-in_err-check_values : goal.returns-in_err-check_values
returns-in_err-check_values c =
    let e = passed_on _ _ c.from_residual-in_err-check_values.ensures.1 in
    let d = values-stop _ _ _ _ _ c.check_counts.ensures c.in_ok-check_counts.was _ c.check_values.ensures _ _ e c.in_err-check_values.was in
    record { value = d.value; places_after = d.places_after; step_keeps = d.step_keeps }

pub move_all-requires : goal.move_all-requires
move_all-requires c = one-advance-each _ _ _ c.args.spacing _ c.check_counts.ensures c.in_ok-check_counts.was

pub returns : goal.returns
returns c =
    let d = all-stepped _ _ _ _ _ c.check_counts.ensures c.in_ok-check_counts.was _ c.check_values.ensures c.move_all.new.places c.in_ok-check_values.was c.move_all.ensures in
    record { value = d.value; places_after = d.places_after; step_keeps = d.step_keeps }
