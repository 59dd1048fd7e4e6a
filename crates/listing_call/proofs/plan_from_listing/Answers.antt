use Rattle.std.proofs.lemmas.List.{take_rest}
use Rattle.base_search.proofs.Laws.{passed_on}
use Rattle.listing_lines.specs.Entry.{entries}
use Rattle.listing_call.proofs.Call.{plan-refused, tables-fit, plan-written, padding-too}
use Rattle.listing_call.proofs.plan_from_listing.Goals as goal

pub invariant_of-tables : goal.invariant_of-tables
invariant_of-tables c = record { fit = tables-fit (c.read_network.ensures.held _ c.in_ok-loaded.was) (take_rest c.in_ok-loaded.loaded.times.now c.in_ok-loaded.loaded.reading.counts.past) }

pub returns-in_err-loaded : goal.returns-in_err-loaded
returns-in_err-loaded c =
    let got = plan-refused c.read_network.ensures (entries c.args.listing.now) c.args.out.now c.in_err-loaded.was in
    rw (passed_on _ _ c.from_residual.ensures.1) (record { plan_got = got; padding_ignored = padding-too c.args.network.now got })

pub returns : goal.returns
returns c =
    let got = plan-written c.read_network.ensures _ _ c.in_ok-loaded.was (take_rest c.in_ok-loaded.loaded.times.now c.in_ok-loaded.loaded.reading.counts.past) c.write_listing.ensures in
    record { plan_got = got; padding_ignored = padding-too c.args.network.now got }
