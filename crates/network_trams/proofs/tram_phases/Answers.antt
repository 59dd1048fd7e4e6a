use Rattle.std.proofs.Common.{rules}
use Rattle.std.proofs.lemmas.Iterator.Adapters.{YieldsList-from_rev_slice}
use Rattle.std.proofs.lemmas.Iterator.Consumers.{YieldsList-turn, YieldsList-end}
use Rattle.std.proofs.lemmas.List.{length-append}
use Rattle.network_trams.proofs.Claims.{claims-begin, claims-turn, claims-done}
use Rattle.network_trams.proofs.tram_phases.Goals as goal

pub loop-tram-init : goal.loop-tram-init
loop-tram-init c = claims-begin c.requires

pub loop-tram-preserved : goal.loop-tram-preserved
loop-tram-preserved c =
    let road = YieldsList-from_rev_slice {s = c.into_iter-tram-iterator.result} c.args.trams.now (search rules) in
    let turn = YieldsList-turn road c.loop-tram.yielded _ c.loop-tram.yielded_by c.next.result _ c.in-Some.field-0 c.in-Some.is c.next.ensures.steps in
    rw (length-append c.loop-tram.yielded) (claims-turn c.requires c.loop-tram.invariant turn c.claim.ensures)

pub returns : goal.returns
returns c =
    let road = YieldsList-from_rev_slice {s = c.into_iter-tram-iterator.result} c.args.trams.now (search rules) in
    let end = YieldsList-end road c.loop-tram.yielded _ c.loop-tram.yielded_by c.next.result _ c.in-None.is c.next.ensures.steps in
    claims-done c.requires c.loop-tram.invariant end.1
