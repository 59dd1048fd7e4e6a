use Rattle.std.proofs.Common.{◌<◌, sym, arith, rules}
use Rattle.network_tables.proofs.Blocks.{passed_none, passed-all}
use Rattle.network_links.proofs.Movements.{shares-broken, shares-next}
use Rattle.network_links.proofs.Shares.{sums-size}
use Rattle.network_links.proofs.check_shares.Goals as goal

pub loop-i-init : goal.loop-i-init
loop-i-init c = search (passed_none, rules)

pub returns-in-Some : goal.returns-in-Some
returns-in-Some c =
    let below : c.loop-i.i < c.args.counts.links = omega (arith, c.loop-i-test.true, sums-size c.add_shares.ensures c.requires.few) in
    shares-broken c.requires c.loop-i.invariant below c.bad_shares.ensures c.in-Some.is c.movement_line.ensures c.refusal.ensures

pub loop-i-preserved : goal.loop-i-preserved
loop-i-preserved c =
    let below : c.loop-i.i < c.args.counts.links = omega (arith, c.loop-i-test.true, sums-size c.add_shares.ensures c.requires.few) in
    shares-next c.requires c.loop-i.invariant below c.bad_shares.ensures (search rules)

pub returns : goal.returns
returns c = sym (passed-all c.loop-i.invariant (omega (arith, sums-size c.add_shares.ensures c.requires.few)))
