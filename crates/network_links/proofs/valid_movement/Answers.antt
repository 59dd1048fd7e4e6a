-- `network_links::valid_movement` meets its contract.
use Rattle.std.proofs.Common.{◌≡◌, refl, ◌∙◌, arith}
use Rattle.std.proofs.lemmas.Bool.Decides.{nat_tests}
use Rattle.base_laws.specs.Test.{◌and◌, within}
use Rattle.network_tables.specs.Fields.{movement_at}
use Rattle.network_links.specs.Movements.{valid_movement_in}
use Rattle.network_links.proofs.valid_movement.Goals as goal

pub returns : goal.returns
unfolding valid_movement_in within ◌and◌
returns c =
    let movement = movement_at c.args.movements.now c.args.j in
    let from : c.contains.result ≡ within 1 movement.from c.args.links = c.contains.ensures.value ∙ rw (c.new.ensures.start, c.new.ensures.end, c.new.ensures.exhausted) (grind (arith, nat_tests)) in
    let to : c.contains-2.result ≡ within 1 movement.to c.args.links = c.contains-2.ensures.value ∙ rw (c.new-2.ensures.start, c.new-2.ensures.end, c.new-2.ensures.exhausted) (grind (arith, nat_tests)) in
    let rate : c.contains-3.result ≡ within 1 movement.rate 10_000 = c.contains-3.ensures.value ∙ rw (c.new-3.ensures.start, c.new-3.ensures.end, c.new-3.ensures.exhausted) (grind (arith, nat_tests)) in
    let share : c.contains-4.result ≡ within 1 movement.share 1000 = c.contains-4.ensures.value ∙ rw (c.new-4.ensures.start, c.new-4.ensures.end, c.new-4.ensures.exhausted) (grind (arith, nat_tests)) in
    rw (from, to, rate, share, c.pair_rises.ensures) refl
