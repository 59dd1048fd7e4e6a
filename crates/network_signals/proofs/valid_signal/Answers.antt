-- `network_signals::valid_signal` meets its contract. Each return by where the shown phase stands.
use Rattle.std.proofs.Common.{◌≡◌, sym, ◌∙◌, arith}
use Rattle.std.proofs.lemmas.Bool.Decides.{nat_tests}
use Rattle.base_laws.specs.Test.{◌and◌, within}
use Rattle.network_signals.proofs.Values.{shown-none, shown-within}
use Rattle.network_signals.proofs.valid_signal.Goals as goal

pub returns-then-not-contains : goal.returns-then-not-contains
unfolding within ◌and◌
returns-then-not-contains c =
    let s = c.args.signal in
    let shown : c.contains.result ≡ within 1 s.shown s.phases = c.contains.ensures.value ∙ rw (c.new.ensures.start, c.new.ensures.end, c.new.ensures.exhausted) (grind (arith, nat_tests)) in
    sym (shown-none s (sym shown ∙ c.if-not-contains.true))

pub returns : goal.returns
unfolding within ◌and◌
returns c =
    let s = c.args.signal in
    let shown : c.contains.result ≡ within 1 s.shown s.phases = c.contains.ensures.value ∙ rw (c.new.ensures.start, c.new.ensures.end, c.new.ensures.exhausted) (grind (arith, nat_tests)) in
    let cycle : c.contains-2.result ≡ within s.least_cycle s.greatest_cycle 3600 = c.contains-2.ensures.value ∙ rw (c.new-2.ensures.start, c.new-2.ensures.end, c.new-2.ensures.exhausted) (grind (arith, nat_tests)) in
    let clock : c.contains-3.result ≡ within s.shown_for s.cycle_clock s.greatest_cycle = c.contains-3.ensures.value ∙ rw (c.new-3.ensures.start, c.new-3.ensures.end, c.new-3.ensures.exhausted) (grind (arith, nat_tests)) in
    rw (cycle, clock) (shown-within s (sym shown ∙ c.if-not-contains.false) _ c.valid_times.ensures)
