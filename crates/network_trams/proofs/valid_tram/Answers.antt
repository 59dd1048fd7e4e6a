-- `network_trams::valid_tram` meets its contract.
use Rattle.std.proofs.Common.{◌≡◌, refl, rules}
use Rattle.base_laws.specs.Test.{◌and◌, within}
use Rattle.network_tables.specs.Fields.{tram_at}
use Rattle.network_trams.specs.Trams.{valid_tram_in}
use Rattle.network_trams.proofs.valid_tram.Goals as goal

pub returns : goal.returns
unfolding valid_tram_in within ◌and◌
returns c =
    let tram = tram_at c.args.trams.now c.args.k in
    let signal : c.contains.result ≡ within 1 tram.signal c.args.signals = search rules in
    let steps : c.contains-2.result ≡ within tram.first_step tram.last_step c.args.steps = search rules in
    rw (signal, steps, c.is_apart_from_earlier.ensures) refl
