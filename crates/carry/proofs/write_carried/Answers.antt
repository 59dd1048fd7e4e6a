-- `carry::write_carried` meets its contract.
use Rattle.std.proofs.Common.{rules}
use Rattle.network_trams.proofs.Ready.{trams-ready}
use Rattle.carry.proofs.write_carried.Goals as goal

pub load_trams-trams-requires : goal.load_trams-trams-requires
load_trams-trams-requires c = let loaded = c.requires.loaded in trams-ready loaded.trams-start loaded.counted loaded.holds (search rules)

pub returns : goal.returns
returns c = λ plan stands. c.write_measured.ensures _ (λ before after size put. search (put, stands, rules))
