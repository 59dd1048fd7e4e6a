-- `network_trams::check_tram_phases` meets its contract.
use Rattle.network_tables.specs.Blocks.{PassedTo}
use Rattle.network_trams.specs.Trams.{phase_checks_in}
use Rattle.network_trams.proofs.check_tram_phases.Given as goal

abbrev pub invariant-loop-k : goal.invariant-loop-k
invariant-loop-k l = PassedTo l.counts.trams (phase_checks_in l.trams l.signals l.counts) l.k
