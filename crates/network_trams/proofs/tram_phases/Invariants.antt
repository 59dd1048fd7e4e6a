-- `network_trams::tram_phases` meets its contract.
use Rattle.base_laws.proofs.Kit.{◌-◌, length}
use Rattle.network_trams.proofs.Claims.{ClaimsFrom}
use Rattle.network_trams.proofs.tram_phases.Given as goal

abbrev pub invariant-loop-tram : goal.invariant-loop-tram
invariant-loop-tram l = ClaimsFrom l.trams l.n (length l.trams - length l.yielded) l.asked
