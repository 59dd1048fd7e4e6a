-- `carry::rest_of` meets its contract.
use Rattle.std.proofs.Common.{rules}
use Rattle.carry.proofs.Trams.{none_left, one_left}
use Rattle.carry.proofs.rest_of.Goals as goal

pub returns-then-tram-boundary : goal.returns-then-tram-boundary
returns-then-tram-boundary c = search (none_left, rules)

pub returns : goal.returns
returns c = search (one_left, rules)
