-- `carry::PassedLines::put` meets its contract.
use Rattle.carry.proofs.Reading.{CopiedTo}
use Rattle.carry.proofs.PassedLines.put.Given as goal

abbrev pub invariant-loop : goal.invariant-loop
invariant-loop l = CopiedTo l.text l.self l.initial.output l.row l.line l.output l.counter
