-- The items so far are what the calls so far gave.
use Rattle.std.proofs.Common.{take}
use Rattle.cases_files.specs.Reading.{GivesEach}
use Rattle.cases_files.proofs.reading.read_each.Given as goal

abbrev pub invariant-loop-item : goal.invariant-loop-item
invariant-loop-item g l = GivesEach (goal.F-post g l.read_item) l.initial.file (take l.item-index l.item-items) l.file
