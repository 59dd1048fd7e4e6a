-- `sheet_check::first_broken` meets its contract.
use Rattle.std.proofs.Common.{rules}
use Rattle.sheet_check.proofs.Watching.{broken-before, broken-now, broken-not}
use Rattle.sheet_check.proofs.first_broken.Goals as goal

pub returns-then-watch-ne0 : goal.returns-then-watch-ne0
returns-then-watch-ne0 c = search (broken-before, rules)

pub returns-then-watch-seconds : goal.returns-then-watch-seconds
returns-then-watch-seconds c = search (broken-now, rules)

pub returns : goal.returns
returns c = search (broken-not, rules)
