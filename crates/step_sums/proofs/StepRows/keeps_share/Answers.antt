use Rattle.std.proofs.Common.{rules}
use Rattle.step_sums.proofs.Turns.{no-share, share-is}
use Rattle.step_sums.proofs.StepRows.keeps_share.Goals as goal

pub returns-then-volume-eq0 : goal.returns-then-volume-eq0
returns-then-volume-eq0 c = search (no-share, rules)

pub returns : goal.returns
returns c = search (share-is, rules)
