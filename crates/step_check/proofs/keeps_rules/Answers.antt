use Rattle.std.proofs.Common.{rules}
use Rattle.step_check.proofs.Pass.{pass-ends}
use Rattle.step_check.proofs.Rules.{rows-made}
use Rattle.step_check.proofs.keeps_rules.Goals as goal

pub invariant_of-rows : goal.invariant_of-rows
invariant_of-rows c =
    let got = c.row_within_limits.ensures in
    let kept = got.kept (search rules) in
    let fits = c.requires.fits kept in
    record { rows = rw (got.made (search rules) fits) (rows-made _ _ _ fits (c.requires.arrival-tables kept)) }

pub returns : goal.returns
returns c =
    let got = c.row_within_limits.ensures in
    let kept = got.kept (search rules) in
    pass-ends (got.made (search rules) (c.requires.fits kept)) got.alone (c.keeps_signal_rules.ensures (search rules)) kept c.keeps_sums.ensures
