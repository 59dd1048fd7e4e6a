use Rattle.std.proofs.Common.{rules}
-- `carry::carry_from` meets its contract: one law for each way out.
use Rattle.carry.proofs.Carrying.{outside, ledger-short}
use Rattle.carry.proofs.carry_from.Goals as goal

pub returns-then-not-contains : goal.returns-then-not-contains
returns-then-not-contains c = rw c.refusal.ensures (outside _ _ _ _ _ c.requires.tabled (search rules))

pub returns-then-ledger-row_start : goal.returns-then-ledger-row_start
returns-then-ledger-row_start c =
    rw c.refusal-then-ledger-row_start.ensures (ledger-short _ _ _ _ _ c.requires.tabled (search rules) (search rules) (rw c.row_start.ensures at c.if-ledger-row_start.true))
