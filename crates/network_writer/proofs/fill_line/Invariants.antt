-- `network_writer::fill_line` meets its contract.
use Rattle.base_laws.proofs.Kit.{ℕ, ◌<◌, ◌≡◌, get_or}
use Rattle.network_writer.specs.Plan.{column_in}
use Rattle.network_writer.proofs.fill_line.Given as goal

abbrev pub invariant-loop-k : goal.invariant-loop-k
invariant-loop-k l = (j : ℕ) → j < l.k → get_or l.line j 0 ≡ get_or l.row (column_in l.counts j) 0
