-- `text_writer::widen` meets its contract.
use Rattle.base_laws.proofs.Kit.{ℕ, ◌<◌, ◌≡◌, get_or}
use Rattle.text_writer.proofs.widen.Given as goal

abbrev pub invariant-loop-k : goal.invariant-loop-k
invariant-loop-k l = (j : ℕ) → j < l.k → get_or l.wide j 0 ≡ get_or l.numbers j 0
