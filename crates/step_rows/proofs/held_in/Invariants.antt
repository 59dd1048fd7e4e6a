-- `step_rows::held_in` meets its contract. The invariant: the total is what the first i links hold.
use Rattle.base_laws.proofs.Kit.{◌≡◌, ◌*◌, ◌-◌, ◌/◌, ◌≤◌, length}
use Rattle.base_laws.specs.Sum.{sum}
use Rattle.network_tables.specs.Fields.{entered_in, left_in}
use Rattle.step_rows.proofs.held_in.Given as goal

abbrev pub invariant-loop-i : goal.invariant-loop-i
invariant-loop-i l = (l.i ≤ length l.row / 2) × (l.total ≡ sum l.i (λ k. entered_in l.row k - left_in l.row k)) × (l.total ≤ 4294967295 * l.i)
