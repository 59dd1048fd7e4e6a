-- `step_arrivals::next_time` meets its contract.
use Rattle.std.proofs.Common.{rules}
use Rattle.base_laws.proofs.Kit.{◌≡◌, ℕ, refl, arith}
use Rattle.base_laws.specs.Test.{◌and◌, within}
use Rattle.step_arrivals.proofs.next_time.Goals as goal

pub returns-then-valid : goal.returns-then-valid
unfolding ◌and◌ within
returns-then-valid c = search rules

pub returns-else-valid : goal.returns-else-valid
unfolding ◌and◌ within
returns-else-valid c = let l = c.if-valid.false in record { told = search rules; size = refl; time-set = λ e. let z : ◌≡◌ {A = ℕ} 0 1 = cc in absurd (omega arith) }
