-- A sum from its start, by one term more.
use Rattle.base_laws.proofs.Kit.{◌≡◌, refl, ℕ, ◌+◌, add-one}
use Rattle.base_laws.specs.Sum.{sum}

pub sum-none : (f : ℕ → ℕ) → sum 0 f ≡ 0
unfolding sum
sum-none f = refl

-- one term more
pub sum-next : (n : ℕ) (f : ℕ → ℕ) → sum (n + 1) f ≡ sum n f + f n
unfolding sum
sum-next n f = rw add-one refl
