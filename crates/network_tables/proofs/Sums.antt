-- The turns of the loops that add numbers to sums.
use Rattle.std.proofs.Common.{◌≡◌, ℕ, ◌+◌, ◌<◌, ◌≤◌, List, length, get_or}

-- the first n sums have their numbers, and the others are as they were
pub record SummedTo (numbers before after : List ℕ) (n : ℕ) : Type 0 where
  pub size : length after ≡ length before
  pub added : (k : ℕ) → k < n → get_or after k 0 ≡ get_or before k 0 + get_or numbers k 0
  pub rest : (k : ℕ) → n ≤ k → get_or after k 0 ≡ get_or before k 0
