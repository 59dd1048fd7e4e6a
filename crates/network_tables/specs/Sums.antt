-- Numbers added to sums of 32 bits.
use Rattle.std.specs.Prelude.{ℕ, ◌+◌, ◌≤◌, ◌<◌, ◌≡◌, List, length, get_or, Option, Some, None}

-- one of the sums is too large for 32 bits
pub record Overflow (numbers before : List ℕ) : Type 0 where
  pub at : ℕ
  pub below : at < length numbers
  pub over : 4294967296 ≤ get_or before at 0 + get_or numbers at 0

-- the numbers are added to the sums, or one of these is too large
pub record Summed (numbers before : List ℕ) (result : Option (Unit {0})) (after : List ℕ) : Type 0 where
  pub size : length after ≡ length before
  pub added : result ≡ Some tt → (k : ℕ) → k < length numbers → get_or after k 0 ≡ get_or before k 0 + get_or numbers k 0
  pub kept : (k : ℕ) → length numbers ≤ k → get_or after k 0 ≡ get_or before k 0
  pub overflows : result ≡ None → Overflow numbers before

-- what adding numbers to sums without a test requires: each sum fits 32 bits ..
pub record EachFits (numbers sums : List ℕ) : Type 0 where
  pub few : length numbers ≤ length sums
  pub fits : (k : ℕ) → k < length numbers → get_or sums k 0 + get_or numbers k 0 < 4294967296

-- .. and promises
pub record EachAdded (numbers before after : List ℕ) : Type 0 where
  pub size : length after ≡ length before
  pub added : (k : ℕ) → k < length numbers → get_or after k 0 ≡ get_or before k 0 + get_or numbers k 0
  pub kept : (k : ℕ) → length numbers ≤ k → get_or after k 0 ≡ get_or before k 0
