-- The front of a table, which is lent without what stands behind it.
use Rattle.base_laws.proofs.Kit.{ℕ, ◌-◌, ◌≡◌, ap, List, arith, take}
use Rattle.std.specs.List.{slice_range}

-- its part from the first item on
pub front : {X : Type 0} (xs : List X) (n : ℕ) → take n xs ≡ slice_range xs 0 n
front xs n = let z : n ≡ n - 0 = omega arith in ap (λ k. take k xs) z
