-- Tests either way, an index that one holds of, and sums over what one holds of.
use Rattle.base_laws.proofs.Kit.{◌≡◌, refl, Bool, true, false, ◌⊎◌, inl, inr, ℕ, zero, suc, ◌+◌, ◌<◌, eq-or-lt_of_le, arith}
use Rattle.base_laws.specs.Sum.{sum, only}
use Rattle.base_laws.proofs.Tests.{either_way}

-- an index that a test holds of, or none
abbrev pub Found : ℕ → (ℕ → Bool) → Type 0
Found n test = ((j : ℕ) × (j < n) × (test j ≡ true)) ⊎ ((k : ℕ) → k < n → test k ≡ false)

pub find : (n : ℕ) (test : ℕ → Bool) → Found n test
find zero test = inr (λ k l. absurd (omega arith))
find (suc n) test = go (find n test) (either_way (test n))
  where
    go : Found n test → (test n ≡ true) ⊎ (test n ≡ false) → Found (suc n) test
    go (inl (j, l, t)) e = inl (j, omega arith, t)
    go (inr none) (inl t) = inl (n, omega arith, t)
    go (inr none) (inr t) = inr (λ k l. last k (eq-or-lt_of_le l))
      where
        last : (k : ℕ) → (suc k ≡ suc n) ⊎ (suc k < suc n) → test k ≡ false
        last k (inl e) = let i : k ≡ n = omega arith in rw i t
        last k (inr u) = none k (omega arith)

-- ---- sums of what a test holds of
pub only_same : (t : Bool) (x y : ℕ) → (t ≡ true → x ≡ y) → only t x ≡ only t y
only_same true x y h = h refl
only_same false x y h = refl

pub sum-none : (n : ℕ) (test : ℕ → Bool) (f : ℕ → ℕ) → ((k : ℕ) → k < n → test k ≡ false) → sum n (λ k. only (test k) (f k)) ≡ 0
unfolding sum
sum-none zero test f h = refl
sum-none (suc n) test f h = rw (h n (omega arith)) (omega (arith, sum-none n test f (λ k l. h k (omega arith))))

-- it holds of one index alone
pub sum_one : (n j : ℕ) (test : ℕ → Bool) (f : ℕ → ℕ) → j < n → test j ≡ true → ((k : ℕ) → k < n → test k ≡ true → k ≡ j) → sum n (λ k. only (test k) (f k)) ≡ f j
unfolding sum
sum_one zero j test f l t one = absurd (omega arith)
sum_one (suc n) j test f l t one = go (eq-or-lt_of_le l) (λ u. sum_one n j test f u t (λ k v. one k (omega arith)))
  where
    go : (suc j ≡ suc n) ⊎ (suc j < suc n) → (j < n → sum n (λ k. only (test k) (f k)) ≡ f j) → sum n (λ k. only (test k) (f k)) + only (test n) (f n) ≡ f j
    go (inl e) ih =
        let i : j ≡ n = omega arith in
        let u : test n ≡ true = rw (← i) t in
        let z = sum-none n test f (λ k v. away k v (either_way (test k))) in
        rw (u, i) (omega (arith, z))
      where
        away : (k : ℕ) → k < n → (test k ≡ true) ⊎ (test k ≡ false) → test k ≡ false
        away k v (inl w) = absurd (omega (arith, one k (omega arith) w))
        away k v (inr w) = w
    go (inr u) ih = rest (either_way (test n))
      where
        rest : (test n ≡ true) ⊎ (test n ≡ false) → sum n (λ k. only (test k) (f k)) + only (test n) (f n) ≡ f j
        rest (inl w) = absurd (omega (arith, one n (omega arith) w))
        rest (inr w) = rw w (omega (arith, ih (omega arith)))
