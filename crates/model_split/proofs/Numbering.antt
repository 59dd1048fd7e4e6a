-- Laws of numbering anew.
use Rattle.base_laws.proofs.Kit.{◌≡◌, refl, sym, ap, ◌∙◌, Bool, true, false, cond, ◌⊎◌, inl, inr, [], ◌∷◌, ◌++◌, ℕ, zero, suc, ◌+◌, ◌-◌, ◌≤◌, ◌<◌, eq-or-lt_of_le, dec_le, arith, eqb, length, get_or, length-append, List·getD-append, get_or-append_seam, eq-eqb, ne_eqb, eqb-true, eqb-false}
use Rattle.base_laws.specs.Sum.{sum, only}
use Rattle.model_split.specs.Numbering.{rank, picked}
use Rattle.base_laws.proofs.Tests.{either_way}

module _ (test : ℕ → Bool) where
  pub rank-more : (n : ℕ) → test n ≡ true → rank test (suc n) ≡ suc (rank test n)
  unfolding rank
  rank-more n e = rw e (omega arith)

  pub rank_same : (n : ℕ) → test n ≡ false → rank test (suc n) ≡ rank test n
  unfolding rank
  rank_same n e = rw e (omega arith)

  pub rank_rises : (m n : ℕ) → m ≤ n → rank test m ≤ rank test n
  rank_rises m zero h = let e : m ≡ 0 = omega arith in rw e (omega arith)
  rank_rises m (suc n) h = go (eq-or-lt_of_le h) (either_way (test n)) (rank_rises m n)
    where
      go : (m ≡ suc n) ⊎ (m < suc n) → (test n ≡ true) ⊎ (test n ≡ false) → (m ≤ n → rank test m ≤ rank test n) → rank test m ≤ rank test (suc n)
      go (inl e) t ih = rw e (omega arith)
      go (inr l) (inl t) ih = omega (arith, rank-more n t, ih (omega arith))
      go (inr l) (inr t) ih = omega (arith, rank_same n t, ih (omega arith))

  -- what the test holds of keeps its order
  pub rank_lt : (i n : ℕ) → test i ≡ true → i < n → rank test i < rank test n
  rank_lt i n t h = omega (arith, rank-more i t, rank_rises (suc i) n h)

  pub rank-le : (n : ℕ) → rank test n ≤ n
  rank-le zero = unfold rank in omega arith
  rank-le (suc n) = go (either_way (test n)) (rank-le n)
    where
      go : (test n ≡ true) ⊎ (test n ≡ false) → rank test n ≤ n → rank test (suc n) ≤ suc n
      go (inl t) ih = omega (arith, rank-more n t)
      go (inr t) ih = omega (arith, rank_same n t)

  pub rank-injective : (i k : ℕ) → test i ≡ true → test k ≡ true → rank test i ≡ rank test k → i ≡ k
  rank-injective i k s t e = elim (dec_le (suc i) k) [
    | yes h ↦ absurd (omega (arith, rank_lt i k s h))
    | no h ↦ elim (dec_le (suc k) i) [
      | yes u ↦ absurd (omega (arith, rank_lt k i t u))
      | no u ↦ omega arith
    ]
  ]

  -- a number from 1, and its new number
  pub renumbered : (t i : ℕ) → 1 ≤ t → test (t - 1) ≡ true → test i ≡ true → eqb (suc (rank test (t - 1))) (suc (rank test i)) ≡ eqb t (suc i)
  renumbered t i o s u = go (either_way (eqb t (suc i)))
    where
      go : (eqb t (suc i) ≡ true) ⊎ (eqb t (suc i) ≡ false) → eqb (suc (rank test (t - 1))) (suc (rank test i)) ≡ eqb t (suc i)
      go (inl e) =
          let k = eqb-true t (suc i) e in
          let w : t - 1 ≡ i = omega arith in
          eq-eqb _ _ (ap (λ x. suc (rank test x)) w) ∙ sym e
      go (inr e) =
          ne_eqb (suc (rank test (t - 1))) (suc (rank test i)) (λ w. eqb-false t (suc i) e (let x : rank test (t - 1) ≡ rank test i = omega arith in let y = rank-injective (t - 1) i s u x in omega arith)) ∙ sym e

  -- every new number is that of one that the test holds of
  pub ranked : (n k : ℕ) → k < rank test n → (i : ℕ) × (i < n) × (test i ≡ true) × (rank test i ≡ k)
  ranked zero k h = let e : rank test 0 ≡ 0 = unfold rank in refl in absurd (omega arith)
  ranked (suc n) k h = go (either_way (test n)) (ranked n k)
    where
      up : (i : ℕ) × (i < n) × (test i ≡ true) × (rank test i ≡ k) → (i : ℕ) × (i < suc n) × (test i ≡ true) × (rank test i ≡ k)
      up (i, l, t, e) = (i, omega arith, t, e)

      go : (test n ≡ true) ⊎ (test n ≡ false) → (k < rank test n → (i : ℕ) × (i < n) × (test i ≡ true) × (rank test i ≡ k))
          → (i : ℕ) × (i < suc n) × (test i ≡ true) × (rank test i ≡ k)
      go (inl t) ih = elim (dec_le (suc k) (rank test n)) [
        | yes u ↦ up (ih u)
        | no u ↦ (n, omega arith, t, omega (arith, rank-more n t))
      ]
      go (inr t) ih = up (ih (omega (arith, rank_same n t)))

  -- a sum over the new numbers is a sum over the old ones that the test holds of
  pub sum-ranked : (n : ℕ) (f : ℕ → ℕ) → sum (rank test n) f ≡ sum n (λ i. only (test i) (f (rank test i)))
  unfolding sum
  sum-ranked zero f = unfold rank in refl
  sum-ranked (suc n) f = go (either_way (test n)) (sum-ranked n f)
    where
      go : (test n ≡ true) ⊎ (test n ≡ false) → sum (rank test n) f ≡ sum n (λ i. only (test i) (f (rank test i)))
          → sum (rank test (suc n)) f ≡ sum n (λ i. only (test i) (f (rank test i))) + only (test n) (f (rank test n))
      go (inl t) ih = rw (rank-more n t, t) (omega (arith, ih))
      go (inr t) ih = rw (rank_same n t, t) (omega (arith, ih))

  module _ {A : Type 0} (f : ℕ → A) where
    pub picked-length : (n : ℕ) → length (picked n test f) ≡ rank test n
    unfolding picked
    picked-length zero = unfold rank in refl
    picked-length (suc n) = go (either_way (test n)) (picked-length n)
      where
        go : (test n ≡ true) ⊎ (test n ≡ false) → length (picked n test f) ≡ rank test n → length (picked n test f ++ cond (test n) (f n ∷ []) []) ≡ rank test (suc n)
        go (inl t) ih = rw t (length-append (picked n test f) (f n ∷ []) ∙ omega (arith, rank-more n t))
        go (inr t) ih = rw t (length-append (picked n test f) [] ∙ omega (arith, rank_same n t))

    pub picked-at : (n i : ℕ) (d : A) → i < n → test i ≡ true → get_or (picked n test f) (rank test i) d ≡ f i
    unfolding picked
    picked-at zero i d h t = absurd (omega arith)
    picked-at (suc n) i d h t = go (eq-or-lt_of_le h) (λ l. picked-at n i d l t)
      where
        go : (suc i ≡ suc n) ⊎ (suc i < suc n) → (i < n → get_or (picked n test f) (rank test i) d ≡ f i)
            → get_or (picked n test f ++ cond (test n) (f n ∷ []) []) (rank test i) d ≡ f i
        go (inl e) ih =
            let j : i ≡ n = omega arith in
            let u : test n ≡ true = rw j at t in
            rw (j, u, ← picked-length n) (get_or-append_seam (picked n test f) (f n) [] d)
        go (inr u) ih =
            List·getD-append (picked n test f) (cond (test n) (f n ∷ []) []) d (rank test i) (omega (arith, picked-length n, rank_lt i n t (omega arith))) ∙ ih (omega arith)

  -- what holds of each that the test holds of, by its new number, holds of every new number
  pub ranked-all : (n count : ℕ) (Q : ℕ → Type 0) → count ≡ rank test n → ((i : ℕ) → i < n → test i ≡ true → Q (rank test i)) → (k : ℕ) → k < count → Q k
  ranked-all n count Q e all k l = go (ranked n k (omega arith))
    where
      go : (i : ℕ) × (i < n) × (test i ≡ true) × (rank test i ≡ k) → Q k
      go (i, u, t, w) = rw (← w) (all i u t)
