-- Tests of rising indices, taken one by one up to the first that fails, and equal tests.
use Rattle.base_laws.proofs.Kit.{◌≡◌, refl, sym, ◌∙◌, Bool, true, false, not, ◌&&◌, ◌⊎◌, inl, inr, ℕ, zero, suc, ◌+◌, ◌<◌, add-one, arith, not-true, not-false, le-leb, ne_eqb, leb, eqb}
use Rattle.base_laws.specs.Test.{◌and◌, ◌or◌, every}
use Rattle.base_laws.proofs.Tests.{and_left, and_right, or_cases, every-at, and_both, or_left, or_right, either_way, not-both, true-not, every_of}

-- two tests that hold together are equal
pub same_test : (a b : Bool) → (a ≡ true → b ≡ true) → (b ≡ true → a ≡ true) → a ≡ b
same_test true b f g = sym (f refl)
same_test false true f g = g refl
same_test false false f g = refl

-- ---- the turns of a loop over rising indices
module _ (test : ℕ → Bool) where
  module _ {i : ℕ} {v : Bool} (told : v ≡ test i) where
    pub test-fails : {n : ℕ} → i < n → not v ≡ true → false ≡ every n test
    test-fails {n} l f = go (either_way (every n test))
      where
        go : (every n test ≡ true) ⊎ (every n test ≡ false) → false ≡ every n test
        go (inl e) = absurd (not-both (every-at n test e i l) (sym told ∙ not-true v f))
        go (inr e) = sym e

    pub test-holds : every i test ≡ true → not v ≡ false → every (i + 1) test ≡ true
    unfolding every ◌and◌
    test-holds h f = rw (add-one, h, ← told, not-false v f)

-- ---- a test of some indices, index by index or test by test
where-holds : (a b : Bool) → not a or b ≡ true → a ≡ true → b ≡ true
where-holds a b h t = go (or_cases (not a) b h)
  where
    go : (not a ≡ true) ⊎ (b ≡ true) → b ≡ true
    go (inl e) = absurd (not-both t (not-true a e))
    go (inr e) = e

holds-where : (a b : Bool) → (a ≡ true → b ≡ true) → not a or b ≡ true
holds-where a b h = go (either_way a)
  where
    go : (a ≡ true) ⊎ (a ≡ false) → not a or b ≡ true
    go (inl e) = or_right (not a) b (h e)
    go (inr e) = or_left (not a) b (true-not a e)

-- each index that is chosen keeps a test, and another at every step; the same step by step
pub steps_apart : (m k : ℕ) (chosen kept : ℕ → Bool) (keeps : ℕ → ℕ → Bool)
    → every m (λ j. not (chosen j) or kept j) and every k (λ n. every m (λ j. not (chosen j) or keeps n j)) ≡ every m (λ j. not (chosen j) or (kept j and every k (λ n. keeps n j)))
steps_apart m k chosen kept keeps = same_test _ _ there back
  where
    there : every m (λ j. not (chosen j) or kept j) and every k (λ n. every m (λ j. not (chosen j) or keeps n j)) ≡ true → every m (λ j. not (chosen j) or (kept j and every k (λ n. keeps n j))) ≡ true
    there e =
        every_of m _
        (λ j l. holds-where (chosen j) _
        (λ c. and_both _ _ (where-holds (chosen j) (kept j) (every-at m (λ j. not (chosen j) or kept j) (and_left _ _ e) j l) c)
        (every_of k _ (λ n u. where-holds (chosen j) (keeps n j) (every-at m (λ j. not (chosen j) or keeps n j) (every-at k (λ n. every m (λ j. not (chosen j) or keeps n j)) (and_right _ _ e) n u) j l) c))))

    back : every m (λ j. not (chosen j) or (kept j and every k (λ n. keeps n j))) ≡ true → every m (λ j. not (chosen j) or kept j) and every k (λ n. every m (λ j. not (chosen j) or keeps n j)) ≡ true
    back e =
        and_both _ _ (every_of m _ (λ j l. holds-where (chosen j) (kept j) (λ c. and_left _ _ (both j l c))))
        (every_of k _ (λ n u. every_of m _ (λ j l. holds-where (chosen j) (keeps n j) (λ c. every-at k (λ n. keeps n j) (and_right _ _ (both j l c)) n u))))
      where
        both : (j : ℕ) → j < m → chosen j ≡ true → kept j and every k (λ n. keeps n j) ≡ true
        both j l c = where-holds (chosen j) _ (every-at m (λ j. not (chosen j) or (kept j and every k (λ n. keeps n j))) e j l) c

-- two tests of each index in one
pub tests-both : (n : ℕ) (f g : ℕ → Bool) → every n (λ k. f k and g k) ≡ every n f and every n g
tests-both n f g =
    same_test _ _ (λ e. and_both _ _ (every_of n f (λ k l. and_left _ _ (every-at n (λ k. f k and g k) e k l))) (every_of n g (λ k l. and_right _ _ (every-at n (λ k. f k and g k) e k l))))
    (λ e. every_of n _ (λ k l. and_both _ _ (every-at n f (and_left _ _ e) k l) (every-at n g (and_right _ _ e) k l)))

-- ---- tests put in another order
pub some_is : (n : ℕ) → not (eqb n 0) ≡ leb 1 n
some_is zero = refl
some_is (suc n) = rw (ne_eqb (suc n) 0 (λ z. omega arith)) (sym (le-leb 1 (suc n) (omega arith)))

-- two of the tests together, and the one between them behind
pub regrouped : (p a d o : Bool) → p and a and d and o ≡ p and (a and o) and d
unfolding ◌and◌
regrouped false a d o = refl
regrouped true false d o = refl
regrouped true true false false = refl
regrouped true true false true = refl
regrouped true true true false = refl
regrouped true true true true = refl

-- one excuse for two tests
pub excused : (e a b : Bool) → e or (not a and not b) ≡ (e or not a) and (e or not b)
unfolding ◌and◌ ◌or◌
excused true a b = refl
excused false a b = refl

-- the tests of the code, and those of the model
pub grouped : (a p w f s k d : Bool) → (a && p && w && f && s && k && d) ≡ a and (p and w and f and s and (k and d))
unfolding ◌and◌
grouped false p w f s k d = refl
grouped true false w f s k d = refl
grouped true true false f s k d = refl
grouped true true true false s k d = refl
grouped true true true true false k d = refl
grouped true true true true true false d = refl
grouped true true true true true true d = refl
