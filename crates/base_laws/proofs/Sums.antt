-- Laws of sums, and of lists by index.
use mathlib.Core.Path.{◌≡◌, refl, sym, ap, ap₂, ◌∙◌}
use mathlib.Core.Bool.{Bool, true, false}
use mathlib.Core.Logic.{◌⊎◌, inl, inr}
use mathlib.Core.List.{List, [], ◌∷◌, ◌++◌, append-nil, append_assoc}
use Prim.Native.Nat.{ℕ, zero, suc, ◌+◌, ◌*◌, ◌-◌, ◌≤◌, ◌<◌}
use native.Mathlib.Nat.{eq-or-lt_of_le}
use native.Mathlib.Omega.{arith}
use lib.Dec.{eqb}
use lib.ListN.{length, get_or}
use borrow.Author.Tests.{eq-eqb, ne_eqb}
use Rattle.base_laws.specs.Sum.{sum, only, joined}
use Rattle.base_laws.proofs.Laws.{length-list, get-list}
use Rattle.base_laws.specs.Indexed.{list}

pub sum-ext : (n : ℕ) (f g : ℕ → ℕ) → ((i : ℕ) → i < n → f i ≡ g i) → sum n f ≡ sum n g
unfolding sum
sum-ext zero f g h = refl
sum-ext (suc n) f g h = ap₂ (λ a b. a + b) (sum-ext n f g (λ i l. h i (omega arith))) (h n (omega arith))

pub sum-le : (n : ℕ) (f g : ℕ → ℕ) → ((i : ℕ) → i < n → f i ≤ g i) → sum n f ≤ sum n g
unfolding sum
sum-le zero f g h = omega arith
sum-le (suc n) f g h = omega (arith, sum-le n f g (λ i l. h i (omega arith)), h n (omega arith))

-- where no part is greater and one is less, the sum is less
pub sum_less : (n : ℕ) (f g : ℕ → ℕ) → ((i : ℕ) → i < n → f i ≤ g i) → (k : ℕ) → k < n → f k < g k → sum n f < sum n g
unfolding sum
sum_less zero f g h k l u = absurd (omega arith)
sum_less (suc n) f g h k l u = go (eq-or-lt_of_le l) (sum_less n f g (λ i v. h i (omega arith)) k)
  where
    go : (suc k ≡ suc n) ⊎ (suc k < suc n) → (k < n → f k < g k → sum n f < sum n g) → sum n f + f n < sum n g + g n
    go (inl e) ih = let i : n ≡ k = omega arith in rw i (omega (arith, sum-le k f g (λ j v. h j (omega arith))))
    go (inr v) ih = omega (arith, ih (omega arith) u, h n (omega arith))

-- each part of a sum is at most c
pub sum_bound : (n c : ℕ) (f : ℕ → ℕ) → ((i : ℕ) → i < n → f i ≤ c) → sum n f ≤ n * c
unfolding sum
sum_bound zero c f h = omega arith
sum_bound (suc n) c f h = omega (arith, sum_bound n c f (λ i l. h i (omega arith)), h n (omega arith))

pub sum-zero : (n : ℕ) → sum n (λ k. 0) ≡ 0
unfolding sum
sum-zero zero = refl
sum-zero (suc n) = omega (arith, sum-zero n)

pub sum-add : (n : ℕ) (f g : ℕ → ℕ) → sum n (λ k. f k + g k) ≡ sum n f + sum n g
unfolding sum
sum-add zero f g = refl
sum-add (suc n) f g = omega (arith, sum-add n f g)

-- where each value grows by two parts, the sum grows by theirs
pub sum-grows : (n : ℕ) (next now a b : ℕ → ℕ) {all : ℕ} → ((i : ℕ) → i < n → next i ≡ now i + (a i + b i)) → sum n b ≡ all → sum n next ≡ sum n now + (sum n a + all)
sum-grows n next now a b h e = omega (arith, sum-ext n next (λ i. now i + (a i + b i)) h, sum-add n now (λ i. a i + b i), sum-add n a b)

-- a sum of differences
pub sum-sub : (n : ℕ) (f g : ℕ → ℕ) → ((i : ℕ) → i < n → g i ≤ f i) → sum n (λ k. f k - g k) + sum n g ≡ sum n f
unfolding sum
sum-sub zero f g h = refl
sum-sub (suc n) f g h = omega (arith, sum-sub n f g (λ i l. h i (omega arith)), h n (omega arith))

pub sum-swap : (n m : ℕ) (f : ℕ → ℕ → ℕ) → sum n (λ i. sum m (λ j. f i j)) ≡ sum m (λ j. sum n (λ i. f i j))
unfolding sum
sum-swap zero m f = sym (sum-zero m)
sum-swap (suc n) m f = ap (λ x. x + sum m (λ j. f n j)) (sum-swap n m f) ∙ sym (sum-add m (λ j. sum n (λ i. f i j)) (λ j. f n j))

-- more of what is summed
pub sum_more : (f : ℕ → ℕ) (m n : ℕ) → m ≤ n → sum m f ≤ sum n f
unfolding sum
sum_more f m zero h = let e : m ≡ 0 = omega arith in rw e (omega arith)
sum_more f m (suc n) h = go (eq-or-lt_of_le h) (sum_more f m n)
  where
    go : (m ≡ suc n) ⊎ (m < suc n) → (m ≤ n → sum m f ≤ sum n f) → sum m f ≤ sum (suc n) f
    go (inl e) ih = rw e (omega arith)
    go (inr l) ih = omega (arith, ih (omega arith))

-- the first b, and n more
pub sum-split : (b n : ℕ) (f : ℕ → ℕ) → sum (b + n) f ≡ sum b f + sum n (λ k. f (b + k))
unfolding sum
sum-split b zero f = let e : b + 0 ≡ b = omega arith in rw e (omega arith)
sum-split b (suc n) f = let e : b + suc n ≡ suc (b + n) = omega arith in rw e (omega (arith, sum-split b n f))

-- past the place, nothing
sum_past : (n t x : ℕ) → n < t → sum n (λ i. only (eqb t (suc i)) x) ≡ 0
unfolding sum
sum_past zero t x h = refl
sum_past (suc n) t x h = omega (arith, sum_past n t x (omega arith), ap (λ b. only b x) (ne_eqb t (suc n) (λ e. omega arith)))

-- the one place at which the test holds
pub sum-place : (n t x : ℕ) → 1 ≤ t → t ≤ n → sum n (λ i. only (eqb t (suc i)) x) ≡ x
unfolding sum
sum-place zero t x h l = absurd (omega arith)
sum-place (suc n) t x h l = go (eq-or-lt_of_le l) (sum-place n t x h)
  where
    go : (t ≡ suc n) ⊎ (t < suc n) → (t ≤ n → sum n (λ i. only (eqb t (suc i)) x) ≡ x) → sum n (λ i. only (eqb t (suc i)) x) + only (eqb t (suc n)) x ≡ x
    go (inl e) ih = omega (arith, sum_past n t x (omega arith), ap (λ b. only b x) (eq-eqb t (suc n) e))
    go (inr u) ih = omega (arith, ih (omega arith), ap (λ b. only b x) (ne_eqb t (suc n) (λ e. omega arith)))

-- a constant added to each weight
pub sum-weight : (n c : ℕ) (f w : ℕ → ℕ) → sum n (λ k. f k * (w k + c)) ≡ sum n (λ k. f k * w k) + c * sum n f
unfolding sum
sum-weight zero c f w = omega arith
sum-weight (suc n) c f w = omega (arith, sum-weight n c f w)

pub list_length : (n : ℕ) (f : ℕ → ℕ) → length (list n f) ≡ n
list_length n f = length-list f n

-- what stands at index k
pub list_at : (n : ℕ) (f : ℕ → ℕ) (k : ℕ) → k < n → get_or (list n f) k 0 ≡ f k
list_at n f k l = get-list f 0 n k l

pub list_same : (n : ℕ) (f g : ℕ → ℕ) → ((k : ℕ) → k < n → f k ≡ g k) → list n f ≡ list n g
unfolding list
list_same zero f g h = refl
list_same (suc n) f g h = ap₂ (λ xs x. xs ++ (x ∷ [])) (list_same n f g (λ k l. h k (omega arith))) (h n (omega arith))

pub list-plus : (a b : ℕ) (f : ℕ → ℕ) → list (a + b) f ≡ list a f ++ list b (λ k. f (a + k))
unfolding list
list-plus a zero f = let z : a + 0 ≡ a = omega arith in rw z (sym (append-nil (list a f)))
list-plus a (suc b) f =
    let z : a + suc b ≡ suc (a + b) = omega arith in
    rw z (ap (λ (x : List ℕ). x ++ (f (a + b) ∷ [])) (list-plus a b f) ∙ append_assoc (list a f) (list b (λ k. f (a + k))) (f (a + b) ∷ []))

pub joined_same : (n : ℕ) (f g : ℕ → List ℕ) → ((k : ℕ) → k < n → f k ≡ g k) → joined n f ≡ joined n g
unfolding joined
joined_same zero f g h = refl
joined_same (suc n) f g h = ap₂ (λ xs ys. xs ++ ys) (joined_same n f g (λ k l. h k (omega arith))) (h n (omega arith))

-- ---- how many of the tests 0 to k - 1 hold, where each that holds has all before it hold
module _ (test : ℕ → Bool) (earlier : (m k : ℕ) → m ≤ k → test k ≡ true → test m ≡ true) where
  count-all : (k : ℕ) → ((m : ℕ) → m < k → test m ≡ true) → sum k (λ m. only (test m) 1) ≡ k
  unfolding sum
  count-all zero h = refl
  count-all (suc k) h = omega (arith, count-all k (λ m l. h m (omega arith)), ap (λ b. only b 1) (h k (omega arith)))

  -- test m is one of them
  pub count-holds : (k m : ℕ) → m < k → test m ≡ true → m < sum k (λ m. only (test m) 1)
  unfolding sum
  count-holds zero m l h = absurd (omega arith)
  count-holds (suc k) m l h = go (eq-or-lt_of_le l) (count-holds k m)
    where
      go : (suc m ≡ suc k) ⊎ (suc m < suc k) → (m < k → test m ≡ true → m < sum k (λ m. only (test m) 1)) → m < sum k (λ m. only (test m) 1) + only (test k) 1
      go (inl e) ih =
          let i : m ≡ k = omega arith in
          omega (arith, count-all k (λ j u. earlier j m (omega arith) h), ap (λ b. only b 1) (rw i at h))
      go (inr u) ih = omega (arith, ih (omega arith) h)

  pub holds-count : (k m : ℕ) → m < sum k (λ m. only (test m) 1) → (m < k) × (test m ≡ true)
  unfolding sum
  holds-count zero m l = absurd (omega arith)
  holds-count (suc k) m l = go (test k) refl (holds-count k m)
    where
      go : (b : Bool) → test k ≡ b → (m < sum k (λ m. only (test m) 1) → (m < k) × (test m ≡ true)) → (m < suc k) × (test m ≡ true)
      go true e ih = let u : m < suc k = omega (arith, count-all k (λ j u. earlier j k (omega arith) e), ap (λ b. only b 1) e) in (u, earlier m k (omega arith) e)
      go false e ih = let r = ih (omega (arith, ap (λ b. only b 1) e)) in (omega (arith, r.0), r.1)
