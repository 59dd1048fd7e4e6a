-- Between a green of a phase and its next green every other phase has exactly one green.
use Rattle.base_laws.proofs.Kit.{◌≡◌, refl, sym, ◌∙◌, true, ◌⊎◌, inl, inr, ⊎_elim, ◌≢◌, List, [], ◌∷◌, ◌++◌, List-as-Memᴰ, Memᴰ·append-left, Memᴰ·append-right, List·Memᴰ·append-cases}
use Rattle.base_laws.proofs.Kit.{List·Memᴰ·cases-cons, List·Memᴰ·not-nil, List·Memᴰ·head, List·Memᴰ·tail, ℕ, zero, suc, ◌+◌, ◌-◌, ◌≤◌, ◌<◌, eq-or-lt_of_le, le_refl, dec_le, arith}
use Rattle.text_reader.specs.Lines.{Line}
use Rattle.model.specs.Network.{signal_count, signal}
use Rattle.model.specs.Guarantees.{is_ordinary, NoneBetween, Green, Greens, done, more, Red, rising, others}
use Rattle.model.proofs.Accepted.{AcceptedPlan}
use Rattle.model.proofs.Ordinary.{not-between, last-ordinary, first-ordinary}
use Rattle.model.proofs.Red.{green-phase, greens-rise, red-greens}

-- no number stands twice in the list
abbrev Distinct : List ℕ → Type 0
Distinct [] = Unit {0}
Distinct (q ∷ qs) = (List-as-Memᴰ q qs → ⊥) × Distinct qs

rising-has : (n x : ℕ) {y : ℕ} → List-as-Memᴰ y (rising x n) → (x ≤ y) × (y < x + n)
unfolding rising
rising-has zero x m = absurd (List·Memᴰ·not-nil m)
rising-has (suc n) x {y} m = go (List·Memᴰ·cases-cons m) (rising-has n (suc x) {y = y})
  where
    go : (y ≡ x) ⊎ List-as-Memᴰ y (rising (suc x) n) → (List-as-Memᴰ y (rising (suc x) n) → (suc x ≤ y) × (y < suc x + n)) → (x ≤ y) × (y < x + suc n)
    go (inl e) ih = omega arith
    go (inr i) ih = let R = ih i in omega arith

has-rising : (n x y : ℕ) → x ≤ y → y < x + n → List-as-Memᴰ y (rising x n)
unfolding rising
has-rising zero x y h l = absurd (omega arith)
has-rising (suc n) x y h l = go (eq-or-lt_of_le h) (λ u. has-rising n (suc x) y u (omega arith))
  where
    go : (x ≡ y) ⊎ (x < y) → (x < y → List-as-Memᴰ y (rising (suc x) n)) → List-as-Memᴰ y (x ∷ rising (suc x) n)
    go (inl e) ih = List·Memᴰ·head (sym e)
    go (inr u) ih = List·Memᴰ·tail (ih u)

rising-distinct : (n x : ℕ) → Distinct (rising x n)
unfolding rising
rising-distinct zero x = tt
rising-distinct (suc n) x = ((λ m. let R = rising-has n (suc x) m in omega arith), rising-distinct n (suc x))

append-distinct : (s t : List ℕ) → Distinct s → Distinct t → ((y : ℕ) → List-as-Memᴰ y s → List-as-Memᴰ y t → ⊥) → Distinct (s ++ t)
append-distinct [] t a b d = b
append-distinct (x ∷ s) t a b d = (
  (λ m. ⊎_elim (λ i. a.0 i) (λ i. d x (List·Memᴰ·head refl) i) (List·Memᴰ·append-cases s m)),
  append-distinct s t a.1 b (λ y i j. d y (List·Memᴰ·tail i) j),
)

-- the others are all the phases but q, each once
others-distinct : (P q : ℕ) → Distinct (others P q)
unfolding others
others-distinct P q =
    append-distinct (rising (suc q) (P - q)) (rising 1 (q - 1)) (rising-distinct (P - q) (suc q)) (rising-distinct (q - 1) 1)
    (λ y i j. let R = rising-has (P - q) (suc q) i in let S = rising-has (q - 1) 1 j in omega arith)

others-all : (P q other : ℕ) → 1 ≤ other → other ≤ P → other ≢ q → List-as-Memᴰ other (others P q)
unfolding others
others-all P q other h l d = elim (dec_le q other) [
  | yes u ↦ Memᴰ·append-left (rising 1 (q - 1)) (has-rising (P - q) (suc q) other (omega arith) (omega arith))
  | no u ↦ Memᴰ·append-right (rising (suc q) (P - q)) (has-rising (q - 1) 1 other h (omega arith))
]

module _ (network plan : List Line) (r : ℕ) where
  -- two greens of one phase that share a step are one
  starts-same : {q a b a' b' : ℕ} (n : ℕ) → Green network plan r q a b → Green network plan r q a' b' → a ≤ n → n ≤ b → a' ≤ n → n ≤ b' → a ≤ a'
  starts-same {a = zero} n g g' h i j l = omega arith
  starts-same {a = suc a} {a' = a'} n g g' h i j l = elim (dec_le (suc a) a') [
    | yes u ↦ u
    | no u ↦ go u (last-ordinary network r a)
  ]
    where
      go : ¬ (suc a ≤ a') → (m : ℕ) × (m ≤ a) × (is_ordinary network r m ≡ true) × NoneBetween network r m (suc a) → suc a ≤ a'
      go u (m, v, o, none) = elim (dec_le a' m) [
        | yes w ↦ absurd (g.starts m (omega arith) o none (g'.shows m w (omega arith) o))
        | no w ↦ absurd (not-between network r none (omega arith) (omega arith) g'.first-ordinary)
      ]

  ends_same : {q a b a' b' : ℕ} (n : ℕ) → Green network plan r q a b → Green network plan r q a' b' → a ≤ n → n ≤ b → a' ≤ n → n ≤ b' → b' ≤ b
  ends_same {b = b} {b' = b'} n g g' h i j l = elim (dec_le b' b) [
    | yes u ↦ u
    | no u ↦ go (first-ordinary network r b b' (omega arith) g'.last-ordinary)
  ]
    where
      go : (m : ℕ) × (b ≤ m) × (m < b') × (is_ordinary network r (suc m) ≡ true) × NoneBetween network r b (suc m) → b' ≤ b
      go (m, u, v, o, none) = absurd (g.ends (suc m) (omega arith) (omega (arith, g'.in-plan)) o none (g'.shows (suc m) (omega arith) (omega arith) o))

  same-green : {q a b a' b' : ℕ} (n : ℕ) → Green network plan r q a b → Green network plan r q a' b' → a ≤ n → n ≤ b → a' ≤ n → n ≤ b' → (a' ≡ a) × (b' ≡ b)
  same-green n g g' h i j l = (
    omega (arith, starts-same n g g' h i j l, starts-same n g' g j l h i),
    omega (arith, ends_same n g g' h i j l, ends_same n g' g j l h i),
  )

  -- a phase of the list has a green
  has : {b c q : ℕ} {qs : List ℕ} → Greens network plan r b c qs → List-as-Memᴰ q qs → (x : ℕ) × (y : ℕ) × Green network plan r q x y × (b < x) × (y ≤ c)
  has (done l none) m = absurd (List·Memᴰ·not-nil m)
  has {b = b} {c = c} {q = q} (more {a = a} {e = e} {q = q₀} {qs = qs} l none g gs) m = go (List·Memᴰ·cases-cons m) (has gs)
    where
      go : (q ≡ q₀) ⊎ List-as-Memᴰ q qs → (List-as-Memᴰ q qs → (x : ℕ) × (y : ℕ) × Green network plan r q x y × (e < x) × (y ≤ c))
          → (x : ℕ) × (y : ℕ) × Green network plan r q x y × (b < x) × (y ≤ c)
      go (inl i) ih = (a, e, rw i g, l, greens-rise network plan r gs)
      go (inr i) ih = let R = ih i in (R.0, R.1, R.2, omega (arith, R.3, g.some-step), R.4)

  -- two greens of two phases that share a step are of one
  one-phase : {q q' a b a' b' : ℕ} (n : ℕ) → Green network plan r q a b → Green network plan r q' a' b' → a ≤ n → n ≤ b → a' ≤ n → n ≤ b' → q ≡ q'
  one-phase n g g' h i j l = sym (green-phase network plan r g n h i) ∙ green-phase network plan r g' n j l

  -- an ordinary step after b is at or after the first
  reached : {b a x : ℕ} → NoneBetween network r b a → b < x → is_ordinary network r x ≡ true → a ≤ x
  reached {a = a} {x = x} none h o = elim (dec_le a x) [ yes u ↦ u | no u ↦ absurd (not-between network r none h (omega arith) o) ]

  -- a green inside is of a phase of the list
  listed : {b c q x y : ℕ} {qs : List ℕ} → Greens network plan r b c qs → Green network plan r q x y → b < x → y ≤ c → List-as-Memᴰ q qs
  listed (done l none) g h i = absurd (not-between network r none h (omega (arith, g.some-step)) g.first-ordinary)
  listed {q = q} {x = x} (more {a = a} {e = e} {q = q₀} {qs = qs} l none g gs) g' h i = go (dec_le x e) (λ u. listed gs g' u i)
    where
      go : Dec (x ≤ e) → (e < x → List-as-Memᴰ q qs) → List-as-Memᴰ q (q₀ ∷ qs)
      go (yes u) ih = List·Memᴰ·head (one-phase x g' g (le_refl _) g'.some-step (reached none h g'.first-ordinary) u)
      go (no u) ih = List·Memᴰ·tail (ih (omega arith))

  -- two greens of one phase inside are one
  one : {b c q : ℕ} {qs : List ℕ} → Greens network plan r b c qs → Distinct qs → (x y x' y' : ℕ)
      → Green network plan r q x y → b < x → y ≤ c → Green network plan r q x' y' → b < x' → y' ≤ c → (x' ≡ x) × (y' ≡ y)
  one (done l none) d x y x' y' g h i g' h' i' = absurd (not-between network r none h (omega (arith, g.some-step)) g.first-ordinary)
  one {b = b} {c = c} {q = q} (more {a = a} {e = e} {q = q₀} {qs = qs} l none t ts) d x y x' y' g h i g' h' i' =
      go (dec_le x e) (dec_le x' e) (λ u u'. one ts d.1 x y x' y' g u i g' u' i')
    where
      is : (x y : ℕ) → Green network plan r q x y → b < x → x ≤ e → q ≡ q₀
      is x y g h u = one-phase x g t (le_refl _) g.some-step (reached none h g.first-ordinary) u

      tile : (x y : ℕ) (g : Green network plan r q x y) (h : b < x) → x ≤ e → (x ≡ a) × (y ≡ e)
      tile x y g h u = same-green x t (rw (is x y g h u) at g) (reached none h g.first-ordinary) u (le_refl _) g.some-step

      go : Dec (x ≤ e) → Dec (x' ≤ e) → (e < x → e < x' → (x' ≡ x) × (y' ≡ y)) → (x' ≡ x) × (y' ≡ y)
      go (yes u) (yes u') ih = let A = tile x y g h u in let B = tile x' y' g' h' u' in omega arith
      go (yes u) (no u') ih = absurd (d.0 (rw (is x y g h u) at (listed ts g' (omega arith) i')))
      go (no u) (yes u') ih = absurd (d.0 (rw (is x' y' g' h' u') at (listed ts g (omega arith) i)))
      go (no u) (no u') ih = ih (omega arith) (omega arith)

  pub exactly-once : AcceptedPlan network plan → r < signal_count network → {q b c : ℕ} → Red network plan r q b c
      → (other : ℕ) → 1 ≤ other → other ≤ (signal network r).phases → other ≢ q
      → (x : ℕ) × (y : ℕ) × Green network plan r other x y × (b < x) × (y ≤ c)
      × ((x' y' : ℕ) → Green network plan r other x' y' → b < x' → y' ≤ c → (x' ≡ x) × (y' ≡ y))
  exactly-once accepted lr {q = q} red other h l d =
      let all = red-greens network plan r accepted lr red in
      let R = has all (others-all (signal network r).phases q other h l d) in
      (R.0, R.1, R.2, R.3, R.4, λ x' y' g i j. one all (others-distinct (signal network r).phases q) R.0 R.1 x' y' R.2 R.3 R.4 g i j)
