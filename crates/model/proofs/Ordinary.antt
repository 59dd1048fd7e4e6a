-- A signal's ordinary steps: the last by a boundary, the first after one, and their seconds.
use Rattle.base_laws.proofs.Kit.{◌≡◌, refl, sym, ap, ◌∙◌, Bool, true, false, true≢false, List, ℕ, zero, suc, ◌+◌, ◌-◌, ◌≤◌, ◌<◌, le_refl, dec_le, arith}
use Rattle.text_reader.specs.Lines.{Line}
use Rattle.base_laws.specs.Sum.{sum}
use Rattle.base_laws.proofs.Sums.{sum-split}
use Rattle.model.specs.Network.{step_length, ordinary}
use Rattle.model.specs.Guarantees.{is_ordinary, NoneBetween, ordinary_length, between}

-- what is summed between two boundaries
pub sum-between : (f : ℕ → ℕ) (b c : ℕ) → b ≤ c → between b c f + sum b f ≡ sum c f
unfolding between
sum-between f b c h = let e : b + (c - b) ≡ c = omega arith in omega (arith, rw e at (sum-split b (c - b) f))

module _ (network : List Line) (r : ℕ) where
  -- an ordinary step is not one of those between
  pub not-between : {a b m : ℕ} → NoneBetween network r a b → a < m → m < b → is_ordinary network r m ≡ true → ⊥
  not-between {m = m} none u v o = true≢false (sym o ∙ none m u v)

  pub none-next : (a : ℕ) → NoneBetween network r a (suc a)
  none-next a m u v = absurd (omega arith)

  pub none-joined : {a b c : ℕ} → NoneBetween network r a (suc b) → NoneBetween network r b c → NoneBetween network r a c
  none-joined {b = b} f g m u v = elim (dec_le m b) [ yes l ↦ f m u (omega arith) | no l ↦ g m (omega arith) v ]

  -- the last ordinary step by boundary n
  pub last-ordinary : (n : ℕ) → (m : ℕ) × (m ≤ n) × (is_ordinary network r m ≡ true) × NoneBetween network r m (suc n)
  last-ordinary zero = (zero, le_refl _, unfold is_ordinary in refl, none-next zero)
  last-ordinary (suc n) = go (is_ordinary network r (suc n)) refl (last-ordinary n)
    where
      go : (b : Bool) → is_ordinary network r (suc n) ≡ b → (m : ℕ) × (m ≤ n) × (is_ordinary network r m ≡ true) × NoneBetween network r m (suc n)
          → (m : ℕ) × (m ≤ suc n) × (is_ordinary network r m ≡ true) × NoneBetween network r m (suc (suc n))
      go true e R = (suc n, le_refl _, e, none-next (suc n))
      go false e R =
          (R.0, omega (arith, R.1), R.2, none-joined R.3 (λ m u v. let i : m ≡ suc n = omega arith in ap (is_ordinary network r) i ∙ e))

  -- the first after boundary a, where one comes by boundary b: it ends at m + 1
  pub first-ordinary : (a b : ℕ) → a < b → is_ordinary network r b ≡ true
      → (m : ℕ) × (a ≤ m) × (m < b) × (is_ordinary network r (suc m) ≡ true) × NoneBetween network r a (suc m)
  first-ordinary a b h o = from (b - suc a) a (omega arith)
    where
      from : (d a : ℕ) → suc a + d ≡ b → (m : ℕ) × (a ≤ m) × (m < b) × (is_ordinary network r (suc m) ≡ true) × NoneBetween network r a (suc m)
      from zero a e = let i : b ≡ suc a = omega arith in (a, le_refl _, omega arith, rw i at o, none-next a)
      from (suc d) a e = go (is_ordinary network r (suc a)) refl (from d (suc a) (omega arith))
        where
          go : (t : Bool) → is_ordinary network r (suc a) ≡ t
              → (m : ℕ) × (suc a ≤ m) × (m < b) × (is_ordinary network r (suc m) ≡ true) × NoneBetween network r (suc a) (suc m)
              → (m : ℕ) × (a ≤ m) × (m < b) × (is_ordinary network r (suc m) ≡ true) × NoneBetween network r a (suc m)
          go true f R = (a, le_refl _, omega arith, f, none-next a)
          go false f R =
              (R.0, omega (arith, R.1), R.2, R.3, none-joined (λ m u v. let i : m ≡ suc a = omega arith in ap (is_ordinary network r) i ∙ f) R.4)

  -- the ordinary seconds up to boundary n
  abbrev pub seconds : ℕ → ℕ
  seconds n = sum n (ordinary_length network r)

  pub seconds-on : (n : ℕ) → ordinary network n r ≡ true → seconds (suc n) ≡ seconds n + step_length network n
  unfolding sum ordinary_length
  seconds-on n o = rw o refl

  pub seconds-off : (n : ℕ) → ordinary network n r ≡ false → seconds (suc n) ≡ seconds n
  unfolding sum ordinary_length
  seconds-off n o = rw o (omega arith)

  pub seconds-still : (a b : ℕ) → a ≤ b → NoneBetween network r a (suc b) → seconds b ≡ seconds a
  seconds-still a b l h = let e : a + (b - a) ≡ b = omega arith in rw e at (go (b - a) (rw e h))
    where
      go : (d : ℕ) → NoneBetween network r a (suc (a + d)) → seconds (a + d) ≡ seconds a
      go zero h = let e : a + 0 ≡ a = omega arith in rw e refl
      go (suc d) h =
          let e : a + suc d ≡ suc (a + d) = omega arith in
          rw e (seconds-off (a + d) (unfold is_ordinary in (h (suc (a + d)) (omega arith) (omega arith)))
          ∙ go d (λ m u v. h m u (omega arith)))
