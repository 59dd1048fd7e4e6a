-- The repeated cycle of one line of a sheet, through a step that holds no end of a run.
use Rattle.base_laws.proofs.Kit.{◌≡◌, refl, sym, ap, ◌∙◌, Bool, true, false, cond, ◌⊎◌, inl, inr, ◌≢◌, ℕ, zero, suc, ◌+◌, ◌%◌, ◌≤◌, ◌<◌, eq-or-lt_of_le, mod-lt, mod-eq_of_lt, mod_self, mod-add-mod, add_assoc, dec_le, arith, leb, le-leb, lt-leb}
use Rattle.base_laws.specs.Sum.{sum}
use Rattle.model_sheet.specs.Cycle.{phase_from, place_at, phase_at}

-- it is one of the phases that were asked for
pub phase-most : (value : ℕ → ℕ) (k x : ℕ) → phase_from value k x ≤ k
unfolding phase_from
phase-most value zero x = omega arith
phase-most value (suc k) x = go (leb (sum k value) x) (phase-most value k x)
  where
    go : (t : Bool) {y : ℕ} → y ≤ k → cond t (suc k) y ≤ suc k
    go true h = omega arith
    go false h = omega arith

module _ (value : ℕ → ℕ) where
  abbrev E : ℕ → ℕ
  E k = sum k value

  pub end-zero : E 0 ≡ 0
  unfolding sum
  end-zero = refl

  pub end-suc : (k : ℕ) → E (suc k) ≡ E k + value k
  unfolding sum
  end-suc k = refl

  -- the ends rise
  pub end-le : (j k : ℕ) → j ≤ k → E j ≤ E k
  end-le j zero h = let e : j ≡ 0 = omega arith in rw e (omega arith)
  end-le j (suc k) h = go (eq-or-lt_of_le h) (end-le j k)
    where
      go : (j ≡ suc k) ⊎ (j < suc k) → (j ≤ k → E j ≤ E k) → E j ≤ E (suc k)
      go (inl e) ih = rw e (omega arith)
      go (inr u) ih = omega (arith, ih (omega arith), end-suc k)

  -- the phase that has begun last is the only one whose time it is
  pub phase-is : (k p x : ℕ) → p < k → E p ≤ x → x < E (suc p) → phase_from value k x ≡ suc p
  unfolding phase_from
  phase-is zero p x h l u = absurd (omega arith)
  phase-is (suc k) p x h l u = go (eq-or-lt_of_le h) (phase-is k p x)
    where
      go : (suc p ≡ suc k) ⊎ (suc p < suc k) → (p < k → E p ≤ x → x < E (suc p) → phase_from value k x ≡ suc p)
          → cond (leb (E k) x) (suc k) (phase_from value k x) ≡ suc p
      go (inl e) ih = let j : k ≡ p = omega arith in rw (j, le-leb (E p) x l)
      go (inr w) ih = rw (lt-leb (E k) x (omega (arith, end-le (suc p) k (omega arith)))) (ih (omega arith) l u)

  pub phase-begun : (k x : ℕ) → (p : ℕ) × (phase_from value (suc k) x ≡ suc p) × (p < suc k) × (E p ≤ x) × (suc p < suc k → x < E (suc p))
  unfolding phase_from
  phase-begun zero x = (0, rw (le-leb (E 0) x (omega (arith, end-zero))), omega arith, omega (arith, end-zero), λ u. absurd (omega arith))
  phase-begun (suc j) x = go (dec_le (E (suc j)) x) (phase-begun j x)
    where
      go : Dec (E (suc j) ≤ x) → ((p : ℕ) × (phase_from value (suc j) x ≡ suc p) × (p < suc j) × (E p ≤ x) × (suc p < suc j → x < E (suc p)))
          → (p : ℕ) × (cond (leb (E (suc j)) x) (suc (suc j)) (phase_from value (suc j) x) ≡ suc p) × (p < suc (suc j)) × (E p ≤ x) × (suc p < suc (suc j) → x < E (suc p))
      go (yes h) ih = (suc j, rw (le-leb (E (suc j)) x h), omega arith, h, λ u. absurd (omega arith))
      go (no h) (p, e, l, s, u) = (p, rw (lt-leb (E (suc j)) x (omega arith)) e, omega arith, s, λ w. last (eq-or-lt_of_le l))
        where
          last : (suc p ≡ suc j) ⊎ (suc p < suc j) → x < E (suc p)
          last (inl q) = rw q (omega arith)
          last (inr q) = u q

  -- ---- a sheet whose durations are not 0, of two phases or more
  module _ (P : ℕ) (many : 2 ≤ P) (some : (k : ℕ) → k < P → 1 ≤ value k) where
    cycle-some : 0 < E P
    cycle-some = let a = end-le 1 P (omega arith) in let b : 1 ≤ value 0 = some 0 (omega arith) in omega (arith, end-suc 0)

    place-lt : (t : ℕ) → place_at value P t < E P
    unfolding place_at
    place-lt t = mod-lt (value P + t) cycle-some

    place-next : (t l : ℕ) → place_at value P (t + l) ≡ (place_at value P t + l) % E P
    unfolding place_at
    place-next t l = ap (λ x. x % E P) (sym (add_assoc (value P) t l)) ∙ sym (mod-add-mod (value P + t) (E P) l)

    -- at any time a phase shows: it has begun and is not over
    pub shows : (t : ℕ) → (p : ℕ) × (phase_at value P t ≡ suc p) × (p < P) × (E p ≤ place_at value P t) × (place_at value P t < E (suc p))
    unfolding phase_at
    shows t = go P refl
      where
        go : (k : ℕ) → P ≡ k → (p : ℕ) × (phase_from value P (place_at value P t) ≡ suc p) × (p < P) × (E p ≤ place_at value P t) × (place_at value P t < E (suc p))
        go zero e = absurd (omega arith)
        go (suc k) e = more (phase-begun k (place_at value P t))
          where
            x : ℕ
            x = place_at value P t

            more : ((p : ℕ) × (phase_from value (suc k) x ≡ suc p) × (p < suc k) × (E p ≤ x) × (suc p < suc k → x < E (suc p)))
                → (p : ℕ) × (phase_from value P x ≡ suc p) × (p < P) × (E p ≤ x) × (x < E (suc p))
            more (p, q, l, s, u) = (p, ap (λ m. phase_from value m x) e ∙ q, omega arith, s, last (eq-or-lt_of_le l))
              where
                last : (suc p ≡ suc k) ⊎ (suc p < suc k) → x < E (suc p)
                last (inl w) = let z = place-lt t in let y : P ≡ suc p = omega arith in omega (arith, ap E y)
                last (inr w) = u w

    -- the phase goes on where it is not over ..
    pub goes_on : (t l p : ℕ) → p < P → E p ≤ place_at value P t → place_at value P t + l < E (suc p)
        → (place_at value P (t + l) ≡ place_at value P t + l) × (phase_at value P (t + l) ≡ suc p)
    unfolding phase_at
    goes_on t l p h s u =
        let c = end-le (suc p) P (omega arith) in
        let e : place_at value P (t + l) ≡ place_at value P t + l = place-next t l ∙ mod-eq_of_lt (omega arith) in
        (e, ap (phase_from value P) e ∙ phase-is P p (place_at value P t + l) h (omega arith) u)

    -- .. and where it is just over, another begins
    pub changes : (t l p : ℕ) → p < P → place_at value P t + l ≡ E (suc p)
        → (s : ℕ) × (s < P) × (s ≢ p) × (phase_at value P (t + l) ≡ suc s) × (place_at value P (t + l) ≡ E s) × (((suc p ≡ P) × (s ≡ 0)) ⊎ ((suc p < P) × (s ≡ suc p)))
    unfolding phase_at
    changes t l p h e = go (eq-or-lt_of_le h)
      where
        next : place_at value P (t + l) ≡ E (suc p) % E P
        next = place-next t l ∙ ap (λ x. x % E P) e

        go : (suc p ≡ P) ⊎ (suc p < P) → (s : ℕ) × (s < P) × (s ≢ p) × (phase_from value P (place_at value P (t + l)) ≡ suc s) × (place_at value P (t + l) ≡ E s) × (((suc p ≡ P) × (s ≡ 0)) ⊎ ((suc p < P) × (s ≡ suc p)))
        go (inl w) =
            let z : place_at value P (t + l) ≡ 0 = next ∙ ap (λ k. E k % E P) w ∙ mod_self (E P) in
            let a : 1 ≤ value 0 = some 0 (omega arith) in
            (0, omega arith, λ q. omega arith, ap (phase_from value P) z ∙ phase-is P 0 0 (omega arith) (omega (arith, end-zero)) (omega (arith, end-suc 0)), z ∙ sym end-zero, inl (w, refl))
        go (inr w) =
            let a : 1 ≤ value (suc p) = some (suc p) w in
            let c = end-le (suc (suc p)) P w in
            let b = end-suc (suc p) in
            let z : place_at value P (t + l) ≡ E (suc p) = next ∙ mod-eq_of_lt (omega arith) in
            (suc p, w, λ q. omega arith, ap (phase_from value P) z ∙ phase-is P (suc p) (E (suc p)) w (omega arith) (omega arith), z, inr (w, refl))
