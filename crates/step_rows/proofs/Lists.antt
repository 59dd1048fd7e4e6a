-- Rows as lists of pairs.
use Rattle.base_laws.proofs.Kit.{◌≡◌, refl, ap, sym, ◌∙◌, ◌⊎◌, inl, inr, ⊎_elim, List, [], ◌∷◌, ◌++◌, append_assoc, ℕ, zero, suc, ◌+◌, ◌*◌, ◌-◌, ◌/◌, ◌≤◌, ◌<◌, mul-suc, eq-or-lt_of_le}
use Rattle.base_laws.proofs.Kit.{le_of_suc-le-suc, add-one, dec_le, arith, length, get_or, drop, set, length-append, length-drop, List·getD-append, append_snoc, drop-cons, set_at, get_or-append-add, get_or_at, get_or-drop, ext_get_or}
use Rattle.step_rows.specs.Rows.{pairs}

pub length_pairs : (e l : ℕ → ℕ) (n : ℕ) → length (pairs e l n) ≡ 2 * n
unfolding pairs
length_pairs e l zero = refl
length_pairs e l (suc n) = length-append (pairs e l n) (e n ∷ l n ∷ []) ∙ ap (λ k. k + 2) (length_pairs e l n) ∙ sym (mul-suc 2 n)

pub pairs-ext : (e l e' l' : ℕ → ℕ) (n : ℕ) → ((i : ℕ) → i < n → e i ≡ e' i) → ((i : ℕ) → i < n → l i ≡ l' i) → pairs e l n ≡ pairs e' l' n
unfolding pairs
pairs-ext e l e' l' zero a b = refl
pairs-ext e l e' l' (suc n) a b = rw (pairs-ext e l e' l' n (λ i h. a i (omega arith)) (λ i h. b i (omega arith)), a n (omega arith), b n (omega arith))

pub pairs-entered : (e l : ℕ → ℕ) (n i : ℕ) → i < n → get_or (pairs e l n) (2 * i) 0 ≡ e i
unfolding pairs
pairs-entered e l zero i h = elim h [ ]
pairs-entered e l (suc n) i h =
    ⊎_elim
    (λ (q : i ≡ n). rw q (get_or_at (pairs e l n) (e n) (l n ∷ []) 0 (2 * n) (length_pairs e l n)))
    (λ (q : i < n). List·getD-append (pairs e l n) _ 0 (2 * i) (rw length_pairs (omega arith)) ∙ pairs-entered e l n i q)
    (eq-or-lt_of_le (le_of_suc-le-suc h))

pub pairs-left : (e l : ℕ → ℕ) (n i : ℕ) → i < n → get_or (pairs e l n) (2 * i + 1) 0 ≡ l i
unfolding pairs
pairs-left e l zero i h = elim h [ ]
pairs-left e l (suc n) i h =
    ⊎_elim
    (λ (q : i ≡ n).
    rw (q, ← append_snoc (pairs e l n) (e n) (l n ∷ []))
    (get_or_at (pairs e l n ++ (e n ∷ [])) (l n) [] 0 (2 * n + 1) (length-append (pairs e l n) (e n ∷ []) ∙ ap (λ k. k + 1) (length_pairs e l n))))
    (λ (q : i < n). List·getD-append (pairs e l n) _ 0 (2 * i + 1) (rw length_pairs (omega arith)) ∙ pairs-left e l n i q)
    (eq-or-lt_of_le (le_of_suc-le-suc h))

-- a list whose first 2 * n numbers are those of a row, and whose others are d's
module _ (e l : ℕ → ℕ) (d : List ℕ) (n : ℕ) where
  pub begun-none : d ≡ pairs e l 0 ++ drop (2 * 0) d
  unfolding pairs
  begun-none = refl

  pub begun-length : 2 * n ≤ length d → length (pairs e l n ++ drop (2 * n) d) ≡ length d
  begun-length h = length-append (pairs e l n) (drop (2 * n) d) ∙ simp (length_pairs, length-drop) (omega arith)

  pub begun-entered : (i : ℕ) → i < n → get_or (pairs e l n ++ drop (2 * n) d) (2 * i) 0 ≡ e i
  begun-entered i h = List·getD-append (pairs e l n) _ 0 (2 * i) (rw length_pairs (omega arith)) ∙ pairs-entered e l n i h

  pub begun-left : (i : ℕ) → i < n → get_or (pairs e l n ++ drop (2 * n) d) (2 * i + 1) 0 ≡ l i
  begun-left i h = List·getD-append (pairs e l n) _ 0 (2 * i + 1) (rw length_pairs (omega arith)) ∙ pairs-left e l n i h

  pub begun-rest : (k : ℕ) → 2 * n ≤ k → get_or (pairs e l n ++ drop (2 * n) d) k 0 ≡ get_or d k 0
  begun-rest k h =
      let q : k ≡ length (pairs e l n) + (k - 2 * n) = omega (arith, length_pairs e l n) in
      let r : 2 * n + (k - 2 * n) ≡ k = omega arith in
      ap (λ x. get_or (pairs e l n ++ drop (2 * n) d) x 0) q ∙ get_or-append-add (pairs e l n) _ (k - 2 * n) 0
      ∙ get_or-drop (2 * n) d (k - 2 * n) 0 ∙ ap (λ x. get_or d x 0) r

  -- it is known by its numbers
  pub begun-is : (row : List ℕ) → length row ≡ length d → 2 * n ≤ length d → ((i : ℕ) → i < n → get_or row (2 * i) 0 ≡ e i)
      → ((i : ℕ) → i < n → get_or row (2 * i + 1) 0 ≡ l i) → ((k : ℕ) → 2 * n ≤ k → get_or row k 0 ≡ get_or d k 0) → row ≡ pairs e l n ++ drop (2 * n) d
  begun-is row w h a b r = ext_get_or 0 row (pairs e l n ++ drop (2 * n) d) (w ∙ sym (begun-length h)) (λ k u. elim (dec_le (2 * n) k) [ yes v ↦ r k v ∙ sym (begun-rest k v) | no v ↦ low k (omega arith) ])
    where
      at-two : (k : ℕ) → (k ≡ 2 * (k / 2)) ⊎ (k ≡ 2 * (k / 2) + 1)
      at-two k = ⊎_elim (λ (q : k ≡ 2 * (k / 2) + 1). inr q) (λ (q : k < 2 * (k / 2) + 1). inl (omega arith)) (eq-or-lt_of_le (omega arith))

      low : (k : ℕ) → k < 2 * n → get_or row k 0 ≡ get_or (pairs e l n ++ drop (2 * n) d) k 0
      low k u =
          ⊎_elim
          (λ (q : k ≡ 2 * (k / 2)). let v : k / 2 < n = omega arith in rw q (a (k / 2) v ∙ sym (begun-entered (k / 2) v)))
          (λ (q : k ≡ 2 * (k / 2) + 1). let v : k / 2 < n = omega arith in rw q (b (k / 2) v ∙ sym (begun-left (k / 2) v)))
          (at-two k)

set-two : (p : List ℕ) (x y : ℕ) (r : List ℕ) (a b n : ℕ) → length p ≡ n → set (set (p ++ (x ∷ y ∷ r)) n a) (n + 1) b ≡ p ++ (a ∷ b ∷ r)
set-two p x y r a b n h =
    rw (set_at p x (y ∷ r) a n h, ← append_snoc p a (y ∷ r))
    (set_at (p ++ (a ∷ [])) y r b (n + 1) (length-append p (a ∷ []) ∙ ap (λ k. k + 1) h) ∙ append_snoc p a (b ∷ r))

-- one turn of a loop that begins a row: it stores entered and left of link n
pub begun-turn : (e l : ℕ → ℕ) (d : List ℕ) (n : ℕ) {p : List ℕ} {v w : ℕ} → p ≡ pairs e l n ++ drop (2 * n) d → 2 * n + 1 < length d → v ≡ e n → w ≡ l n
    → set (set p (2 * n) v) (2 * n + 1) w ≡ pairs e l (n + 1) ++ drop (2 * (n + 1)) d
unfolding pairs
begun-turn e l d n q h a b =
    let e1 : suc (2 * n) ≡ 2 * n + 1 = omega arith in
    let e2 : suc (2 * n + 1) ≡ 2 * (n + 1) = omega arith in
    let k : drop (2 * n) d ≡ get_or d (2 * n) 0 ∷ get_or d (2 * n + 1) 0 ∷ drop (2 * (n + 1)) d =
    drop-cons d (2 * n) 0 (omega arith) ∙ rw (e1, drop-cons d (2 * n + 1) 0 h, e2) in
    rw (q, a, b, k) (set-two (pairs e l n) _ _ _ _ _ (2 * n) (length_pairs e l n) ∙ rw add-one (sym (append_assoc (pairs e l n) (e n ∷ l n ∷ []) _)))
