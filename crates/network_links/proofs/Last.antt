-- The last movement that leaves a link is what `rposition` finds.
use Rattle.base_laws.proofs.Kit.{ℕ, zero, suc, ◌+◌, ◌-◌, ◌≤◌, ◌<◌, ◌≡◌, ◌≢◌, refl, sym, ap, subst, ◌∙◌, inl, inr, Bool, true, false, List, [], ◌∷◌, arith, eq-eqb, ne_eqb, eq-or-lt_of_le, eqb, eqb-true, eqb-false, length}
use Rattle.std.specs.Prelude.{reverse, Option, Some, None, MatchOption, IsSomeAnd}
use Rattle.std.specs.Borrow.{Bor}
use Rattle.std.specs.Fn.{Mut, Called}
use Rattle.std.specs.List.{AllWithin, HoldsAt}
use Rattle.std.specs.Iterator.{FindsPositionBack}
use Rattle.std.specs.Slice.Iter.{iter_rest, iter_steps_back}
use Rattle.std.proofs.Common.{Iter}
use Rattle.std.proofs.lemmas.List.{length-reverse, get_or-reverse, reverse-append}
use Rattle.std.proofs.lemmas.Iterator.{YieldsList, IsFirst-from_position}
use Rattle.std.proofs.lemmas.Iterator.Consumers.{YieldsList-from_shown}
use Rattle.network_tables.specs.declared.Movement.{Movement}
use Rattle.network_tables.specs.Fields.{movement_by, movement_at, link_in}
use Rattle.network_links.specs.Movements.{last_movement_in, LastMovement}

module _ (movements : List Movement) (link : ℕ) where
  none-to : (m : ℕ) → ((k : ℕ) → k < m → link_in movements 0 k ≢ link) → last_movement_in movements m link ≡ 0
  unfolding last_movement_in
  none-to zero n = refl
  none-to (suc m) n = rw (ne_eqb (link_in movements 0 m) link (n m (omega arith)), none-to m (λ k h. n k (omega arith)))

  last-to : (m j : ℕ) → j < m → link_in movements 0 j ≡ link → ((k : ℕ) → j < k → k < m → link_in movements 0 k ≢ link) → last_movement_in movements m link ≡ j + 1
  unfolding last_movement_in
  last-to zero j h e n = absurd (omega arith)
  last-to (suc m) j h e n = elim (eq-or-lt_of_le {n = j} {m = m} (omega arith)) [
    | inl q ↦ rw (← q, eq-eqb (link_in movements 0 j) link e) (omega arith)
    | inr l ↦ rw (ne_eqb (link_in movements 0 m) link (n m l (omega arith)), last-to m j l e (λ k a b. n k a (omega arith)))
  ]

  abbrev Leaves : Movement → Type 0
  Leaves movement = movement.from ≡ link

  abbrev Stays : Movement → Type 0
  Stays movement = movement.from ≢ link

  -- the movements from the last to the first
  at-back : (i : ℕ) → i < length movements → movement_at (reverse movements) i ≡ movement_at movements (length movements - 1 - i)
  at-back i h = get_or-reverse movements i (movement_by (λ k. 0)) h

  stays-after : (i : ℕ) → AllWithin Stays (reverse movements) 0 i → (k : ℕ) → k < length movements → length movements ≤ k + i → link_in movements 0 k ≢ link
  stays-after i n k h l e =
      let place : length movements - 1 - (length movements - 1 - k) ≡ k = omega arith in
      n (length movements - 1 - k) (movement_by (λ k. 0)) (omega arith) (omega arith)
      (ap (λ (m : Movement). m.from) (at-back (length movements - 1 - k) (omega arith)) ∙ ap (λ x. link_in movements 0 x) place ∙ e)

  found : (back last : Option ℕ)
      → MatchOption back (AllWithin Stays (reverse movements) 0 (length (reverse movements)))
      (λ i. (i < length (reverse movements)) × HoldsAt Leaves (reverse movements) i × AllWithin Stays (reverse movements) 0 i)
      → MatchOption back (last ≡ None) (λ i. IsSomeAnd last (λ j. j + 1 + i ≡ length movements)) → LastMovement movements link last
  found None last n e = rw e (none-to (length movements) (λ k h. stays-after (length (reverse movements)) n k h (omega (arith, length-reverse movements))))
  found (Some i) None h e = absurd e
  found (Some i) (Some j) h e =
      let below : i < length movements = omega (arith, h.0, length-reverse movements) in
      let place : length movements - 1 - i ≡ j = omega arith in
      let leaves : link_in movements 0 j ≡ link =
      ap (λ x. link_in movements 0 x) (sym place) ∙ sym (ap (λ (m : Movement). m.from) (at-back i below)) ∙ h.1 (movement_by (λ k. 0)) in
      (omega arith, last-to (length movements) j (omega arith) leaves (λ k a b. stays-after i h.2 k b (omega arith)))

  -- a slice from its end on yields its items from the last to the first
  backs : {s : Iter Movement} → iter_rest s ≡ movements → YieldsList iter_steps_back (λ y. y.now) s (reverse movements)
  backs {s} e =
      subst (λ xs. YieldsList iter_steps_back (λ y. y.now) s (reverse xs)) e
      (YieldsList-from_shown iter_steps_back (λ y. y.now) (λ t. reverse (iter_rest t)) (λ t u p. length-reverse (iter_rest t) ∙ p.0)
      (λ t x u p. ap reverse p ∙ reverse-append (iter_rest u) (x.now ∷ [])) s)

  module _ {F : Type 0} {g : Mut F (Bor Movement × Unit {0}) Bool} {s : Iter Movement} (f : F) (u : Iter Movement) where
    pub last-found : (last : Option ℕ) {n : ℕ} → FindsPositionBack iter_steps_back g s f n last u → n ≡ length movements → iter_rest s ≡ movements
        → ((x : Bor Movement) (b : Bool) (q : F) → Called g f (x, tt) b q → (q ≡ f) × (b ≡ eqb x.now.from link)) → LastMovement movements link last
    last-found last {n} d size e says =
        let told = by d.1 d.5 in
        found told.0 last
        (IsFirst-from_position u f told.0 Leaves Stays (d.0, d.1, d.2, d.3, d.4, told.2) (backs e) (λ x q c. eqb-true x.now.from link (sym (says x true q c).1))
        (λ x q c. ((says x false q c).0, eqb-false x.now.from link (sym (says x false q c).1))))
        told.1
      where
        -- how many movements come before it from the end
        by : (o : Option (Bor Movement)) → MatchOption o (last ≡ None) (λ x. IsSomeAnd last (λ j. j + 1 + length d.0 ≡ n) × ((h : F) × Called g d.2 (x, tt) true h))
            → (back : Option ℕ) × MatchOption back (last ≡ None) (λ i. IsSomeAnd last (λ j. j + 1 + i ≡ length movements))
            × MatchOption o (back ≡ None) (λ x. (back ≡ Some (length d.0)) × ((h : F) × Called g d.2 (x, tt) true h))
        by None k = (None, k, refl)
        by (Some x) k = (Some (length d.0), rw size at k.0, (refl, k.1))
