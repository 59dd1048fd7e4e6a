-- The last ordinary step, and the run that shows at a boundary.
use Rattle.base_laws.proofs.Kit.{◌≡◌, refl, sym, ap, ◌∙◌, Bool, true, false, cond, not, true≢false, ◌⊎◌, inl, inr, ◌≢◌, List, ℕ, zero, suc, ◌+◌, ◌≤◌, ◌<◌, eq-or-lt_of_le, dec_le, arith, leb, eqb, leb-true, le-leb, eqb-true, eqb-false, eq-eqb, ne_eqb}
use Rattle.text_reader.specs.Lines.{Line}
use Rattle.model.specs.declared.Signal.{Signal}
use Rattle.base_laws.specs.Test.{◌and◌}
use Rattle.model.specs.Network.{signal, step_length, time, ordinary}
use Rattle.model.specs.Flows.{shown_in}
use Rattle.model.specs.Guarantees.{is_ordinary, NoneBetween}
use Rattle.model.proofs.Shown.{phase, run, phase-suc, same-signal, run-new, run_on}
use Rattle.model_sheet.specs.Runs.{leaves, is_tested, last_line}
use Rattle.model_sheet.proofs.Steps.{ordinary_seconds, seconds-none, seconds-suc, length-ordinary, length-tram}

module _ (network : List Line) (r : ℕ) where
  abbrev O : ℕ → Bool
  O n = is_ordinary network r n

  abbrev last : ℕ → ℕ
  last n = last_line network n r

  pub ordinary-suc : (n : ℕ) → O (suc n) ≡ ordinary network n r
  unfolding is_ordinary
  ordinary-suc n = refl

  both : (m : ℕ) → O m ≡ true → O m ≡ false → ⊥
  both m h l = true≢false (sym h ∙ l)

  pub last-le : (n : ℕ) → last n ≤ n
  unfolding last_line
  last-le zero = omega arith
  last-le (suc n) = go (ordinary network n r) (last-le n)
    where
      go : (t : Bool) → last n ≤ n → cond t (suc n) (last n) ≤ suc n
      go true h = omega arith
      go false h = omega arith

  pub last-ordinary : (n : ℕ) → O (last n) ≡ true
  unfolding last_line
  last-ordinary zero = unfold is_ordinary in refl
  last-ordinary (suc n) = go (ordinary network n r) refl (last-ordinary n)
    where
      go : (t : Bool) → ordinary network n r ≡ t → O (last n) ≡ true → O (cond t (suc n) (last n)) ≡ true
      go true e h = ordinary-suc n ∙ e
      go false e h = h

  pub last_none : (n : ℕ) → NoneBetween network r (last n) (suc n)
  unfolding last_line
  last_none zero m h l = absurd (omega arith)
  last_none (suc n) m h l = go (ordinary network n r) refl h (eq-or-lt_of_le l) (last_none n m)
    where
      go : (t : Bool) → ordinary network n r ≡ t → cond t (suc n) (last n) < m → (suc m ≡ suc (suc n)) ⊎ (suc m < suc (suc n))
          → (last n < m → m < suc n → O m ≡ false) → O m ≡ false
      go true e h u ih = absurd (omega arith)
      go false e h (inl q) ih = let i : m ≡ suc n = omega arith in ap O i ∙ ordinary-suc n ∙ e
      go false e h (inr q) ih = ih h (omega arith)

  pub last-is : (n m : ℕ) → m ≤ n → O m ≡ true → NoneBetween network r m (suc n) → last n ≡ m
  last-is n m l h f = elim (dec_le m (last n)) [
    | yes u ↦ go (eq-or-lt_of_le u)
    | no u ↦ absurd (both m h (last_none n m (omega arith) (omega arith)))
  ]
    where
      go : (m ≡ last n) ⊎ (m < last n) → last n ≡ m
      go (inl e) = sym e
      go (inr v) = absurd (both (last n) (last-ordinary n) (f (last n) v (omega (arith, last-le n))))

  pub last-reaches : (n m : ℕ) → m ≤ n → O m ≡ true → m ≤ last n
  last-reaches n m l h = elim (dec_le m (last n)) [
    | yes u ↦ u
    | no u ↦ absurd (both m h (last_none n m (omega arith) (omega arith)))
  ]

  -- no second of a tram's steps counts
  pub seconds-trams : (a b d : ℕ) → a ≤ b → NoneBetween network r b (suc (b + d)) → ordinary_seconds network r a (b + d) ≡ ordinary_seconds network r a b
  seconds-trams a b zero h f = let e : b + 0 ≡ b = omega arith in rw e
  seconds-trams a b (suc d) h f =
      let e : b + suc d ≡ suc (b + d) = omega arith in
      let z = length-tram network r (b + d) (sym (ordinary-suc (b + d)) ∙ f (suc (b + d)) (omega arith) (omega arith)) in
      rw (e, seconds-suc network r a (b + d) (omega arith), z) (omega (arith, seconds-trams a b d h (λ m l u. f m l (omega arith))))

module _ (network plan : List Line) (r : ℕ) where
  abbrev shown_by : ℕ → ℕ
  shown_by = phase network plan r

  -- ---- one step
  tested-tram : (n : ℕ) → ordinary network n r ≡ false → is_tested network plan (suc n) r ≡ is_tested network plan n r
  unfolding is_tested leaves ◌and◌
  tested-tram n h = rw h

  tested-same : (n : ℕ) → shown_in network plan n r ≡ shown_by n → is_tested network plan (suc n) r ≡ is_tested network plan n r
  unfolding is_tested leaves ◌and◌
  tested-same n e = rw (eq-eqb (shown_in network plan n r) (shown_by n) e) (go (ordinary network n r) _ _)
    where
      go : (t x y : Bool) → cond (t and not true) x y ≡ y
      go true x y = refl
      go false x y = refl

  pub leaves-is : (n : ℕ) → ordinary network n r ≡ true → shown_in network plan n r ≢ shown_by n → leaves network plan n r ≡ true
  unfolding leaves ◌and◌
  leaves-is n h e = rw (h, ne_eqb (shown_in network plan n r) (shown_by n) e)

  tested-other : (n : ℕ) → ordinary network n r ≡ true → shown_in network plan n r ≢ shown_by n
      → is_tested network plan (suc n) r ≡ leb (signal network r).greatest_cycle (time network n)
  unfolding is_tested
  tested-other n h e = rw (leaves-is n h e)

  -- ---- the run that shows at boundary n, if it is tested
  pub record Begun (n : ℕ) : Type 0 where
    pub start : ℕ
    pub before : start < n
    pub first : is_ordinary network r (suc start) ≡ true
    pub differs : shown_by start ≢ shown_by n
    pub late : (signal network r).greatest_cycle ≤ time network start
    pub shows : (m : ℕ) → start < m → m ≤ n → is_ordinary network r m ≡ true → shown_by m ≡ shown_by n
    pub seconds : ordinary_seconds network r start n ≡ run network plan r n

  more-shows : (n a : ℕ) → ((m : ℕ) → a < m → m ≤ n → is_ordinary network r m ≡ true → shown_by m ≡ shown_by (suc n))
      → (m : ℕ) → a < m → m ≤ suc n → is_ordinary network r m ≡ true → shown_by m ≡ shown_by (suc n)
  more-shows n a f m l u o = go (eq-or-lt_of_le u)
    where
      go : (m ≡ suc n) ⊎ (m < suc n) → shown_by m ≡ shown_by (suc n)
      go (inl e) = ap shown_by e
      go (inr v) = f m l (omega arith) o

  -- it goes on, through a step whose seconds are those by which it grows
  begun-on : (n : ℕ) → shown_by n ≡ shown_by (suc n) → ordinary_seconds network r n (suc n) + run network plan r n ≡ run network plan r (suc n) → Begun n → Begun (suc n)
  begun-on n s grows b =
      record {
        start = b.start;
        before = omega (arith, b.before);
        first = b.first;
        differs = λ q. b.differs (q ∙ sym s);
        late = b.late;
        shows = more-shows n b.start (λ m l u o. b.shows m l u o ∙ s);
        seconds = seconds-suc network r b.start n (omega (arith, b.before))
            ∙ omega (arith, b.seconds, seconds-suc network r n n (omega arith), seconds-none network r n);
      }

  -- what an ordinary step, or a tram's, adds
  one-step : (n x : ℕ) → ordinary network n r ≡ true → run network plan r (suc n) ≡ x + step_length network n → ordinary_seconds network r n (suc n) + x ≡ run network plan r (suc n)
  one-step n x h e = omega (arith, seconds-suc network r n n (omega arith), seconds-none network r n, length-ordinary network r n h)

  no_step : (n : ℕ) → ordinary network n r ≡ false → ordinary_seconds network r n (suc n) + run network plan r n ≡ run network plan r (suc n)
  no_step n h =
      omega (arith, seconds-suc network r n n (omega arith), seconds-none network r n, length-tram network r n h, ap (λ (s : Signal). s.shown_for) (same-signal network plan r n h))

  begun-other : (n : ℕ) → ordinary network n r ≡ true → shown_in network plan n r ≢ shown_by n → (signal network r).greatest_cycle ≤ time network n → Begun (suc n)
  begun-other n h e late =
      let d : shown_by (suc n) ≢ shown_by n = λ q. e (sym (phase-suc network plan r n h) ∙ q) in
      record {
        start = n;
        before = omega arith;
        first = ordinary-suc network r n ∙ h;
        differs = λ q. d (sym q);
        late = late;
        shows = more-shows n n (λ m l u o. absurd (omega arith));
        seconds = omega (arith, one-step n 0 h (omega (arith, run-new network plan r n d)));
      }

  pub begun : (n : ℕ) → is_tested network plan n r ≡ true → Begun n
  begun zero h = let z : is_tested network plan 0 r ≡ false = unfold is_tested in refl in absurd (true≢false (sym h ∙ z))
  begun (suc n) h = go (ordinary network n r) refl (eqb (shown_in network plan n r) (shown_by n)) refl (begun n)
    where
      go : (t : Bool) → ordinary network n r ≡ t → (s : Bool) → eqb (shown_in network plan n r) (shown_by n) ≡ s → (is_tested network plan n r ≡ true → Begun n) → Begun (suc n)
      go false o s e ih = begun-on n (ap (λ (s : Signal). s.shown) (sym (same-signal network plan r n o))) (no_step n o) (ih (sym (tested-tram n o) ∙ h))
      go true o true e ih =
          let q = eqb-true (shown_in network plan n r) (shown_by n) e in
          let p : shown_by (suc n) ≡ shown_by n = phase-suc network plan r n o ∙ q in
          begun-on n (sym p) (one-step n _ o (run_on network plan r n o p)) (ih (sym (tested-same n q) ∙ h))
      go true o false e ih =
          let q = eqb-false (shown_in network plan n r) (shown_by n) e in
          begun-other n o q (leb-true (signal network r).greatest_cycle (time network n) (sym (tested-other n o q) ∙ h))

  -- ---- and back: steps after boundary a that show q, which is not shown before
  pub record Showing (a q n : ℕ) : Type 0 where
    pub tested : is_tested network plan n r ≡ true
    pub shown : shown_by n ≡ q
    pub seconds : ordinary_seconds network r a n ≡ run network plan r n

  showing-on : (a q n : ℕ) → a ≤ n → is_tested network plan (suc n) r ≡ is_tested network plan n r → shown_by (suc n) ≡ shown_by n
      → ordinary_seconds network r n (suc n) + run network plan r n ≡ run network plan r (suc n) → Showing a q n → Showing a q (suc n)
  showing-on a q n h t s grows w =
      record {
        tested = t ∙ w.tested;
        shown = s ∙ w.shown;
        seconds = seconds-suc network r a n h ∙ omega (arith, w.seconds, seconds-suc network r n n (omega arith), seconds-none network r n);
      }

  pub showing : (a q d : ℕ) → is_ordinary network r (suc a) ≡ true → shown_by a ≢ q → (signal network r).greatest_cycle ≤ time network a
      → ((m : ℕ) → a < m → m ≤ suc a + d → is_ordinary network r m ≡ true → shown_by m ≡ q) → Showing a q (suc a + d)
  showing a q zero o e late f =
      let z : suc a + 0 ≡ suc a = omega arith in
      let h : ordinary network a r ≡ true = sym (ordinary-suc network r a) ∙ o in
      let s : shown_by (suc a) ≡ q = f (suc a) (omega arith) (omega arith) o in
      let d : shown_by (suc a) ≢ shown_by a = λ x. e (sym x ∙ s) in
      rw z (record {
        tested = tested-other a h (λ x. d (phase-suc network plan r a h ∙ x)) ∙ le-leb (signal network r).greatest_cycle (time network a) late;
        shown = s;
        seconds = omega (arith, one-step a 0 h (omega (arith, run-new network plan r a d)));
      })
  showing a q (suc d) o e late f =
      let z : suc a + suc d ≡ suc (suc a + d) = omega arith in
      rw z (go (ordinary network (suc a + d) r) refl (showing a q d o e late (λ m l u. f m l (omega arith))))
    where
      go : (t : Bool) → ordinary network (suc a + d) r ≡ t → Showing a q (suc a + d) → Showing a q (suc (suc a + d))
      go true h ih =
          let s : shown_by (suc (suc a + d)) ≡ q = f (suc (suc a + d)) (omega arith) (omega arith) (ordinary-suc network r (suc a + d) ∙ h) in
          let p : shown_by (suc (suc a + d)) ≡ shown_by (suc a + d) = s ∙ sym ih.shown in
          showing-on a q (suc a + d) (omega arith) (tested-same (suc a + d) (sym (phase-suc network plan r (suc a + d) h) ∙ p)) p
          (one-step (suc a + d) _ h (run_on network plan r (suc a + d) h p)) ih
      go false h ih =
          showing-on a q (suc a + d) (omega arith) (tested-tram (suc a + d) h) (ap (λ (s : Signal). s.shown) (same-signal network plan r (suc a + d) h))
          (no_step (suc a + d) h) ih
