-- A plan keeps a sheet exactly when no check 34 is broken.
use Rattle.base_laws.proofs.Kit.{◌≡◌, refl, sym, ap, ◌∙◌, Bool, true, false, not, true≢false, ◌⊎◌, inl, inr, ◌≢◌, ◌↔◌, List, ℕ, zero, suc, ◌+◌, ◌-◌, ◌≤◌, ◌<◌, dec_le, arith, eqb, eqb-true, eqb-false, eq-eqb, not-true}
use Rattle.base_search.specs.Checks.{Hold}
use Rattle.text_reader.specs.Lines.{Line}
use Rattle.base_laws.specs.Test.{◌and◌, ◌or◌}
use Rattle.model.specs.Network.{signal_count, step_count, signal, time, ordinary}
use Rattle.model.specs.Flows.{shown_in}
use Rattle.model.specs.Rules.{rule10}
use Rattle.model.specs.Guarantees.{is_ordinary, NoneBetween}
use Rattle.base_laws.proofs.Tests.{and_left, and_right, or_cases, every-at, or_left, or_right, every_of}
use Rattle.model.proofs.Shown.{phase, run, phase-suc}
use Rattle.sheet_lines.specs.Sheet.{duration}
use Rattle.model_sheet.specs.Kept.{Kept}
use Rattle.model_sheet.specs.Runs.{leaves, is_tested, last_line, keeps_sheet, rule34, run_checks}
use Rattle.model_sheet.proofs.Steps.{ordinary_seconds}
use Rattle.model_sheet.proofs.Run.{Run, RunsKept, kept-of-runs, runs-of-kept}
use Rattle.model_sheet.proofs.LastLine.{ordinary-suc, leaves-is, last-le, last-ordinary, last_none, last-is, last-reaches, seconds-trams, Begun, begun, Showing, showing}

module _ (network plan : List Line) where
  -- a run that step c leaves, and that is tested
  pub run-left : (c r : ℕ) → c < step_count network → leaves network plan c r ≡ true → (b : Begun network plan r c)
      → Run network plan r (phase network plan r c) b.start (last_line network c r)
  unfolding leaves
  run-left c r u h b =
      let o : ordinary network c r ≡ true = and_left _ _ h in
      let d : shown_in network plan c r ≢ phase network plan r c = eqb-false (shown_in network plan c r) (phase network plan r c) (not-true _ (and_right _ _ h)) in
      let below = last-le network r c in
      record {
        some-step = last-reaches network r c (suc b.start) b.before b.first;
        first = b.first;
        last = last-ordinary network r c;
        shows = λ n x y o. b.shows n x (omega arith) o;
        differs = b.differs;
        next = suc c;
        after = omega arith;
        in-plan = u;
        next-ordinary = ordinary-suc network r c ∙ o;
        none_between = last_none network r c;
        left = λ e. d (sym (phase-suc network plan r c o) ∙ e);
      }

  -- its seconds are those of the signal
  pub run-seconds : (c r : ℕ) (b : Begun network plan r c) → ordinary_seconds network r b.start (last_line network c r) ≡ run network plan r c
  run-seconds c r b =
      let reach = last-reaches network r c (suc b.start) b.before b.first in
      let below = last-le network r c in
      let e : last_line network c r + (c - last_line network c r) ≡ c = omega arith in
      sym (seconds-trams network r b.start (last_line network c r) (c - last_line network c r) (omega arith) (rw e (last_none network r c)))
      ∙ ap (ordinary_seconds network r b.start) e ∙ b.seconds

  -- a tested run of the plan, and the step that leaves it
  pub record Leaving (r q a b : ℕ) : Type 0 where
    pub step : ℕ
    pub in-plan : step < step_count network
    pub leaves-it : leaves network plan step r ≡ true
    pub tested : is_tested network plan step r ≡ true
    pub shown : phase network plan r step ≡ q
    pub seconds : ordinary_seconds network r a b ≡ run network plan r step
    pub told : last_line network step r ≡ b

  leaving : (r q a b : ℕ) → Run network plan r q a b → (signal network r).greatest_cycle ≤ time network a → Leaving r q a b
  leaving r q a b w late = go w.next refl
    where
      go : (n : ℕ) → w.next ≡ n → Leaving r q a b
      go zero e = absurd (omega (arith, w.after))
      go (suc c) e =
          let s = w.some-step in
          let h : b ≤ c = omega (arith, w.after) in
          let none : NoneBetween network r b (suc c) = λ m x y. w.none_between m x (omega arith) in
          let z : suc a + (c - suc a) ≡ c = omega arith in
          let v : Showing network plan r a q c =
          rw z at (showing network plan r a q (c - suc a) w.first w.differs late (λ m x y o. through none m x (omega arith) o (dec_le m b))) in
          let o : ordinary network c r ≡ true = sym (ordinary-suc network r c) ∙ ap (is_ordinary network r) (sym e) ∙ w.next-ordinary in
          let other : phase network plan r (suc c) ≢ q = λ x. w.left (ap (phase network plan r) e ∙ x) in
          let y : b + (c - b) ≡ c = omega arith in
          record {
            step = c;
            in-plan = omega (arith, w.in-plan);
            leaves-it = leaves-is network plan r c o (λ x. other (phase-suc network plan r c o ∙ x ∙ v.shown));
            tested = v.tested;
            shown = v.shown;
            seconds = sym (seconds-trams network r a b (c - b) (omega arith) (rw y none)) ∙ ap (ordinary_seconds network r a) y ∙ v.seconds;
            told = last-is network r c b h w.last none;
          }
        where
          through : NoneBetween network r b (suc c) → (m : ℕ) → a < m → m ≤ c → is_ordinary network r m ≡ true → Dec (m ≤ b) → phase network plan r m ≡ q
          through none m x y o (yes u) = w.shows m x u o
          through none m x y o (no u) = absurd (true≢false (sym o ∙ none m (omega arith) (omega arith)))

  module _ (sheet : List Line) where
    -- where the sheet is kept, every step keeps it
    step_kept : RunsKept network sheet plan → (c r : ℕ) → c < step_count network → r < signal_count network → keeps_sheet network sheet plan c r ≡ true
    unfolding keeps_sheet RunsKept
    step_kept kept c r u l = go (leaves network plan c r and is_tested network plan c r) refl
      where
        go : (t : Bool) → leaves network plan c r and is_tested network plan c r ≡ t
            → not t or eqb (run network plan r c) (duration sheet r (phase network plan r c)) ≡ true
        go false e = or_left _ _ refl
        go true e =
            let b = begun network plan r c (and_right _ _ e) in
            or_right _ _ (eq-eqb _ _ (sym (run-seconds c r b) ∙ kept r (phase network plan r c) b.start (last_line network c r) l (run-left c r u (and_left _ _ e) b) b.late))

    -- a step that leaves a tested run and keeps the sheet
    kept-left : (c r : ℕ) → keeps_sheet network sheet plan c r ≡ true → leaves network plan c r ≡ true → is_tested network plan c r ≡ true
        → run network plan r c ≡ duration sheet r (phase network plan r c)
    unfolding keeps_sheet ◌and◌
    kept-left c r h x y = go (or_cases _ _ h)
      where
        go : (not (leaves network plan c r and is_tested network plan c r) ≡ true) ⊎ (eqb (run network plan r c) (duration sheet r (phase network plan r c)) ≡ true)
            → run network plan r c ≡ duration sheet r (phase network plan r c)
        go (inl n) = let e : leaves network plan c r and is_tested network plan c r ≡ true = rw (x, y) in absurd (true≢false (sym e ∙ not-true _ n))
        go (inr e) = eqb-true _ _ e

    pub holds-of-kept : RunsKept network sheet plan → Hold (run_checks network sheet plan)
    unfolding Hold run_checks rule34
    holds-of-kept kept n u r l = every_of (step_count network) _ (λ c v. or_left _ _ (step_kept kept c r v l))

    -- a tested run that the check of its last ordinary step lets pass
    pub run-kept : (r q a b : ℕ) → Run network plan r q a b → (signal network r).greatest_cycle ≤ time network a → rule34 network sheet plan (b - 1) r ≡ true
        → ordinary_seconds network r a b ≡ duration sheet r q
    unfolding rule34
    run-kept r q a b w late held =
        let x = leaving r q a b w late in
        let here = every-at (step_count network) (λ c. keeps_sheet network sheet plan c r or not (eqb (last_line network c r) (suc (b - 1)))) held x.step x.in-plan in
        x.seconds ∙ kept-left x.step r (go x (or_cases _ _ here)) x.leaves-it x.tested ∙ ap (duration sheet r) x.shown
      where
        go : (x : Leaving r q a b) → (keeps_sheet network sheet plan x.step r ≡ true) ⊎ (not (eqb (last_line network x.step r) (suc (b - 1))) ≡ true)
            → keeps_sheet network sheet plan x.step r ≡ true
        go x (inl h) = h
        go x (inr h) = absurd (eqb-false (last_line network x.step r) (suc (b - 1)) (not-true _ h) (omega (arith, x.told, w.some-step)))

    kept-of-holds : Hold (run_checks network sheet plan) → RunsKept network sheet plan
    unfolding Hold run_checks RunsKept
    kept-of-holds held r q a b l w late = run-kept r q a b w late (held (b - 1) (omega (arith, w.some-step, w.after, w.in-plan)) r l)

    -- where every mask is a phase (rule 10), the sheet is kept exactly when no check 34 is broken
    pub kept-exactly : ((n r : ℕ) → n < step_count network → r < signal_count network → rule10 network plan n r ≡ true) → Hold (run_checks network sheet plan) ↔ Kept network sheet plan
    kept-exactly ten = (λ h. kept-of-runs network sheet plan (kept-of-holds h), λ k. holds-of-kept (runs-of-kept network sheet plan ten k))
