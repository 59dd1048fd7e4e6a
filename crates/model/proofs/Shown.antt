-- A signal through the steps of an accepted plan.
use Rattle.base_laws.proofs.Kit.{◌≡◌, refl, sym, ap, ◌∙◌, Bool, true, false, cond, not, ◌≢◌, List, ℕ, zero, suc, ◌+◌, ◌-◌, ◌≤◌, ◌<◌, arith, leb-true, eqb-true, eq-eqb, ne_eqb}
use Rattle.text_reader.specs.Lines.{Line}
use Rattle.model.specs.declared.Signal.{Signal}
use Rattle.base_laws.specs.Test.{◌or◌, within}
use Rattle.model.specs.Network.{signal_count, step_count, signal, step_length, ordinary}
use Rattle.model.specs.Signals.{least_time, greatest_time, after}
use Rattle.model.specs.Flows.{shown_mask, shown_in, signal_at}
use Rattle.model.specs.Rules.{valid_signal, rule10, rule11, rule12, rule13}
use Rattle.model.specs.Guarantees.{Shows, is_ordinary, NoneBetween}
use Rattle.base_laws.proofs.Tests.{and_left, and_right}
use Rattle.model.proofs.Phases.{phase-of-le, phase-of-bit, bit-of-phase}
use Rattle.model.proofs.Accepted.{AcceptedPlan}
use Rattle.model.proofs.Order.{next}

-- the number of phases of signal r
abbrev pub P : List Line → ℕ → ℕ
P network r = (signal network r).phases

module _ (network plan : List Line) (r : ℕ) where
  -- the phase that signal r shows in the step that ends at boundary n, and for how long by then
  abbrev pub phase : ℕ → ℕ
  phase n = (signal_at network plan n r).shown

  abbrev pub run : ℕ → ℕ
  run n = (signal_at network plan n r).shown_for

  -- the signal after an ordinary step, and after a tram's
  pub next-signal : (n : ℕ) → ordinary network n r ≡ true → signal_at network plan (suc n) r ≡ after (signal_at network plan n r) (shown_in network plan n r) (step_length network n)
  unfolding signal_at
  next-signal n e = rw e refl

  pub same-signal : (n : ℕ) → ordinary network n r ≡ false → signal_at network plan (suc n) r ≡ signal_at network plan n r
  unfolding signal_at
  same-signal n e = rw e refl

  -- a step leaves what the `G` line says of the signal
  pub kept : {A : Type 0} (f : Signal → A) → ((s : Signal) (q seconds : ℕ) → f (after s q seconds) ≡ f s) → (n : ℕ) → f (signal_at network plan n r) ≡ f (signal network r)
  unfolding signal_at
  kept f same zero = refl
  kept f same (suc n) = go (ordinary network n r) ∙ kept f same n
    where
      go : (b : Bool) → f (cond b (after (signal_at network plan n r) (shown_in network plan n r) (step_length network n)) (signal_at network plan n r)) ≡ f (signal_at network plan n r)
      go true = same _ _ _
      go false = refl

  pub same-phases : (n : ℕ) → (signal_at network plan n r).phases ≡ P network r
  same-phases = kept (λ s. s.phases) (λ s q x. refl)

  same-least : (n : ℕ) → (signal_at network plan n r).least ≡ (signal network r).least
  same-least = kept (λ s. s.least) (λ s q x. refl)

  same-greatest : (n : ℕ) → (signal_at network plan n r).greatest ≡ (signal network r).greatest
  same-greatest = kept (λ s. s.greatest) (λ s q x. refl)

  pub phase-suc : (n : ℕ) → ordinary network n r ≡ true → phase (suc n) ≡ shown_in network plan n r
  phase-suc n e = ap (λ (s : Signal). s.shown) (next-signal n e)

  -- a step that changes the phase is an ordinary one
  pub change-ordinary : (n : ℕ) → phase (suc n) ≢ phase n → ordinary network n r ≡ true
  change-ordinary n d = go (ordinary network n r) refl
    where
      go : (b : Bool) → ordinary network n r ≡ b → b ≡ true
      go true e = refl
      go false e = absurd (d (ap (λ (s : Signal). s.shown) (same-signal n e)))

  -- while no step is ordinary the signal stands still
  pub signal-still : (a d : ℕ) → NoneBetween network r a (suc (a + d)) → signal_at network plan (a + d) r ≡ signal_at network plan a r
  unfolding is_ordinary
  signal-still a zero h = let e : a + 0 ≡ a = omega arith in rw e refl
  signal-still a (suc d) h =
      let e : a + suc d ≡ suc (a + d) = omega arith in
      rw e (same-signal (a + d) (h (suc (a + d)) (omega arith) (omega arith)) ∙ signal-still a d (λ m u v. h m u (omega arith)))

  pub still : (a b : ℕ) → a ≤ b → NoneBetween network r a (suc b) → signal_at network plan b r ≡ signal_at network plan a r
  still a b l h = let e : a + (b - a) ≡ b = omega arith in rw e at (signal-still a (b - a) (rw e h))

  -- in an ordinary step the phase is the one whose bit the mask is
  pub phase-of-shows : (q n : ℕ) → 1 ≤ q → q ≤ P network r → is_ordinary network r n ≡ true → Shows network plan r q n → phase n ≡ q
  unfolding Shows is_ordinary shown_in
  phase-of-shows q zero h l o s = unfold signal_at in s
  phase-of-shows q (suc n) h l o s = phase-suc n o ∙ phase-of-bit (shown_mask network plan n r) (P network r) q h l s

  pub shows-of-phase : (q n : ℕ) → 1 ≤ q → is_ordinary network r n ≡ true → phase n ≡ q → Shows network plan r q n
  unfolding Shows is_ordinary shown_in
  shows-of-phase q zero h o e = unfold signal_at in e
  shows-of-phase q (suc n) h o e = bit-of-phase (shown_mask network plan n r) (P network r) q h (sym (phase-suc n o) ∙ e)

  -- the seconds of a run
  pub run-new : (n : ℕ) → phase (suc n) ≢ phase n → run (suc n) ≡ step_length network n
  run-new n d =
      let o = change-ordinary n d in
      ap (λ (s : Signal). s.shown_for) (next-signal n o) ∙ rw (ne_eqb (shown_in network plan n r) (phase n) (λ e. d (phase-suc n o ∙ e))) refl

  pub run_on : (n : ℕ) → ordinary network n r ≡ true → phase (suc n) ≡ phase n → run (suc n) ≡ run n + step_length network n
  run_on n o e =
      ap (λ (s : Signal). s.shown_for) (next-signal n o) ∙ rw (eq-eqb (shown_in network plan n r) (phase n) (sym (phase-suc n o) ∙ e)) refl

  -- a rule that is tested in ordinary steps
  pub tested : (n : ℕ) (b : Bool) → ordinary network n r ≡ true → not (ordinary network n r) or b ≡ true → b ≡ true
  unfolding ◌or◌
  tested n b o h = rw o at h

  module _ (accepted : AcceptedPlan network plan) (lr : r < signal_count network) where
    pub phase-first : (n : ℕ) → n ≤ step_count network → 1 ≤ phase n
    unfolding signal_at
    phase-first zero h = unfold valid_signal within in (let f = accepted.valid.signals r lr in leb-true 1 (signal network r).shown (search (and_left, and_right) depth 9))
    phase-first (suc n) h = go (ordinary network n r) (phase-first n (omega arith))
      where
        go : (b : Bool) → 1 ≤ phase n → 1 ≤ (cond b (after (signal_at network plan n r) (shown_in network plan n r) (step_length network n)) (signal_at network plan n r)).shown
        go true i = unfold rule10 in leb-true _ _ ((accepted.lawful n h).keeps10 r lr)
        go false i = i

    pub phase-last : (n : ℕ) → n ≤ step_count network → phase n ≤ P network r
    unfolding signal_at
    phase-last zero h = unfold valid_signal within in (let f = accepted.valid.signals r lr in leb-true (signal network r).shown (P network r) (search (and_left, and_right) depth 9))
    phase-last (suc n) h = go (ordinary network n r) (phase-last n (omega arith))
      where
        go : (b : Bool) → phase n ≤ P network r
            → (cond b (after (signal_at network plan n r) (shown_in network plan n r) (step_length network n)) (signal_at network plan n r)).shown ≤ P network r
        go true i = unfold shown_in in phase-of-le (shown_mask network plan n r) (P network r)
        go false i = i

    pub phase-next : (n : ℕ) → n < step_count network → phase (suc n) ≢ phase n → phase (suc n) ≡ next (P network r) (phase n)
    unfolding rule11 next
    phase-next n h d =
        let o = change-ordinary n d in
        let k = tested n _ o ((accepted.lawful n h).keeps11 r lr) in
        phase-suc n o ∙ eqb-true _ _ (rw (ne_eqb (shown_in network plan n r) (phase n) (λ e. d (phase-suc n o ∙ e)), same-phases n) at k)

    pub least-kept : (n : ℕ) → n < step_count network → phase (suc n) ≢ phase n → least_time (signal network r) (phase n) ≤ run n
    unfolding rule12
    least-kept n h d =
        let o = change-ordinary n d in
        let k = tested n _ o ((accepted.lawful n h).keeps12 r lr) in
        leb-true _ _ (rw (ne_eqb (shown_in network plan n r) (phase n) (λ e. d (phase-suc n o ∙ e)), same-least n) at k)

    pub greatest-kept : (n : ℕ) → n < step_count network → ordinary network n r ≡ true → run (suc n) ≤ greatest_time (signal network r) (phase (suc n))
    unfolding rule13
    greatest-kept n h o = rw (phase, run, next-signal n o) (leb-true _ _ (rw (same-greatest n) at (tested n _ o ((accepted.lawful n h).keeps13 r lr))))
