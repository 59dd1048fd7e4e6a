-- A green that begins in the plan and is left in it, by the phases of the signal at each boundary
-- in place of masks, and with the step that leaves it. Assumes nothing.
use Rattle.base_laws.proofs.Kit.{◌≡◌, refl, sym, ap, ◌∙◌, true, true≢false, ◌≢◌, List, ℕ, suc, ◌≤◌, ◌<◌, dec_le, arith, leb-true}
use Rattle.text_reader.specs.Lines.{Line}
use Rattle.model.specs.declared.Signal.{Signal}
use Rattle.model.specs.Network.{signal_count, step_count, signal, time}
use Rattle.model.specs.Flows.{shown_mask, shown_in}
use Rattle.model.specs.Rules.{rule10}
use Rattle.model.specs.Guarantees.{is_ordinary, NoneBetween, Green, greatest_cycle}
use Rattle.model.proofs.Phases.{phase-of-le}
use Rattle.model.proofs.Ordinary.{last-ordinary, first-ordinary}
use Rattle.model.proofs.Shown.{phase, phase-suc, still, phase-of-shows, shows-of-phase}
use Rattle.sheet_lines.specs.Sheet.{duration}
use Rattle.model_sheet.specs.Kept.{Kept}
use Rattle.model_sheet.proofs.Steps.{ordinary_seconds}

pub greatest-cycle : (network : List Line) (r : ℕ) → (signal network r).greatest_cycle ≡ greatest_cycle network r
unfolding signal greatest_cycle
greatest-cycle network r = refl

pub record Run (network plan : List Line) (r q a b : ℕ) : Type 0 where
  pub some-step : a < b
  pub first : is_ordinary network r (suc a) ≡ true
  pub last : is_ordinary network r b ≡ true
  pub shows : (n : ℕ) → a < n → n ≤ b → is_ordinary network r n ≡ true → phase network plan r n ≡ q
  pub differs : phase network plan r a ≢ q
  pub next : ℕ
  pub after : b < next
  pub in-plan : next ≤ step_count network
  pub next-ordinary : is_ordinary network r next ≡ true
  pub none_between : NoneBetween network r b next
  pub left : phase network plan r next ≢ q

unfoldable pub RunsKept : List Line → List Line → List Line → Type 0
RunsKept network sheet plan =
    (r q a b : ℕ) → r < signal_count network → Run network plan r q a b → (signal network r).greatest_cycle ≤ time network a
    → ordinary_seconds network r a b ≡ duration sheet r q

module _ (network plan : List Line) (r : ℕ) where
  pub run-of-green : (q a b n : ℕ) → Green network plan r q (suc a) b → b < n → n ≤ step_count network → is_ordinary network r n ≡ true → Run network plan r q a b
  run-of-green q a b n g h l o = go (first-ordinary network r b n h o) (last-ordinary network r a)
    where
      go : ((m : ℕ) × (b ≤ m) × (m < n) × (is_ordinary network r (suc m) ≡ true) × NoneBetween network r b (suc m))
          → ((m : ℕ) × (m ≤ a) × (is_ordinary network r m ≡ true) × NoneBetween network r m (suc a)) → Run network plan r q a b
      go (m, x, y, z, f) (p, u, v, w) =
          record {
            some-step = g.some-step;
            first = g.first-ordinary;
            last = g.last-ordinary;
            shows = λ k i j s. phase-of-shows network plan r q k g.first-phase g.last-phase s (g.shows k i j s);
            differs = λ e. g.starts p (omega arith) v w (shows-of-phase network plan r q p g.first-phase v (ap (λ (s : Signal). s.shown) (sym (still network plan r p a u w)) ∙ e));
            next = suc m;
            after = omega arith;
            in-plan = omega arith;
            next-ordinary = z;
            none_between = f;
            left = λ e. g.ends (suc m) (omega arith) (omega arith) z f (shows-of-phase network plan r q (suc m) g.first-phase z e);
          }

  -- back, where every mask is a phase (rule 10)
  module _ (ten : (n : ℕ) → n < step_count network → rule10 network plan n r ≡ true) where
    phase-some : (n : ℕ) → n < step_count network → is_ordinary network r (suc n) ≡ true → (1 ≤ phase network plan r (suc n)) × (phase network plan r (suc n) ≤ (signal network r).phases)
    unfolding rule10 is_ordinary
    phase-some n h o =
        rw (phase-suc network plan r n o) (leb-true _ _ (ten n h), unfold shown_in in phase-of-le (shown_mask network plan n r) (signal network r).phases)

    pub green-of-run : (q a b : ℕ) → Run network plan r q a b → Green network plan r q (suc a) b
    green-of-run q a b run =
        let x = run.some-step in
        let y = run.after in
        let z = run.in-plan in
        let e : phase network plan r (suc a) ≡ q = run.shows (suc a) (omega arith) (omega arith) run.first in
        let s = phase-some a (omega arith) run.first in
        let one : 1 ≤ q = omega (arith, s.0) in
        let top : q ≤ (signal network r).phases = omega (arith, s.1) in
        record {
          first-phase = one;
          last-phase = top;
          some-step = run.some-step;
          in-plan = omega arith;
          first-ordinary = run.first;
          last-ordinary = run.last;
          shows = λ k u v w. shows-of-phase network plan r q k one w (run.shows k u v w);
          starts = λ k u w i p. run.differs (ap (λ (s : Signal). s.shown) (still network plan r k a (omega arith) i) ∙ phase-of-shows network plan r q k one top w p);
          ends = λ k u v w i p. run.left (ap (phase network plan r) (next-is k u w i (dec_le k run.next) (dec_le run.next k)) ∙ phase-of-shows network plan r q k one top w p);
        }
      where
        next-is : (k : ℕ) → b < k → is_ordinary network r k ≡ true → NoneBetween network r b k → Dec (k ≤ run.next) → Dec (run.next ≤ k) → run.next ≡ k
        next-is k u w i (yes c) (yes d) = omega arith
        next-is k u w i (yes c) (no d) = absurd (true≢false (sym w ∙ run.none_between k u (omega arith)))
        next-is k u w i (no c) d = absurd (true≢false (sym run.next-ordinary ∙ i run.next run.after (omega arith)))

pub kept-of-runs : (network sheet plan : List Line) → RunsKept network sheet plan → Kept network sheet plan
unfolding RunsKept Kept
kept-of-runs network sheet plan k r q a b n l g h u o late =
    k r q a b l (run-of-green network plan r q a b n g h u o) (rw (greatest-cycle network r) late)

pub runs-of-kept : (network sheet plan : List Line) → ((n r : ℕ) → n < step_count network → r < signal_count network → rule10 network plan n r ≡ true)
    → Kept network sheet plan → RunsKept network sheet plan
unfolding RunsKept Kept
runs-of-kept network sheet plan ten k r q a b l run late =
    k r q a b run.next l (green-of-run network plan r (λ n h. ten n r h l) q a b run) run.after run.in-plan run.next-ordinary
    (rw (← greatest-cycle network r) late)
