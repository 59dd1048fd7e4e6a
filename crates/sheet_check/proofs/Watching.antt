-- What is watched of the signals, through a step and at the end: one law for each way.
use Rattle.base_laws.proofs.Kit.{ℕ, ◌+◌, ◌≤◌, ◌<◌, ◌≡◌, refl, sym, ap, ◌∙◌, Bool, true, false, cond, not, ◌&&◌, List, le_refl, add-one, arith, eq-eqb, ne_eqb, leb, eqb, length, get_or, set, length-set, get_or-set_same, get_or-set_other}
use borrow.Author.Count.{below_more}
use Rattle.base_search.specs.declared.Refusal.{Refusal}
use Rattle.base_search.specs.Checks.{refusal}
use Rattle.model.specs.declared.Signal.{Signal}
use Rattle.base_laws.specs.Test.{◌and◌}
use Rattle.network_tables.specs.Fields.{signal_at}
use Rattle.sheet_lines.specs.Reading.{line_in}
use Rattle.plan_steps.specs.declared.Lines.{Lines}
use Rattle.model_sheet.specs.Pass.{earlier, least_line, least_item, told_run, pass_verdict}
use Rattle.sheet_check.specs.declared.Watch.{Watch}
use Rattle.sheet_check.specs.declared.Pass.{Pass}
use Rattle.sheet_check.specs.Watch.{no_watch, watch_in, first_broken, watch_after, next_watch, duration_in, Watched}
use Rattle.std.specs.Prelude.{Ok, Err}

-- ---- one signal
module _ (w : Watch) (seconds lasts : ℕ) where
  pub broken-before : (w.broken ≡ 0 → ⊥) → w.broken ≡ first_broken w seconds lasts
  unfolding first_broken
  broken-before d = sym (rw (ne_eqb w.broken 0 d))

  pub broken-now : w.broken ≡ 0 → w.tested && not (eqb seconds lasts) ≡ true → w.line ≡ first_broken w seconds lasts
  unfolding first_broken ◌and◌
  broken-now e t = sym (rw (eq-eqb w.broken 0 e, t))

  pub broken-not : w.broken ≡ 0 → w.tested && not (eqb seconds lasts) ≡ false → 0 ≡ first_broken w seconds lasts
  unfolding first_broken ◌and◌
  broken-not e t = sym (rw (eq-eqb w.broken 0 e, t))

module _ (w : Watch) (s : Signal) (q line t lasts : ℕ) where
  pub watch-same : q ≡ s.shown → record { tested = w.tested; line = line; broken = w.broken } ≡ watch_after w s q line t lasts
  unfolding watch_after
  watch-same e = sym (rw (eq-eqb q s.shown e))

  pub watch-other : {broken : ℕ} → (q ≡ s.shown → ⊥) → broken ≡ first_broken w s.shown_for lasts
      → record { tested = leb s.greatest_cycle t; line = line; broken = broken } ≡ watch_after w s q line t lasts
  unfolding watch_after
  watch-other d e = rw e (sym (rw (ne_eqb q s.shown d)))

  pub watch-on : (asked : ℕ) → asked ≡ 0 → (r : Watch) → r ≡ watch_after w s q line t lasts → r ≡ next_watch w asked s q line t lasts
  unfolding next_watch
  watch-on asked e r h = h ∙ sym (rw e)

  watch-still : (asked : ℕ) → (asked ≡ 0 → ⊥) → w ≡ next_watch w asked s q line t lasts
  unfolding next_watch
  watch-still asked d = sym (rw (ne_eqb asked 0 d))

-- ---- all signals
pub watched-none : {pass : Pass} {signals : List Signal} {said : Lines} {table : List (List ℕ)} → Watched pass signals 0 said table pass
watched-none = record { size = refl; on = λ r l. absurd (omega arith); kept = λ r l. refl; same = refl }

module _ {pass after : Pass} {signals : List Signal} {said : Lines} {table : List (List ℕ)} {i : ℕ} (a : Watched pass signals i said table after) where
  -- the watch of signal i is a step on once it is so in the table
  more : {next : Pass} → next ≡ record after { watches = next.watches } → length next.watches ≡ length after.watches
      → ((r : ℕ) → r < i → watch_in next.watches r ≡ watch_in after.watches r) → ((r : ℕ) → i + 1 ≤ r → watch_in next.watches r ≡ watch_in after.watches r)
      → watch_in next.watches i ≡ next_watch (watch_in pass.watches i) (get_or said.asked i 0) (signal_at signals i) (get_or said.phases i 0) (pass.place.boundary + 1) pass.time (duration_in (line_in table i) (signal_at signals i))
      → Watched pass signals (i + 1) said table next
  more {next} s l below above here =
      record {
        size = l ∙ a.size;
        on = λ r u. below_more
            (λ r. watch_in next.watches r
            ≡ next_watch (watch_in pass.watches r) (get_or said.asked r 0) (signal_at signals r) (get_or said.phases r 0) (pass.place.boundary + 1) pass.time (duration_in (line_in table r) (signal_at signals r))) i
            (λ r v. below r v ∙ a.on r v) here r (omega arith);
        kept = λ r u. above r u ∙ a.kept r (omega arith);
        same = s ∙ ap (λ (p : Pass). record p { watches = next.watches }) a.same;
      }

  pub watched-more : i < length pass.watches → {w : Watch}
      → w ≡ watch_after (watch_in after.watches i) (signal_at signals i) (get_or said.phases i 0) (pass.place.boundary + 1) pass.time (duration_in (line_in table i) (signal_at signals i)) → get_or said.asked i 0 ≡ 0
      → Watched pass signals (i + 1) said table (record after { watches = set after.watches i w })
  watched-more h {w} e z =
      more refl (length-set after.watches i w) (λ r v. get_or-set_other after.watches i r w no_watch (λ x. omega arith)) (λ r u. get_or-set_other after.watches i r w no_watch (λ x. omega arith))
      (get_or-set_same after.watches i w no_watch (omega (arith, a.size)) ∙ watch-on (watch_in after.watches i) _ _ _ _ _ _ z w e
      ∙ ap (λ x. next_watch x (get_or said.asked i 0) (signal_at signals i) (get_or said.phases i 0) (pass.place.boundary + 1) pass.time (duration_in (line_in table i) (signal_at signals i))) (a.kept i (le_refl i)))

  pub watched-still : (get_or said.asked i 0 ≡ 0 → ⊥) → Watched pass signals (i + 1) said table after
  watched-still d = more refl refl (λ r v. refl) (λ r u. refl) (a.kept i (le_refl i) ∙ watch-still _ _ _ _ _ _ _ d)

-- ---- the least of the lines that were found
pub record Found (f : ℕ → ℕ) (count line item i : ℕ) : Type 0 where
  pub few : i ≤ count
  pub line-is : line ≡ least_line f i
  pub item-is : item ≡ least_item f i
  pub item-small : item ≤ i

pub found_none : {f : ℕ → ℕ} {count : ℕ} → Found f count 0 0 0
unfolding least_line least_item
found_none = record { few = omega arith; line-is = refl; item-is = refl; item-small = omega arith }

module _ {f : ℕ → ℕ} {count line item i : ℕ} (inv : Found f count line item i) where
  found-more : i < count → {b : Bool} → b ≡ earlier (f i) line → {x y : ℕ} → x ≡ cond b (f i) line → y ≡ cond b (i + 1) item → y ≤ i + 1 → Found f count x y (i + 1)
  unfolding least_line least_item
  found-more h e p q u =
      record {
        few = omega arith;
        line-is = p ∙ rw (e, inv.line-is, add-one);
        item-is = q ∙ rw (e, inv.line-is, inv.item-is, add-one);
        item-small = u;
      }

  pub found-earlier : i < count → {b : Bool} → b ≡ earlier (f i) line → b ≡ true → {x y : ℕ} → x ≡ f i → y ≡ i + 1 → Found f count x y (i + 1)
  found-earlier h e t p q = found-more h {b = true} (sym t ∙ e) p q (omega arith)

  pub found-later : i < count → {b : Bool} → b ≡ earlier (f i) line → b ≡ false → {x y : ℕ} → x ≡ line → y ≡ item → Found f count x y (i + 1)
  found-later h e t p q = found-more h {b = false} (sym t ∙ e) p q (omega (arith, inv.item-small))

  module _ (h : count ≤ i) where
    all-line : line ≡ least_line f count
    all-line = let z : i ≡ count = omega (arith, inv.few) in rw z at inv.line-is

    all-item : item ≡ least_item f count
    all-item = let z : i ≡ count = omega (arith, inv.few) in rw z at inv.item-is

    pub found_nothing : line ≡ 0 → (Ok tt) ≡ pass_verdict f count
    unfolding pass_verdict told_run
    found_nothing e = sym (rw (eq-eqb (least_line f count) 0 (sym all-line ∙ e)))

    pub found-told : (line ≡ 0 → ⊥) → {q : Refusal} → q ≡ refusal 34 line item → Err q ≡ pass_verdict f count
    unfolding pass_verdict told_run
    found-told d e = rw (e, all-line, all-item) (sym (rw (ne_eqb (least_line f count) 0 (λ z. d (all-line ∙ z)))))
