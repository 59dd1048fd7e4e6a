-- The search for the first broken rule, a turn at a time: the row after the step is formed at place 10, and every rule before a place is kept.
use Rattle.base_laws.proofs.Kit.{ℕ, ◌+◌, ◌≤◌, ◌<◌, ◌≡◌, sym, ap, ◌∙◌, Bool, true, false, not, List, dec_le, ℕ_discrete, arith, length}
use Rattle.base_search.specs.declared.Refusal.{Refusal}
use Rattle.base_search.specs.Checks.{refusal, Verdict}
use Rattle.base_search.proofs.Table.{RulesKept, ItemsKept, items-none, items_more, rules-more, items-broken, rules-all}
use Rattle.step_rows.specs.declared.Step.{Step}
use Rattle.step_rows.specs.Rows.{Fits}
use Rattle.step_limits.specs.Limits.{LimitsKept}
use Rattle.step_check.specs.Step.{first_sum, rule_number, rule_items, made_row, FormedFor, rule_holds, RuleRows, step_rules_in, JudgeAsked, StepJudged}
use Rattle.step_check.proofs.Pass.{made-same, made-rest}
use Rattle.step_check.proofs.Rules.{rule_of, sum-place, formed-once, other_row, rule-in-order, rules-size, limits-kept, rows-made}
use Rattle.std.specs.Prelude.{Ok, Err}

-- the row that was lent is the one after the step from place 10 on: before that turn, and in it
pub record RowBefore (step : Step) (previous row : List ℕ) (k : ℕ) (row' : List ℕ) : Type 0 where
  pub size : length row' ≡ length row
  pub early : k ≤ 10 → row' ≡ row
  pub late : 10 < k → row' ≡ made_row step previous row

pub record RowAt (step : Step) (previous row : List ℕ) (k : ℕ) (row' : List ℕ) : Type 0 where
  pub size : length row' ≡ length row
  pub early : k < 10 → row' ≡ row
  pub late : 10 ≤ k → row' ≡ made_row step previous row

module _ {step : Step} {previous row : List ℕ} where
  module _ {k : ℕ} {row' : List ℕ} where
    pub row-turn : {row'' : List ℕ} → RowBefore step previous row k row' → k < 13 → FormedFor (rule_of k) step previous row' row'' → length row'' ≡ length row' → RowAt step previous row k row''
    row-turn w l f same = record {
      size = same ∙ w.size;
      early = λ h. f.kept (λ e. let u = sum-place k _ e in absurd (omega arith)) ∙ w.early (omega arith);
      late = λ h. elim (ℕ_discrete k 10) [
        | yes e ↦ f.formed (ap rule_of e) ∙ ap (made_row step previous) (w.early (omega arith))
        | no d ↦ f.kept (formed-once k (omega arith) l) ∙ w.late (omega arith)
      ];
    }

    module _ (w : RowAt step previous row k row') where
      pub row_next : RowBefore step previous row (k + 1) row'
      row_next = record { size = w.size; early = λ h. w.early (omega arith); late = λ h. w.late (omega arith) }

      -- formed again it would be the same
      made_again : made_row step previous row' ≡ made_row step previous row
      made_again = elim (dec_le 10 k) [
        | yes h ↦ made-same step previous row row' (rw (w.late h) (made-rest step previous row))
        | no h ↦ ap (made_row step previous) (w.early (omega arith))
      ]

  module _ (given : JudgeAsked step previous row) {k : ℕ} (kept : RulesKept (step_rules_in step previous row) k) where
    kept-from : 10 ≤ k → LimitsKept step
    kept-from h = limits-kept step previous _ (record { kept = λ k l. kept.kept k (omega arith) })

    fits-from : 10 ≤ k → Fits step.counts step.plan_line.now step.movements.now previous row
    fits-from h = given.fits (kept-from h)

    -- the row can be formed
    pub fits-before-16 : {row' : List ℕ} → RowBefore step previous row k row' → rule_of k ≡ first_sum → k < 13 → Fits step.counts step.plan_line.now step.movements.now previous row'
    fits-before-16 w e l =
        let u : 10 ≤ k = sum-place k _ e in
        let v : k ≤ 10 = elim (dec_le k 10) [ yes h ↦ h | no h ↦ absurd (formed-once k (omega arith) l e) ] in
        rw (w.early v) (fits-from u)

    module _ {row' : List ℕ} (w : RowAt step previous row k row') where
      -- and what rule k reads is there
      pub rows-at : RuleRows step previous row' (rule_of k)
      rows-at = record {
        limited = given.limited;
        sum-rows = λ sum e. let u = sum-place k sum e in
            rw (w.late u) (rows-made step previous row (fits-from u) (given.arrival-tables (kept-from u)));
      }

      pub items-first : ItemsKept (step_rules_in step previous row') k 0
      items-first = rw (made_again w) (items-none kept)

  module _ {k : ℕ} {row' : List ℕ} (w : RowAt step previous row k row') (h : k < 13) {item : ℕ} (kept : ItemsKept (step_rules_in step previous row') k item) where
    -- the rule by the row as it is is that by the row after the step
    by-made : rule_holds step previous row' (rule_of k) item ≡ rule_holds step previous (made_row step previous row') (rule_of k) item
    by-made = other_row step previous row' (rule_of k) item (λ sum e. w.late (sum-place k sum e) ∙ sym (made_again w))

    pub item-kept : {r : Bool} → r ≡ rule_holds step previous row' (rule_of k) item → r ≡ true → ItemsKept (step_rules_in step previous row') k (item + 1)
    item-kept e t = items_more kept (rule-in-order step previous _ k h) (e ∙ by-made) (ap not t)

    pub rule-kept : rule_items step.counts (rule_of k) ≤ item → RulesKept (step_rules_in step previous row) (k + 1)
    rule-kept l = rw (made_again w) at (rules-more kept (rule-in-order step previous _ k h) l)

    pub broken-here : item < rule_items step.counts (rule_of k) → {r : Bool} → r ≡ rule_holds step previous row' (rule_of k) item → r ≡ false
        → {refused : Refusal} → refused ≡ refusal (rule_number (rule_of k)) (step.boundary + 1) (item + 1) → {after : List ℕ} → StepJudged step previous row (Err refused) after
    broken-here l e t is = record {
      told = ap Err is ∙ rw (made_again w) at (items-broken kept (rule-in-order step previous _ k h) (step.boundary + 1) (omega (arith, rules-size step previous (made_row step previous row'))) l (e ∙ by-made) (ap not t));
      made = λ p. cc;
    }

  pub none-broken : {k : ℕ} {row' : List ℕ} {found : Verdict} → 13 ≤ k → found ≡ Ok tt → RulesKept (step_rules_in step previous row) k → RowBefore step previous row k row'
      → StepJudged step previous row found row'
  none-broken h e kept w = record {
    told = e ∙ sym (rules-all (step.boundary + 1) kept (omega (arith, rules-size step previous (made_row step previous row))));
    made = λ p. w.late (omega arith);
  }
