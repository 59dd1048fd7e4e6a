-- The thirteen rules by their families.
use Rattle.base_laws.proofs.Kit.{ℕ, zero, suc, ◌+◌, ◌-◌, ◌≤◌, ◌<◌, ◌≡◌, refl, ap, ◌∙◌, Bool, true, false, List, [], ◌∷◌, dec_le, arith, length, get_or, take, get_or-take}
use Rattle.std.specs.Prelude.{map, Ok}
use Rattle.std.specs.List.{list_all}
use Rattle.std.proofs.lemmas.List.{get_or-map}
use Rattle.std.proofs.lemmas.List.Folds.{list_all_at}
use Rattle.base_search.specs.Checks.{rule_at, no_rule, verdict, table}
use Rattle.base_search.proofs.Laws.{passes-of-hold}
use Rattle.base_search.proofs.Table.{Kept, RulesKept, AllKept, kept-hold}
use Rattle.network_tables.specs.Fields.{length_in}
use Rattle.step_signals.specs.declared.SignalRule.TheVariants.{OnePhase}
use Rattle.step_signals.specs.Rules.{SignalRulesKept}
use Rattle.step_rows.specs.declared.Step.{Step}
use Rattle.step_rows.specs.Rows.{next_row, Fits}
use Rattle.step_rows.specs.Step.{ArrivalTables}
use Rattle.step_rows.proofs.Lists.{begun-length}
use Rattle.step_rows.proofs.Next.{next-left-at}
use Rattle.step_limits.specs.declared.LimitRule.TheVariants.{Offer, ExitRate, MovementRate, OpenLink}
use Rattle.step_limits.specs.Limits.{limit_rule_holds, LimitsKept}
use Rattle.step_sums.specs.declared.SumRule.{SumRule}
use Rattle.step_sums.specs.declared.SumRule.TheVariants.{Share, Arrivals, Capacity}
use Rattle.step_sums.specs.Sums.{sum_rule_holds, SumRows, SumsKept}
use Rattle.step_check.specs.declared.Rule.{Rule}
use Rattle.step_check.specs.declared.Rule.TheVariants.{Signal, Limit, Sum}
use Rattle.step_check.specs.Step.{rules, first_sum, made_row, rule_holds, rule_in, rules_in}

-- ---- the rules by their places: the first ten read no sums, and the row is formed for the next alone
abbrev pub rule_of : ℕ → Rule
rule_of k = get_or rules k (Signal OnePhase)

reads_no_sum : Rule → Bool
reads_no_sum (Signal rule) = true
reads_no_sum (Limit rule) = true
reads_no_sum (Sum rule) = false

pub sum-place : (k : ℕ) (sum : SumRule) → rule_of k ≡ Sum sum → 10 ≤ k
unfolding reads_no_sum
sum-place k sum e = elim (dec_le 10 k) [
  | yes h ↦ h
  | no h ↦
      let l : k < 10 = omega arith in
      let none : list_all reads_no_sum (take 10 rules) ≡ false = list_all_at reads_no_sum (take 10 rules) k (Signal OnePhase) l (ap reads_no_sum (get_or-take 10 rules k (Signal OnePhase) l ∙ e)) in
      cc
]

later : (j : ℕ) → j < 2 → rule_of (11 + j) ≡ first_sum → ⊥
later zero h e = cc
later (suc zero) h e = cc
later (suc (suc j)) h e = absurd (omega arith)

pub formed-once : (k : ℕ) → 10 < k → k < 13 → rule_of k ≡ first_sum → ⊥
formed-once k l h e = let at : 11 + (k - 11) ≡ k = omega arith in later (k - 11) (omega arith) (rw at e)

module _ (step : Step) (previous row : List ℕ) where
  -- the table by places
  pub rule-in-order : (k : ℕ) → k < 13 → rule_at (rules_in step previous row) k ≡ rule_in step previous row (rule_of k)
  unfolding rules_in
  rule-in-order k h = get_or-map (rule_in step previous row) rules k (Signal OnePhase) no_rule h

  pub rules-size : length (rules_in step previous row) ≡ 13
  unfolding rules_in
  rules-size = refl

  -- the rules before 16 don't read the row after the step
  pub other_row : {row' : List ℕ} (rule : Rule) (item : ℕ) → ((sum : SumRule) → rule ≡ Sum sum → row ≡ row') → rule_holds step previous row rule item ≡ rule_holds step previous row' rule item
  unfolding rule_holds
  other_row (Signal rule) item same = refl
  other_row (Limit rule) item same = refl
  other_row (Sum rule) item same = ap (λ r. sum_rule_holds step previous r rule item) (same rule refl)

  -- the limits stand at places 6 to 9
  pub limits-kept : RulesKept (rules_in step previous row) 10 → LimitsKept step
  unfolding rules_in rule_holds limit_rule_holds
  limits-kept w = record {
    of-links = λ i l. (w.kept 6 (omega arith) i l, w.kept 7 (omega arith) i l);
    of-movements = λ j l. (w.kept 8 (omega arith) j l, w.kept 9 (omega arith) j l);
  }

  -- all families are kept
  module _ (of_signals : SignalRulesKept step.signals.now step.counts.signals step.phases.now step.asked.now (length_in step.step_line.now)) (limits : LimitsKept step)
      (sums : SumsKept step previous row) where
    kept-each : (rule : Rule) → Kept (rule_in step previous row rule)
    unfolding rule_holds limit_rule_holds sum_rule_holds
    kept-each (Signal rule) i l = of_signals i l rule
    kept-each (Limit Offer) i l = (limits.of-links i l).0
    kept-each (Limit ExitRate) i l = (limits.of-links i l).1
    kept-each (Limit MovementRate) j l = (limits.of-movements j l).0
    kept-each (Limit OpenLink) j l = (limits.of-movements j l).1
    kept-each (Sum Share) j l = sums.of-movements j l
    kept-each (Sum Arrivals) i l = (sums.of-links i l).0
    kept-each (Sum Capacity) i l = (sums.of-links i l).1

    all-kept : (some : List Rule) → AllKept (map (rule_in step previous row) some)
    unfolding AllKept
    all-kept [] = refl
    all-kept (rule ∷ some) = (kept-each rule, all-kept some)

    pub all_pass : (line : ℕ) → verdict (table line (rules_in step previous row)) ≡ Ok tt
    unfolding rules_in
    all_pass line = passes-of-hold _ (kept-hold line _ (all-kept rules))

  -- the rows that the sums read, once the row after the step is formed
  pub rows-made : Fits step.counts step.plan_line.now step.movements.now previous row → ArrivalTables step
      → SumRows step previous (made_row step previous row)
  unfolding next_row
  rows-made fits tables =
      record {
        arrival-tables = tables;
        previous-size = fits.previous-size;
        row-size = begun-length _ _ row step.counts.links (omega (arith, fits.row-size, fits.few.links)) ∙ fits.row-size;
        left-made = next-left-at step.counts step.plan_line.now step.movements.now previous _ refl;
      }
