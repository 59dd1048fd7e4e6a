-- The judgement of one step by the program's tables: the thirteen rules in their order, each over rising items.
use Rattle.std.specs.Prelude.{ℕ, ◌+◌, ◌*◌, ◌-◌, ◌≤◌, ◌≡◌, Bool, true, List, [], ◌∷◌, ◌++◌, length, take, drop, map, Ok}
use Rattle.base_search.specs.Checks as checks
use Rattle.base_search.specs.Checks.{verdict, table, Verdict}
use Rattle.network_tables.specs.declared.Counts.{Counts}
use Rattle.network_tables.specs.Fields.{length_in}
use Rattle.step_signals.specs.declared.SignalRule.TheVariants.{OnePhase, TramPhase, Order, LeastTime, GreatestTime, Cycle}
use Rattle.step_signals.specs.Rules.{signal_rule_number, signal_rule_holds}
use Rattle.step_rows.specs.declared.Step.{Step}
use Rattle.step_rows.specs.Rows.{next_row, Fits, RowAlone}
use Rattle.step_rows.specs.Step.{Limited, ArrivalTables}
use Rattle.step_limits.specs.declared.LimitRule.TheVariants.{Offer, ExitRate, MovementRate, OpenLink}
use Rattle.step_limits.specs.Limits.{limit_rule_number, limit_items, limit_rule_holds, LimitsKept}
use Rattle.step_sums.specs.declared.SumRule.{SumRule}
use Rattle.step_sums.specs.declared.SumRule.TheVariants.{Share, Arrivals, Capacity}
use Rattle.step_sums.specs.Sums.{sum_rule_number, sum_items, sum_rule_holds, SumRows}
use Rattle.step_check.specs.declared.Rule.{Rule}
use Rattle.step_check.specs.declared.Rule.TheVariants.{Signal, Limit, Sum}

-- the rules in their order, and the first for which the row after the step is formed
abbrev pub rules : List Rule
rules =
    Signal OnePhase ∷ Signal TramPhase ∷ Signal Order ∷ Signal LeastTime ∷ Signal GreatestTime ∷ Signal Cycle
    ∷ Limit Offer ∷ Limit ExitRate ∷ Limit MovementRate ∷ Limit OpenLink
    ∷ Sum Share ∷ Sum Arrivals ∷ Sum Capacity ∷ []

abbrev pub first_sum : Rule
first_sum = Sum Share

-- the number of a rule, and to how many items it is put
abbrev pub rule_number : Rule → ℕ
rule_number (Signal rule) = signal_rule_number rule
rule_number (Limit rule) = limit_rule_number rule
rule_number (Sum rule) = sum_rule_number rule

abbrev pub rule_items : Counts → Rule → ℕ
rule_items counts (Signal rule) = counts.signals
rule_items counts (Limit rule) = limit_items counts rule
rule_items counts (Sum rule) = sum_items counts rule

-- row n of the ledger, from its start on; and that before a step
abbrev pub row_from : Counts → List ℕ → ℕ → List ℕ
row_from counts ledger n = take (length ledger - 2 * n * counts.links) (drop (2 * n * counts.links) ledger)

abbrev pub row_before : Step → List ℕ
row_before step = row_from step.counts step.ledger.now step.boundary

-- the row after a step, in the front of a row that was lent
abbrev pub made_row : Step → List ℕ → List ℕ → List ℕ
made_row step previous row = next_row step.counts step.plan_line.now step.movements.now previous ++ drop (2 * step.counts.links) row

-- a row that is formed when the search comes to rule 16
pub record FormedFor (rule : Rule) (step : Step) (previous row after : List ℕ) : Type 0 where
  pub formed : rule ≡ first_sum → after ≡ made_row step previous row
  pub kept : (rule ≡ first_sum → ⊥) → after ≡ row

-- by the rows before and after the step: a rule holds of an item
unfoldable pub rule_holds : Step → List ℕ → List ℕ → Rule → ℕ → Bool
rule_holds step previous row (Signal rule) item = signal_rule_holds step.signals.now step.phases.now step.asked.now (length_in step.step_line.now) rule item
rule_holds step previous row (Limit rule) item = limit_rule_holds step rule item
rule_holds step previous row (Sum rule) item = sum_rule_holds step previous row rule item

abbrev pub rule_in : Step → List ℕ → List ℕ → Rule → checks.Rule
rule_in step previous row rule = record { number = rule_number rule; items = rule_items step.counts rule; holds = rule_holds step previous row rule }

-- the table of the rules; and with the row after the step
unfoldable pub rules_in : Step → List ℕ → List ℕ → List checks.Rule
rules_in step previous row = map (rule_in step previous row) rules

abbrev pub step_rules_in : Step → List ℕ → List ℕ → List checks.Rule
step_rules_in step previous row = rules_in step previous (made_row step previous row)

-- what a rule reads: the limits, tables that are limited, and the sums of 16 to 18 the rows, only
-- once the row after the step is formed
pub record RuleRows (step : Step) (previous row : List ℕ) (rule : Rule) : Type 0 where
  pub limited : Limited step
  pub sum-rows : (sum : SumRule) → rule ≡ Sum sum → SumRows step previous row

-- what the judgement of a step requires, by the row before it and a row that is lent: the ledger
-- has the rows before that at which the step begins; and once the limits of the volumes are kept,
-- the rows have their sizes, the sums fit, and the tables of what has arrived are there
pub record JudgeAsked (step : Step) (previous row : List ℕ) : Type 0 where
  pub limited : Limited step
  pub before : 2 * step.boundary * step.counts.links ≤ length step.ledger.now
  pub fits : LimitsKept step → Fits step.counts step.plan_line.now step.movements.now previous row
  pub arrival-tables : LimitsKept step → ArrivalTables step

-- .. and promises: the first broken rule; and where all are kept, the row after the step
pub record StepJudged (step : Step) (previous row : List ℕ) (result : Verdict) (after : List ℕ) : Type 0 where
  pub told : result ≡ verdict (table (step.boundary + 1) (step_rules_in step previous row))
  pub made : result ≡ Ok tt → after ≡ made_row step previous row

-- what a pass over all rules promises: if it says that they are kept, they are; and past the row nothing is written
pub record PassGot (step : Step) (previous row : List ℕ) (result : Bool) (after : List ℕ) : Type 0 where
  pub told : result ≡ true → StepJudged step previous row (Ok tt) after
  pub alone : RowAlone step.counts row after
