-- Rules 16 to 18 at one step, as tests of the program's tables: those of the step, and the rows before and after it. Links and movements are counted from 0, a movement's links from 1.
use Rattle.std.specs.Prelude.{◌≡◌, Bool, true, cond, List, ℕ, ◌+◌, ◌*◌, ◌-◌, ◌≤◌, ◌<◌, leb, ltb, eqb, length}
use Rattle.network_tables.specs.declared.Counts.{Counts}
use Rattle.network_tables.specs.Fields.{row_size, capacity_in, travel_time_in, link_in, share_in, moved_in, entered_in, left_in, entered_at}
use Rattle.step_arrivals.specs.Arrivals.{seconds_in, elapsed_in, scaled_in}
use Rattle.step_past.specs.Curves.{arrival_at}
use Rattle.step_rows.specs.declared.Step.{Step}
use Rattle.step_rows.specs.Rows.{moved_by, next_left}
use Rattle.step_rows.specs.Step.{ArrivalTables}
use Rattle.step_sums.specs.declared.SumRule.{SumRule}
use Rattle.step_sums.specs.declared.SumRule.TheVariants.{Share, Arrivals, Capacity}

-- 16, movement j: 1000 × the movement is at most its share × the sum of all movements from its link
unfoldable pub keeps_share : Step → ℕ → Bool
keeps_share step j =
    leb (1000 * moved_in step.counts step.plan_line.now j)
    (share_in step.movements.now j * moved_by step.counts step.plan_line.now step.movements.now 0 step.counts.movements (link_in step.movements.now 0 j - 1))

-- entered of link i at the start of the step of the timeline in which its travel time ends: of a past one as it arrived, of a later one by the ledger
unfoldable pub entered_before : Step → ℕ → ℕ
entered_before step i =
    let arrival = arrival_at step.arrivals.now i in
    cond (ltb arrival.step step.counts.past) arrival.start (entered_at step.ledger.now step.counts.links (arrival.step - step.counts.past) i)

-- and at its end: by the row after the step that is judged, where it is that step
unfoldable pub entered_after : Step → List ℕ → ℕ → ℕ
entered_after step row i =
    let arrival = arrival_at step.arrivals.now i in
    let boundary = arrival.step - step.counts.past in
    cond (ltb arrival.step step.counts.past) arrival.stop
    (cond (eqb boundary step.boundary) (entered_in row i) (entered_at step.ledger.now step.counts.links (boundary + 1) i))

-- 17, link i: what has left it by the boundary after the step is at most what has arrived, both × the length of the step in which the travel time ends
unfoldable pub leaves_arrived : Step → List ℕ → ℕ → Bool
leaves_arrived step row i =
    let last = (arrival_at step.arrivals.now i).step in
    let elapsed = elapsed_in step.times.now last (step.counts.past + step.boundary + 1) (travel_time_in step.links.now i) in
    leb (left_in row i * seconds_in step.times.now last) (scaled_in (entered_before step i) (entered_after step row i) (seconds_in step.times.now last) elapsed)

-- 18, link i: entered after the step − left before it ≤ capacity
unfoldable pub fits_capacity : Step → List ℕ → List ℕ → ℕ → Bool
fits_capacity step previous row i = leb (entered_in row i - left_in previous i) (capacity_in step.links.now i)

-- the number of a rule, to how many items it is put, and whether it holds of one
abbrev pub sum_rule_number : SumRule → ℕ
sum_rule_number Share = 16
sum_rule_number Arrivals = 17
sum_rule_number Capacity = 18

abbrev pub sum_items : Counts → SumRule → ℕ
sum_items counts Share = counts.movements
sum_items counts Arrivals = counts.links
sum_items counts Capacity = counts.links

unfoldable pub sum_rule_holds : Step → List ℕ → List ℕ → SumRule → ℕ → Bool
sum_rule_holds step previous row Share item = keeps_share step item
sum_rule_holds step previous row Arrivals item = leaves_arrived step row item
sum_rule_holds step previous row Capacity item = fits_capacity step previous row item

-- the first n movements keep 16
abbrev pub SharesKept : Step → ℕ → Type 0
SharesKept step n = (j : ℕ) → j < n → keeps_share step j ≡ true

-- the first n links keep 17 and 18
abbrev pub LinkSumsKept : Step → List ℕ → List ℕ → ℕ → Type 0
LinkSumsKept step previous row n = (i : ℕ) → i < n → (leaves_arrived step row i ≡ true) × (fits_capacity step previous row i ≡ true)

-- rules 16 to 18 are kept
pub record SumsKept (step : Step) (previous row : List ℕ) : Type 0 where
  pub of-movements : SharesKept step step.counts.movements
  pub of-links : LinkSumsKept step previous row step.counts.links

-- what these read: the tables of what has arrived, and the rows, where left in the row is what the
-- line makes of the row before
pub record SumRows (step : Step) (previous row : List ℕ) : Type 0 where
  pub arrival-tables : ArrivalTables step
  pub previous-size : 2 * step.counts.links ≤ length previous
  pub row-size : length row ≡ row_size
  pub left-made : (i : ℕ) → i < step.counts.links → left_in row i ≡ next_left step.counts step.plan_line.now step.movements.now previous i
