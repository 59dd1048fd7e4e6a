-- The number of each result says what a C caller reads off it.
use Rattle.base_laws.proofs.Kit.{ℕ, ◌≡◌, refl, sym, ap, ◌∙◌, List, arith}
use lib.Ieee.{Float}
use Rattle.base_search.specs.declared.Refusal.{Refusal}
use Rattle.base_search.specs.Checks.{Checks, ◌then◌, or_else, verdict, Verdict}
use Rattle.base_search.specs.Numbers.{is_one_of}
use Rattle.base_search.proofs.Laws.{or-else-refused, hold-of-passes, passes-of-hold}
use Rattle.base_search.proofs.Numbers.{Numbered, refused-number}
use Rattle.text_reader.specs.Lines.{Line}
use Rattle.model.specs.Table.{network_checks, plan_checks}
use Rattle.model.specs.Calls.{check_network, plan_answer, check_plan, state_checks, link_answer, link_state}
use Rattle.model.specs.Guarantees.{network_numbers, state_numbers, plan_numbers}
use Rattle.model.proofs.Numbers.{network-numbered, plan-numbered, state-numbered}
use Rattle.network.specs.Counting.{counts_answer, count_network}
use Rattle.model_text.specs.Answers.{text_answer}
use Rattle.listing_lines.specs.Entry.{Entry}
use Rattle.listing_call.specs.Listing.{listing_numbers, write_checks as listing_checks, plan_from_listing}
use Rattle.listing_call.proofs.Call.{write-numbered as listing-numbered}
use Rattle.model_carry.specs.Call.{carry_numbers, carry_checks, carry_on}
use Rattle.model_carry.proofs.Promises.{carry-numbered}
use Rattle.model_sheet.specs.Cycle.{write_checks}
use Rattle.model_sheet.specs.Calls.{sheet_numbers, sheet_plan_numbers, keep_checks, check_sheet, plan_from_sheet}
use Rattle.model_sheet.proofs.Promises.{keep-numbered, write-numbered}
use Rattle.plan_compare.specs.declared.Order.{Order}
use Rattle.plan_compare.specs.Comparison.{order, plans_answer, network_answer, compare_plans}
use Rattle.model_split.specs.declared.Lengths.{Lengths}
use Rattle.model_split.specs.Call.{split_numbers, split_checks, split_answer, split_network}
use Rattle.model_split.proofs.Promises.{split-numbered}
use Rattle.cells_lines.specs.Corridor.{corridor_checks}
use Rattle.cells_call.specs.Call.{cells_numbers, answer_of, run_cells}
use Rattle.cells_call.proofs.Guarantees.{corridor-numbered}
use Rattle.traces.specs.Call.{step_checks, vehicles_numbers, step_vehicles}
use Rattle.plancheck_c.specs.declared.NetworkResult.{NetworkResult}
use Rattle.plancheck_c.specs.declared.CountsResult.{CountsResult}
use Rattle.plancheck_c.specs.declared.PlanResult.{PlanResult}
use Rattle.plancheck_c.specs.declared.LinkResult.{LinkResult}
use Rattle.plancheck_c.specs.declared.TextResult.{TextResult}
use Rattle.plancheck_c.specs.declared.CellsResult.{CellsResult}
use Rattle.plancheck_c.specs.declared.ComparisonResult.{ComparisonResult}
use Rattle.plancheck_c.specs.declared.SplitResult.{SplitResult}
use Rattle.plancheck_c.specs.Results.{NumberTells, verdict_result, counts_result, plan_result, link_result, text_result, comparison_result, split_result, cells_result}
use Rattle.std.specs.Prelude.{Ok, Err}

-- the number of a verdict
abbrev pub number_of : Verdict → ℕ
number_of v = (verdict_result v).number

module _ (checks : Checks) (numbers : List ℕ) {number : ℕ} where
  tells : Numbered numbers checks → number ≡ number_of (verdict checks) → NumberTells checks numbers number
  tells numbered told = go (verdict checks) refl told
    where
      go : (v : Verdict) → verdict checks ≡ v → number ≡ number_of v → NumberTells checks numbers number
      go (Ok tt) v e = record { zero-holds = λ z. hold-of-passes checks v; holds-zero = λ h. e; arises = λ n. absurd (n e) }
      go (Err r) v e =
          let a = refused-number numbers checks r numbered v in
          record {
            zero-holds = λ z. absurd (omega (arith, a.not-0));
            holds-zero = λ h. (let p : (Ok tt) ≡ Err r = sym (passes-of-hold checks h) ∙ v in cc);
            arises = λ n. rw e a;
          }

-- ---- a network, its counts, the state of a link
pub network-tells : (network : List Line) {r : NetworkResult} → r ≡ verdict_result (check_network network) → NumberTells (network_checks network) network_numbers r.number
unfolding check_network
network-tells network e = tells _ network_numbers (network-numbered network) (ap (λ (x : NetworkResult). x.number) e)

counts-told : (network : List Line) (v : Verdict) → (counts_result (counts_answer network v)).number ≡ number_of v
unfolding counts_answer
counts-told network (Ok tt) = refl
counts-told network (Err r) = refl

pub counts-tells : (network : List Line) {r : CountsResult} → r ≡ counts_result (count_network network) → NumberTells (network_checks network) network_numbers r.number
unfolding count_network check_network
counts-tells network e = tells _ network_numbers (network-numbered network) (ap (λ (x : CountsResult). x.number) e ∙ counts-told network _)

module _ (network : List Line) (ledger : List ℕ) (boundary link : ℕ) where
  link-told : (v : Verdict) → (link_result (link_answer network ledger boundary link v)).number ≡ number_of v
  unfolding link_answer
  link-told (Ok tt) = refl
  link-told (Err r) = refl

  pub link-tells : {r : LinkResult} → r ≡ link_result (link_state network ledger boundary link) → NumberTells (state_checks network ledger boundary link) state_numbers r.number
  unfolding link_state
  link-tells e = tells _ state_numbers (state-numbered network ledger boundary link) (ap (λ (x : LinkResult). x.number) e ∙ link-told _)

-- ---- a plan, alone, by a sheet, and beside another
module _ (network plan : List Line) where
  plan-told : (v : Verdict) → (plan_result (plan_answer network plan v)).number ≡ number_of v
  unfolding plan_answer
  plan-told (Ok tt) = refl
  plan-told (Err r) = refl

  pub plan-tells : (size : ℕ) {r : PlanResult} → r ≡ plan_result (check_plan network plan size) → NumberTells (plan_checks network plan size) plan_numbers r.number
  unfolding check_plan
  plan-tells size e = tells _ plan_numbers (plan-numbered network plan size) (ap (λ (x : PlanResult). x.number) e ∙ plan-told _)

  pub sheet-tells : (sheet : List Line) (size : ℕ) {r : PlanResult} → r ≡ plan_result (check_sheet network sheet plan size)
      → NumberTells (keep_checks network sheet plan size) sheet_numbers r.number
  unfolding check_sheet
  sheet-tells sheet size e = tells _ sheet_numbers (keep-numbered network sheet plan size) (ap (λ (x : PlanResult). x.number) e ∙ plan-told _)

module _ (network first second : List Line) where
  plans-told : (o : Order) (v w : Verdict) → (comparison_result (plans_answer o (plan_answer network first v) (plan_answer network second w))).number ≡ number_of (or_else v w)
  unfolding plans_answer plan_answer or_else
  plans-told o (Ok _) (Ok _) = refl
  plans-told o (Ok _) (Err r) = refl
  plans-told o (Err r) w = refl

  module _ (first_size second_size : ℕ) where
    -- a network's refusal is that of the first plan
    refused-first : (r : Refusal) → verdict (network_checks network) ≡ Err r → verdict (plan_checks network first first_size) ≡ Err r
    unfolding plan_checks verdict
    refused-first r e = or-else-refused _ _ r e

    by-network : (o : Order) (u v w : Verdict) → ((r : Refusal) → u ≡ Err r → v ≡ Err r)
        → (comparison_result (network_answer u (plans_answer o (plan_answer network first v) (plan_answer network second w)))).number ≡ number_of (or_else v w)
    unfolding network_answer or_else
    by-network o (Ok tt) v w h = plans-told o v w
    by-network o (Err r) v w h = rw (h r refl)

    compared-told : (comparison_result (compare_plans network first second first_size second_size)).number ≡ number_of (verdict (plan_checks network first first_size then plan_checks network second second_size))
    unfolding compare_plans check_network check_plan verdict
    compared-told = by-network (order network first second) _ _ _ refused-first

    pub compared-tells : {r : ComparisonResult} → r ≡ comparison_result (compare_plans network first second first_size second_size)
        → NumberTells (plan_checks network first first_size then plan_checks network second second_size) plan_numbers r.number
    compared-tells e =
        tells _ plan_numbers (unfold Numbered in (plan-numbered network first first_size, plan-numbered network second second_size))
        (ap (λ (x : ComparisonResult). x.number) e ∙ compared-told)

-- ---- calls that write a text
text-told : (text : List ℕ) (v : Verdict) → (text_result (text_answer text v)).number ≡ number_of v
unfolding text_answer
text-told text (Ok tt) = refl
text-told text (Err r) = refl

pub sheet-plan-tells : (network sheet : List Line) (size : ℕ) {r : TextResult} → r ≡ text_result (plan_from_sheet network sheet size)
    → NumberTells (write_checks network sheet size) sheet_plan_numbers r.number
unfolding plan_from_sheet
sheet-plan-tells network sheet size e = tells _ sheet_plan_numbers (write-numbered network sheet size) (ap (λ (x : TextResult). x.number) e ∙ text-told _ _)

pub listing-tells : (network : List Line) (listing : List Entry) (size : ℕ) {r : TextResult} → r ≡ text_result (plan_from_listing network listing size)
    → NumberTells (listing_checks network listing size) listing_numbers r.number
unfolding plan_from_listing
listing-tells network listing size e = tells _ listing_numbers (listing-numbered network listing size) (ap (λ (x : TextResult). x.number) e ∙ text-told _ _)

pub carry-tells : (network plan : List Line) (b size room : ℕ) {r : TextResult} → r ≡ text_result (carry_on network plan b size room)
    → NumberTells (carry_checks network plan b size room) carry_numbers r.number
unfolding carry_on
carry-tells network plan b size room e = tells _ carry_numbers (carry-numbered network plan b size room) (ap (λ (x : TextResult). x.number) e ∙ text-told _ _)

pub split-tells : (network plan : List Line) (set : ℕ) (room : Lengths) {r : SplitResult} → r ≡ split_result (split_network network plan set room)
    → NumberTells (split_checks network plan set room) split_numbers r.number
unfolding split_network
split-tells network plan set room e = tells _ split_numbers (split-numbered network plan set room) (ap (λ (x : SplitResult). x.number) e ∙ number _)
  where
    number : (v : Verdict) → (split_result (split_answer network plan set v)).number ≡ number_of v
    number (Ok tt) = unfold split_answer in refl
    number (Err r) = unfold split_answer in refl

-- ---- cells and vehicles
pub cells-tells : (text : List Line) (volumes : List ℕ) {r : CellsResult} → r ≡ cells_result (run_cells text) volumes → NumberTells (corridor_checks text) cells_numbers r.number
unfolding run_cells
cells-tells text volumes e = tells _ cells_numbers (corridor-numbered text) (ap (λ (x : CellsResult). x.number) e ∙ number _)
  where
    number : (v : Verdict) → (cells_result (answer_of v text) volumes).number ≡ number_of v
    number (Ok tt) = unfold answer_of in refl
    number (Err r) = unfold answer_of in refl

pub vehicles-tells : (places advances lines : List Float) (spacing : Float) {r : NetworkResult} → r ≡ verdict_result (step_vehicles places advances lines spacing)
    → NumberTells (step_checks places advances lines spacing) vehicles_numbers r.number
unfolding step_vehicles
vehicles-tells places advances lines spacing e = tells _ vehicles_numbers numbered (ap (λ (x : NetworkResult). x.number) e)
  where
    numbered : Numbered vehicles_numbers (step_checks places advances lines spacing)
    numbered = unfold Numbered is_one_of step_checks in (refl, refl)
