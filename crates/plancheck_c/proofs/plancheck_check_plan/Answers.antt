-- `plancheck_c::plancheck_check_plan` meets its contract.
use Rattle.base_laws.proofs.Kit.{ℕ, List, ◌≡◌, ap, ◌∙◌}
use Rattle.model.specs.Guarantees.{plan_numbers, Promises}
use Rattle.model.specs.Hold.{EmptyHolds}
use Rattle.plancheck_c.specs.Results.{plan_result, plan_answer_of}
use Rattle.plancheck_c.proofs.Numbers.{plan-tells}
use Rattle.plancheck_c.proofs.Read.{read-as, plan-back}
use Rattle.plancheck_c.specs.declared.PlanResult.{PlanResult}
use Rattle.base_search.specs.declared.Refusal.{Refusal}
use Rattle.base_search.specs.Numbers.{CanArise}
use Rattle.text_reader.specs.Lines.{Line}
use Rattle.plancheck_c.proofs.plancheck_check_plan.Goals as goal
use Rattle.std.specs.Prelude.{Result, Err}
use Rattle.model.specs.declared.Totals.{Totals}

-- what is promised of an answer is promised of the answer that its result is read as
module _ (a : Result Totals Refusal) (r : PlanResult) (is : r ≡ plan_result a) {before after : List ℕ} where
  promised : {network plan : List Line} → Promises network plan before after a → Promises network plan before after (plan_answer_of r)
  promised {network} {plan} g = read-as plan_answer_of (λ (x : Result Totals Refusal). Promises network plan before after x) is (plan-back a g.refused-number) g

  empty : {network plan : List ℕ} → ((q : Refusal) → a ≡ Err q → CanArise plan_numbers q.number) → EmptyHolds network plan before after a → EmptyHolds network plan before after (plan_answer_of r)
  empty {network} {plan} h g = read-as plan_answer_of (λ (x : Result Totals Refusal). EmptyHolds network plan before after x) is (plan-back a h) g

pub returns : goal.returns
returns c =
    let e = c.check_plan.ensures in
    let is = c.into.ensures in
    let told = is ∙ ap plan_result e.value in
    let numbers = e.promises.refused-number in record { value = told; ledger_after = e.ledger_after; promises = promised _ _ is e.promises; empty_holds = empty _ _ is numbers e.empty_holds; number_tells = plan-tells _ _ _ told; padding_ignored = λ padded_network n padded_plan p. let got = e.padding_ignored padded_network n padded_plan p in (is ∙ ap plan_result got.answered, got.written-rows) }
