-- `plancheck_c::plancheck_check_sheet` meets its contract.
use Rattle.base_laws.proofs.Kit.{ℕ, List, ◌≡◌, ap, ◌∙◌}
use Rattle.model_sheet.specs.Promises.{SheetPromises}
use Rattle.plancheck_c.specs.Results.{plan_result, plan_answer_of}
use Rattle.plancheck_c.proofs.Numbers.{sheet-tells}
use Rattle.plancheck_c.proofs.Read.{read-as, plan-back}
use Rattle.plancheck_c.specs.declared.PlanResult.{PlanResult}
use Rattle.text_reader.specs.Lines.{Line}
use Rattle.plancheck_c.proofs.plancheck_check_sheet.Goals as goal
use Rattle.std.specs.Prelude.{Result}
use Rattle.base_search.specs.declared.Refusal.{Refusal}
use Rattle.model.specs.declared.Totals.{Totals}

-- what is promised of an answer is promised of the answer that its result is read as
module _ (a : Result Totals Refusal) (r : PlanResult) (is : r ≡ plan_result a) where
  promised : {network sheet plan : List Line} {before after : List ℕ} → SheetPromises network sheet plan before after a → SheetPromises network sheet plan before after (plan_answer_of r)
  promised {network} {sheet} {plan} {before} {after} g = read-as plan_answer_of (λ (x : Result Totals Refusal). SheetPromises network sheet plan before after x) is (plan-back a g.refused-number) g

pub returns : goal.returns
returns c =
    let e = c.check_sheet.ensures in
    let is = c.into.ensures in
    let told = is ∙ ap plan_result e.sheet_promises.told in record { value = told; sheet_promises = promised _ _ is e.sheet_promises; number_tells = sheet-tells _ _ _ _ told; padding_ignored = λ padded_network n padded_plan p padded_sheet s. promised _ _ is (e.padding_ignored padded_network n padded_plan p padded_sheet s) }
