-- `plancheck_c::plancheck_plan_from_sheet` meets its contract.
use Rattle.base_laws.proofs.Kit.{ℕ, List, ◌≡◌, ap, ◌∙◌}
use Rattle.text_reader.specs.Lines.{Line}
use Rattle.model_sheet.specs.Promises.{WritePromises}
use Rattle.plancheck_c.specs.declared.TextResult.{TextResult}
use Rattle.plancheck_c.specs.Results.{text_result, text_answer_of}
use Rattle.plancheck_c.proofs.Numbers.{sheet-plan-tells}
use Rattle.plancheck_c.proofs.Read.{read-as, text-back}
use Rattle.plancheck_c.proofs.plancheck_plan_from_sheet.Goals as goal
use Rattle.std.specs.Prelude.{Result}
use Rattle.base_search.specs.declared.Refusal.{Refusal}

-- what is promised of an answer is promised of the answer that its result is read as
module _ (a : Result ℕ Refusal) (r : TextResult) (is : r ≡ text_result a) where
  promised : {network sheet : List Line} {old new : List ℕ} → WritePromises network sheet old a new → WritePromises network sheet old (text_answer_of r) new
  promised {network} {sheet} {old} {new} g = read-as text_answer_of (λ (x : Result ℕ Refusal). WritePromises network sheet old x new) is (text-back a g.refused-number) g

pub returns : goal.returns
returns c =
    let e = c.plan_from_sheet.ensures in
    let is = c.into.ensures in
    let told = is ∙ ap text_result e.write_promises.told in record { value = told; write_promises = promised _ _ is e.write_promises; number_tells = sheet-plan-tells _ _ _ told; padding_ignored = λ padded_network n padded_sheet s. promised _ _ is (e.padding_ignored padded_network n padded_sheet s) }
