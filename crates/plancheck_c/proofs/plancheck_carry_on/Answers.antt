-- `plancheck_c::plancheck_carry_on` meets its contract.
use Rattle.base_laws.proofs.Kit.{ℕ, List, ◌≡◌, ap, ◌∙◌}
use Rattle.base_search.specs.declared.Refusal.{Refusal}
use Rattle.base_search.specs.Numbers.{CanArise}
use Rattle.text_reader.specs.Lines.{Line}
use Rattle.model_carry.specs.Call.{carry_numbers}
use Rattle.model_carry.specs.CarriesOn.{CarriedOn}
use Rattle.carry.specs.Carrying.{CarryGot}
use Rattle.plancheck_c.specs.declared.TextResult.{TextResult}
use Rattle.plancheck_c.specs.Results.{text_result, text_answer_of}
use Rattle.plancheck_c.proofs.Numbers.{carry-tells}
use Rattle.plancheck_c.proofs.Read.{read-as, text-back}
use Rattle.plancheck_c.proofs.plancheck_carry_on.Goals as goal
use Rattle.std.specs.Prelude.{Result, Err}

-- what is promised of an answer is promised of the answer that its result is read as
module _ (a : Result ℕ Refusal) (r : TextResult) (is : r ≡ text_result a) {b : ℕ} {ledger ledger_after buffer buffer_after : List ℕ} where
  promised : {network plan : List Line} → CarriedOn network plan b ledger ledger_after buffer buffer_after a → CarriedOn network plan b ledger ledger_after buffer buffer_after (text_answer_of r)
  promised {network} {plan} g = read-as text_answer_of (λ (x : Result ℕ Refusal). CarriedOn network plan b ledger ledger_after buffer buffer_after x) is (text-back a g.refused-number) g

  got : {network plan : List ℕ} → ((q : Refusal) → a ≡ Err q → CanArise carry_numbers q.number) → CarryGot network plan b ledger ledger_after buffer buffer_after a
      → CarryGot network plan b ledger ledger_after buffer buffer_after (text_answer_of r)
  got {network} {plan} h g = read-as text_answer_of (λ (x : Result ℕ Refusal). CarryGot network plan b ledger ledger_after buffer buffer_after x) is (text-back a h) g

pub returns : goal.returns
returns c =
    let e = c.carry_on.ensures in
    let is = c.into.ensures in
    let told = is ∙ ap text_result e.carried_on.told in
    let numbers = e.carried_on.refused-number in record { value = told; carried_on = promised _ _ is e.carried_on; number_tells = carry-tells _ _ _ _ _ told; padding_ignored = λ padded_network n padded_plan p. got _ _ is numbers (e.padding_ignored padded_network n padded_plan p) }
