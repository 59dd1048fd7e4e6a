-- `plancheck_c::plancheck_plan_from_listing` meets its contract.
use Rattle.base_laws.proofs.Kit.{ℕ, List, ◌≡◌, ap, ◌∙◌}
use Rattle.text_reader.specs.Lines.{Line}
use Rattle.listing_lines.specs.Entry.{Entry}
use Rattle.listing_call.specs.ReadsBack.{PlanGot}
use Rattle.plancheck_c.specs.declared.TextResult.{TextResult}
use Rattle.plancheck_c.specs.Results.{text_result, text_answer_of}
use Rattle.plancheck_c.proofs.Numbers.{listing-tells}
use Rattle.plancheck_c.proofs.Read.{read-as, text-back}
use Rattle.plancheck_c.proofs.plancheck_plan_from_listing.Goals as goal
use Rattle.std.specs.Prelude.{Result}
use Rattle.base_search.specs.declared.Refusal.{Refusal}

-- what is promised of an answer is promised of the answer that its result is read as
module _ (a : Result ℕ Refusal) (r : TextResult) (is : r ≡ text_result a) where
  promised : {network : List Line} {listing : List Entry} {old new : List ℕ} → PlanGot network listing old a new → PlanGot network listing old (text_answer_of r) new
  promised {network} {listing} {old} {new} g = read-as text_answer_of (λ (x : Result ℕ Refusal). PlanGot network listing old x new) is (text-back a g.refused-number) g

pub returns : goal.returns
returns c =
    let e = c.plan_from_listing.ensures in
    let is = c.into.ensures in
    let told = is ∙ ap text_result e.plan_got.told in record { value = told; plan_got = promised _ _ is e.plan_got; number_tells = listing-tells _ _ _ told; padding_ignored = λ padded same. promised _ _ is (e.padding_ignored padded same) }
