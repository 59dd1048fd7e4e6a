-- `plancheck_c::plancheck_split` meets its contract.
use Rattle.base_laws.proofs.Kit.{ℕ, List, ◌≡◌, ap, ◌∙◌}
use Rattle.model_split.specs.Splits.{Texts, Buffers, SplitInTwo}
use Rattle.split.specs.Splitting.{SplitGot}
use Rattle.plancheck_c.specs.Results.{split_result, split_answer_of}
use Rattle.plancheck_c.proofs.Numbers.{split-tells}
use Rattle.plancheck_c.proofs.Read.{read-as, split-back}
use Rattle.plancheck_c.specs.declared.SplitResult.{SplitResult}
use Rattle.base_search.specs.declared.Refusal.{Refusal}
use Rattle.base_search.specs.Numbers.{CanArise}
use Rattle.model_split.specs.Call.{split_numbers}
use Rattle.plancheck_c.proofs.plancheck_split.Goals as goal
use Rattle.std.specs.Prelude.{Result, Err}
use Rattle.model_split.specs.declared.Lengths.{Lengths}

-- what is promised of an answer is promised of the answer that its result is read as
module _ (a : Result Lengths Refusal) (r : SplitResult) (is : r ≡ split_result a) {set : ℕ} {before after : Buffers} where
  promised : {whole : Texts} → SplitInTwo whole set before after a → SplitInTwo whole set before after (split_answer_of r)
  promised {whole} g = read-as split_answer_of (λ (x : Result Lengths Refusal). SplitInTwo whole set before after x) is (split-back a g.refused-number) g

  got : {network plan : List ℕ} → ((q : Refusal) → a ≡ Err q → CanArise split_numbers q.number) → SplitGot network plan set before after a
      → SplitGot network plan set before after (split_answer_of r)
  got {network} {plan} h g = read-as split_answer_of (λ (x : Result Lengths Refusal). SplitGot network plan set before after x) is (split-back a h) g

pub returns : goal.returns
returns c =
    let e = c.split.ensures in
    let is = c.into.ensures in
    let told = is ∙ ap split_result e.split_in_two.told in
    let numbers = e.split_in_two.refused-number in record { value = told; split_in_two = promised _ _ is e.split_in_two; number_tells = split-tells _ _ _ _ told; padding_ignored = λ padded_network n padded_plan p. got _ _ is numbers (e.padding_ignored padded_network n padded_plan p) }
