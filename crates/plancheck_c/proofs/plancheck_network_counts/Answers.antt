-- `plancheck_c::plancheck_network_counts` meets its contract.
use Rattle.base_laws.proofs.Kit.{sym, ap, ◌∙◌}
use Rattle.plancheck_c.specs.Results.{counts_result}
use Rattle.plancheck_c.proofs.Numbers.{counts-tells}
use Rattle.plancheck_c.proofs.plancheck_network_counts.Goals as goal

pub returns-in-Ok : goal.returns-in-Ok
returns-in-Ok c =
    let got = c.count_network.ensures in
    let is = c.in-Ok.is in
    let told = sym (ap counts_result (sym got.value ∙ is)) in
    record { value = told; number_tells = counts-tells _ told; padding_ignored = λ padded same. sym (ap counts_result (sym (got.padding_ignored padded same) ∙ is)) }

pub returns-in-Err : goal.returns-in-Err
returns-in-Err c =
    let got = c.count_network.ensures in
    let is = c.in-Err.is in
    let told = sym (ap counts_result (sym got.value ∙ is)) in
    record { value = told; number_tells = counts-tells _ told; padding_ignored = λ padded same. sym (ap counts_result (sym (got.padding_ignored padded same) ∙ is)) }
