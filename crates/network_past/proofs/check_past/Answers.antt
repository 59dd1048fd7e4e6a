-- `network_past::check_past` meets its contract.
use Rattle.base_laws.proofs.Kit.{sym, ◌∙◌}
use Rattle.base_search.specs.Checks.{verdict}
use Rattle.base_search.proofs.Laws.{checked-true}
use Rattle.network_past.proofs.check_past.Goals as goal

pub returns : goal.returns
unfolding verdict
returns c = record { judged = cc; held = λ e. c.is_valid-valid.ensures.held (checked-true _ _ _ _ (sym c.checked.ensures ∙ e)) }
