-- `step_arrivals::scaled_arrived` meets its contract.
use Rattle.base_laws.proofs.Kit.{◌+◌, ◌*◌, ap, ap₂, ◌∙◌, arith}
use Rattle.step_arrivals.proofs.Arrivals.{scaled_fits}
use Rattle.step_arrivals.proofs.scaled_arrived.Goals as goal

pub overflow_add-result : goal.overflow_add-result
overflow_add-result c = scaled_fits c.product.ensures c.product-2.ensures (omega arith) (omega arith) (omega arith) (omega arith)

pub returns : goal.returns
returns c = ap₂ ◌+◌ c.product.ensures (c.product-2.ensures ∙ ap (λ x. x * c.args.elapsed) c.saturating_sub.ensures)
