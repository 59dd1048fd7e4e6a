-- `plan_compare::next_boundary` meets its contract.
use Rattle.base_laws.proofs.Kit.{arith}
use Rattle.plan_compare.proofs.Curves.{next-empty, line-asked, next-read}
use Rattle.plan_compare.proofs.next_boundary.Goals as goal

pub returns-then-is_empty : goal.returns-then-is_empty
returns-then-is_empty c = next-empty c.requires (grind (arith, c.is_empty.ensures))

pub all_let_out-volume-requires : goal.all_let_out-volume-requires
all_let_out-volume-requires c = line-asked c.requires c.plan_width.ensures c.read_again-at.ensures

pub returns : goal.returns
returns c =
    next-read c.requires c.plan_width.ensures c.read_again-at.ensures (grind (arith, c.is_empty.ensures)) c.all_let_out-volume.ensures.0 c.all_let_out-volume.ensures.1
