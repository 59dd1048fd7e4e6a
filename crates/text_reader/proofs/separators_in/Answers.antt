use Rattle.std.proofs.Common.{rules}
use Rattle.text_reader.proofs.Passing.{separators-none, separators-more, separators-fit}
use Rattle.text_reader.proofs.separators_in.Goals as goal

pub loop-k-init : goal.loop-k-init
loop-k-init c = separators-none c.args.text.now c.args.at

pub overflow_add-sum : goal.overflow_add-sum
overflow_add-sum c = let h = separators-fit _ _ _ c.loop-k.invariant c.separator_weight-sum.ensures (search rules) in search rules

pub loop-k-preserved : goal.loop-k-preserved
loop-k-preserved c = separators-more _ _ _ c.loop-k.invariant c.separator_weight-sum.ensures
