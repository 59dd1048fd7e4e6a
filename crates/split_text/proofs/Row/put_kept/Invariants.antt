-- `split_text::Row::put_kept` meets its contract.
use Rattle.base_laws.proofs.Kit.{length}
use Rattle.split_text.proofs.Filling.{FilledTo}
use Rattle.split_text.proofs.Row.put_kept.Given as goal

abbrev pub invariant-loop-k : goal.invariant-loop-k
invariant-loop-k g l = FilledTo l.items (length l.items) (goal.F-post g l.value_of) l.initial.self l.self l.k
