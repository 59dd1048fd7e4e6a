-- `text_reader::sentinel_tabbed_at` meets its contract.
use Rattle.std.proofs.Common.{rules}
use Rattle.base_laws.proofs.Kit.{arith}
use Rattle.text_reader.proofs.Sentinel.{tab-goes-on, ends-empty, ends-within, ends-tab, ends-feed, ends-other, ends-absent}
use Rattle.text_reader.proofs.sentinel_tabbed_at.Goals as goal

pub overflow_add-start : goal.overflow_add-start
overflow_add-start c = let a = c.args in omega (arith, tab-goes-on a.text.now a.at c.requires.text_value c.requires.at_value)

pub sentinel_digits_from-requires-clause-from_in_bounds : goal.sentinel_digits_from-requires-clause-from_in_bounds
sentinel_digits_from-requires-clause-from_in_bounds c = search tab-goes-on

pub returns-then-next-start : goal.returns-then-next-start
returns-then-next-start c = search ends-empty

pub bounds-text-next : goal.bounds-text-next
bounds-text-next c = search (ends-within, rules)

pub returns-in_default : goal.returns-in_default
returns-in_default c = search ends-absent

pub returns-in-9 : goal.returns-in-9
returns-in-9 c = search ends-tab

pub returns-in-10 : goal.returns-in-10
returns-in-10 c = search ends-feed

pub returns-in_default-text : goal.returns-in_default-text
returns-in_default-text c = search ends-other
