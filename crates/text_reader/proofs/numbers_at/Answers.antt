-- `text_reader::numbers_at` meets its contract.
use Rattle.std.proofs.Common.{rules}
use Rattle.base_laws.proofs.Kit.{arith}
use Rattle.text_reader.proofs.Turns.{starts-within, as-other, as_long, as-stops, as-guarded}
use Rattle.text_reader.proofs.Sentinel.{sentinel-tab, sentinel-last, sentinel-stops, as-sentinel}
use Rattle.text_reader.proofs.numbers_at.Goals as goal

pub returns-then-not-starts_with : goal.returns-then-not-starts_with
returns-then-not-starts_with c = search (as-other, rules)

pub overflow_add-end : goal.overflow_add-end
overflow_add-end c = omega (arith, starts-within _ _ _ _ c.starts_with.ensures c.if-not-starts_with.false-raw)

pub sentinel_numbers_at-requires-clause-at_value : goal.sentinel_numbers_at-requires-clause-at_value
sentinel_numbers_at-requires-clause-at_value c = search sentinel-stops

pub sentinel_numbers_at-requires-clause-at_value_2 : goal.sentinel_numbers_at-requires-clause-at_value_2
sentinel_numbers_at-requires-clause-at_value_2 c = search sentinel-tab

pub sentinel_numbers_at-requires-clause-text_value : goal.sentinel_numbers_at-requires-clause-text_value
sentinel_numbers_at-requires-clause-text_value c = search sentinel-last

pub returns-then-tab_before_sentinel : goal.returns-then-tab_before_sentinel
returns-then-tab_before_sentinel c = search (as-sentinel, rules)

pub returns-then-not-ends_at : goal.returns-then-not-ends_at
returns-then-not-ends_at c = search (as_long, rules)

pub guarded_numbers_at-requires : goal.guarded_numbers_at-requires
guarded_numbers_at-requires c = search as-stops

pub returns : goal.returns
returns c = search (as-guarded, rules)
