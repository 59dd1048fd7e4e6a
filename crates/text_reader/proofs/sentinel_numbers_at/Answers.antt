use Rattle.std.proofs.Common.{rules}
use Rattle.base_laws.proofs.Kit.{arith, set-get_or}
use Rattle.text_reader.proofs.Turns.{stored-none}
use Rattle.text_reader.proofs.Sentinel.{all-tab, ended-tab, ended-feed, ended-stop, ended-more, feed-ended}
use Rattle.text_reader.proofs.sentinel_numbers_at.Goals as goal

pub loop-k-init : goal.loop-k-init
loop-k-init c = (search stored-none, search rules)

pub overflow_add-found : goal.overflow_add-found
overflow_add-found c = omega (arith, ended-feed _ _ _ _ c.sentinel_tabbed_at.ensures c.in-ByLineFeed.is)

pub returns-in-ByLineFeed : goal.returns-in-ByLineFeed
returns-in-ByLineFeed c = search feed-ended

pub returns-in-Neither : goal.returns-in-Neither
returns-in-Neither c = search (ended-stop, set-get_or)

pub loop-k-preserved : goal.loop-k-preserved
loop-k-preserved c = (search ended-more, search ended-tab)

pub returns : goal.returns
returns c = search all-tab
