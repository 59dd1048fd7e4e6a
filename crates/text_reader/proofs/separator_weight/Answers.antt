-- `text_reader::separator_weight` meets its contract.
use Rattle.std.proofs.Common.{sym, rules}
use Rattle.text_reader.proofs.Passing.{separator_weight-tab, separator_weight-feed, separator_weight-other}
use Rattle.text_reader.proofs.separator_weight.Goals as goal

pub returns-in-9 : goal.returns-in-9
returns-in-9 c = sym (separator_weight-tab _ c.in-9.is)

pub returns-in-10 : goal.returns-in-10
returns-in-10 c = sym (separator_weight-feed _ c.in-10.is)

pub returns-in_default : goal.returns-in_default
returns-in_default c = sym (separator_weight-other _ (search rules) (search rules))
