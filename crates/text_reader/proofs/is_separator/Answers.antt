-- `text_reader::is_separator` meets its contract.
use Rattle.text_reader.specs.Reading.{separator}
use Rattle.text_reader.proofs.Tests.{tests}
use Rattle.text_reader.proofs.is_separator.Goals as goal

pub returns-then-b-eq9 : goal.returns-then-b-eq9
unfolding separator
returns-then-b-eq9 c = search tests

pub returns-else-b-eq9 : goal.returns-else-b-eq9
unfolding separator
returns-else-b-eq9 c = search tests
