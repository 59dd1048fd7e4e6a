-- `text_reader::is_end` meets its contract.
use Rattle.text_reader.proofs.Turns.{end_test}
use Rattle.text_reader.proofs.is_end.Goals as goal

pub returns : goal.returns
returns c = end_test _ _
