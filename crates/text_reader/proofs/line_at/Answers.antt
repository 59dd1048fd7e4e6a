-- `text_reader::line_at` meets its contract.
use Rattle.std.proofs.Common.{inl, inr}
use Rattle.text_reader.proofs.Turns.{last_line, more-line, missing-line}
use Rattle.text_reader.proofs.line_at.Goals as goal

pub returns-in-Last : goal.returns-in-Last
returns-in-Last c = search last_line

pub returns-in-More : goal.returns-in-More
returns-in-More c = elim c.in-More.is [ inl e ↦ more-line _ _ _ _ _ _ c.numbers_at.ensures e | inr e ↦ missing-line _ _ _ _ _ _ c.numbers_at.ensures e ]
