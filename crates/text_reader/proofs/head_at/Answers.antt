-- `text_reader::head_at` meets its contract.
use Rattle.text_reader.proofs.Turns.{head-told, missing-head}
use Rattle.text_reader.proofs.head_at.Goals as goal
use Rattle.text_reader.proofs.head_at.Goals.{in-Missing, in_default}

pub returns : goal.returns
returns c = elim c.match-matches.branch [
  | in-Missing w ↦ rw w.matches-is (missing-head _ _ _ _ _ _ c.numbers_at.ensures w.in-Missing.is)
  | in_default w ↦ rw w.matches-is (head-told _ _ _ _ _ _ c.numbers_at.ensures w.in_default.not-Missing)
]
