use Rattle.std.proofs.Common.{rules}
use Rattle.text_reader.specs.Reading.{ended_by_line_feed}
use Rattle.text_reader.proofs.ended_by_line_feed.Goals as goal

pub returns-then-was_last : goal.returns-then-was_last
unfolding ended_by_line_feed
returns-then-was_last c = search rules

pub returns-else-was_last : goal.returns-else-was_last
unfolding ended_by_line_feed
returns-else-was_last c = search rules
