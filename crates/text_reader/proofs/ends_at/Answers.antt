-- `text_reader::ends_at` meets its contract.
use Rattle.std.proofs.Common.{◌∙◌, ap}
use Rattle.text_reader.specs.Reading.{separator}
use Rattle.text_reader.proofs.Turns.{ends-past, ends-test}
use Rattle.text_reader.proofs.ends_at.Goals as goal

pub returns-in-Some : goal.returns-in-Some
returns-in-Some c =
    let found = c.in-Some.ensures.lookup.3 in ends-test _ _ _ found.0 (c.is_separator.ensures ∙ ap separator (found.1 0))

pub returns-in-None : goal.returns-in-None
returns-in-None c = ends-past _ _ c.in-None.ensures.lookup.3
