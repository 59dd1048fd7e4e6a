-- `text_reader::starts_with` meets its contract.
use Rattle.std.proofs.Common.{◌∙◌, sym}
use Rattle.text_reader.proofs.Looks.{looked}
use Rattle.text_reader.proofs.Turns.{starts-here, starts-elsewhere}
use Rattle.text_reader.proofs.starts_with.Goals as goal

pub returns-then-eq : goal.returns-then-eq
returns-then-eq c = starts-here _ _ _ (sym (c.eq.ensures ∙ looked _ _ _ c.get.ensures.lookup.3 _) ∙ c.if-eq.true) c.is_separator.ensures

pub returns-else-eq : goal.returns-else-eq
returns-else-eq c = c.if-eq.false ∙ starts-elsewhere _ _ _ (sym (c.eq.ensures ∙ looked _ _ _ c.get.ensures.lookup.3 _) ∙ c.if-eq.false)
