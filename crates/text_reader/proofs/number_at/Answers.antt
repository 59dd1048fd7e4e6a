-- `text_reader::number_at` meets its contract.
use Rattle.std.proofs.Common.{◌∙◌, sym, refl}
use Rattle.text_reader.proofs.Passing.{value-found, value-none}
use Rattle.text_reader.proofs.number_at.Goals as goal
use Rattle.text_reader.proofs.number_at.Goals.{in-Some, in-None}

pub returns : goal.returns
returns c =
    rw (c.line_end.ensures.next ∙ c.past_fields-end.ensures.next)
    (elim c.match-tabbed_at.branch [
      | in-Some w ↦ rw (w.value-is, value-found c.past_fields-end.ensures _ (sym c.tabbed_at.ensures ∙ w.in-Some.is)) refl
      | in-None w ↦ rw (w.value-is, value-none c.past_fields-end.ensures (sym c.tabbed_at.ensures ∙ w.in-None.is)) refl
    ])
