-- What comes after the `S` lines: the end of the text.
use Rattle.base_laws.proofs.Kit.{ℕ, suc, ◌+◌, ◌-◌, ◌≤◌, ◌≡◌, refl, Bool, List, arith, length}
use Rattle.base_search.specs.Checks.{Verdict, Hold, checked, verdict}
use Rattle.base_search.proofs.Laws.{first-all, hold-of-passes}
use Rattle.text_reader.specs.Lines.{Line, lines}
use Rattle.text_reader.specs.Reading.{at_end}
use Rattle.text_reader.proofs.Laws.{starts-end}
use Rattle.model.specs.Network.{link_count, step_count, on_timeline, timeline_line, step_line}
use Rattle.model.specs.Table.{is_form, letter_s, step_checks}
use Rattle.network_tables.specs.declared.Reading.{Reading}
use Rattle.network_tables.specs.Places.{step_line_in}
use Rattle.network_tables.specs.Blocks.{block_checks, step_block}
use Rattle.network_tables.proofs.Places.{record-within, step-line-is}
use Rattle.network.specs.Loading.{end_checks, EndAsked}
use Rattle.std.specs.Prelude.{Ok}

-- all lines of a network whose `S` lines pass are there
pub lines-within : (network : List Line) → 1 ≤ step_count network → verdict (block_checks (step_block network)) ≡ Ok tt → step_line network (step_count network) ≤ length network
unfolding verdict Hold step_checks is_form step_line timeline_line on_timeline
lines-within network some e =
    let last = step_count network - 1 in
    let h : Hold (step_checks network last) = hold-of-passes (step_checks network last) (first-all (λ n. verdict (step_checks network n)) (step_count network) e last (omega arith)) in
    omega (arith, record-within letter_s (1 + link_count network) network (step_line network last) h.0)

-- the test of the end is that of the lines
pub end-told : {text : List ℕ} {reading : Reading} → EndAsked text reading → {ended : Bool} → ended ≡ at_end text reading.next
    → {line : ℕ} → line ≡ step_line_in reading.counts reading.counts.steps → {said : Verdict} → said ≡ checked ended 1 (line + 1) 0 → said ≡ verdict (end_checks (lines text))
unfolding verdict end_checks
end-told {text} {reading} asked e {line} l t =
    let counted = asked.reached.counted in
    let told : line + 1 ≡ suc (step_line (lines text) (step_count (lines text))) = omega (arith, l, rw counted.steps at (step-line-is counted reading.counts.steps)) in
    rw (t, told, e, starts-end text reading.next _ asked.reached.starts asked.within) refl
