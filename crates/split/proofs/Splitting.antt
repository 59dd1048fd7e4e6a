-- The ways out of the call, by the definitions.
use Rattle.base_laws.proofs.Kit.{ℕ, ◌/◌, ◌^◌, ◌≤◌, ◌<◌, ◌≡◌, refl, sym, ◌∙◌, Bool, true, false, List, [], length, arith}
use Rattle.base_search.specs.declared.Refusal.{Refusal}
use Rattle.base_search.specs.Checks.{refusal, or_else, checked, verdict, Hold, Verdict}
use Rattle.base_search.proofs.Laws.{or-else-passes, or-else-refused, checked-passes, checked_refused, passes-of-hold, hold-of-passes}
use Rattle.text_reader.specs.Lines.{Line, lines}
use Rattle.text_reader.specs.Padding.{PaddingIgnored}
use Rattle.text_reader.proofs.Padding.{same_lines}
use Rattle.model.specs.Network.{max_signals, link_count}
use Rattle.model.specs.Table.{network_checks}
use Rattle.model.specs.Hold.{plan_of}
use Rattle.base_laws.proofs.Tests.{and_right}
use Rattle.model.proofs.Accepted.{valid-network}
use Rattle.model.proofs.Limits.{link-limits}
use Rattle.network_tables.specs.Fields.{signal_in}
use Rattle.network_tables.proofs.Tables.{signal-of-at}
use Rattle.network.specs.Loading.{TablesLoaded}
use Rattle.plan_steps.proofs.Runs.{signals-first}
use Rattle.split.specs.declared.FourBuffers.{FourBuffers}
use Rattle.split_tables.specs.declared.Whole.{Whole}
use Rattle.split_tables.specs.declared.Halves.{Halves}
use Rattle.split_tables.specs.Whole.{whole_network, whole_plan}
use Rattle.split_tables.specs.Halves.{HalvesAsked, HalvesBy, HalvesNumbered}
use Rattle.split_tables.proofs.Ends.{halves-asked}
use Rattle.model_split.specs.Call.{in_set, parts_signals, form_checks, part_checks, lengths, split_checks, split_answer, split_network, buffer_after}
use Rattle.model_split.specs.Splits.{Buffers, room_of, buffers_after, SplitInTwo}
use Rattle.model_split.proofs.Promises.{split-in-two}
use Rattle.split_checks.specs.Tables.{PartsAsked}
use Rattle.split_checks.specs.Network.{SplitTold, PartsTold}
use Rattle.split_checks.specs.Plan.{FormAsked, FormTold}
use Rattle.split.specs.Splitting.{texts, Passed, HalvesJudged, BothHalves, WriteAsked, fits, buffers, buffer_contents, WrittenWhere, HalvesWritten, SplitGot}
use Rattle.std.specs.Prelude.{Result, Ok, Err}
use Rattle.model_split.specs.declared.Lengths.{Lengths}

-- ---- the answer and the buffers by the verdict
module _ (network_text plan_text : List ℕ) (set : ℕ) (before : Buffers) where
  abbrev net : List Line
  net = lines network_text

  abbrev plan : List Line
  plan = plan_of network_text plan_text

  -- a refusal before 42
  got-refused : {r : Refusal} → verdict (part_checks net plan set) ≡ Err r → SplitGot network_text plan_text set before before (Err r)
  unfolding split_network buffers_after
  got-refused {r} v =
      let all : verdict (split_checks net plan set (room_of before)) ≡ Err r = unfold split_checks verdict in or-else-refused _ _ r v in
      record { told = rw all (unfold split_answer in refl); holds = rw all (unfold buffer_after in refl) }

  -- the last check is 42
  last-judged : verdict (part_checks net plan set) ≡ Ok tt → verdict (split_checks net plan set (room_of before)) ≡ checked (fits (lengths net plan set) (room_of before)) 42 0 0
  unfolding split_checks verdict fits
  last-judged v = or-else-passes _ _ v

  got-written : verdict (part_checks net plan set) ≡ Ok tt → {after : Buffers} {answer : (Result Lengths Refusal)} → WrittenWhere net plan set before after answer
      → SplitGot network_text plan_text set before after answer
  unfolding split_network buffers_after
  got-written v {after} {answer} w = go (fits (lengths net plan set) (room_of before)) refl
    where
      go : (b : Bool) → fits (lengths net plan set) (room_of before) ≡ b → SplitGot network_text plan_text set before after answer
      go true f =
          let all : verdict (split_checks net plan set (room_of before)) ≡ (Ok tt) = last-judged v ∙ checked-passes _ 42 0 0 f in
          record { told = rw all (unfold split_answer in (w.written f).0); holds = rw all (unfold buffer_after in (w.written f).1) }
      go false f =
          let all : verdict (split_checks net plan set (room_of before)) ≡ Err (refusal 42 0 0) = last-judged v ∙ checked_refused _ 42 0 0 f in
          record { told = rw all (unfold split_answer in (w.refused f).0); holds = rw all (unfold buffer_after in (w.refused f).1) }

-- ---- a network that has passed
pub loaded-passed : (whole : Whole) → TablesLoaded whole.tables whole.signals.now → Passed whole
loaded-passed whole l =
    record {
      holds = l.holds;
      counted = l.counted;
      trams-start = l.trams-start;
      steps-start = l.steps-start;
      link-table = l.link-table;
      movement-table = l.movement-table;
      signal-table = l.signal-table;
    }

module _ {whole : Whole} (p : Passed whole) where
  signals-few : (i : ℕ) → i < length whole.tables.links.now → signal_in whole.tables.links.now i ≤ max_signals
  signals-few i l =
      let u : i < link_count (whole_network whole) = omega (arith, p.link-table.size) in
      omega (arith, signal-of-at p.link-table i u, (link-limits (whole_network whole) (valid-network (whole_network whole) p.holds) i u).signal-last, p.counted.signals, p.counted.few.signals)

  pub number-asked : HalvesAsked whole.tables
  number-asked = halves-asked (whole_network whole) p.holds whole.tables p.counted p.movement-table

  -- ---- `judge_halves`
  pub parts-asked : PartsAsked whole.tables.links.now
  parts-asked = record { few = omega (arith, p.link-table.size, p.counted.links, p.counted.few.links); signals = signals-few }

  pub form-asked : FormAsked whole.signals.now whole.tables.reading.counts
  form-asked =
      record {
        few = p.counted.few;
        signals-size = p.signal-table.size;
        ready = λ r l. (signals-first (whole_network whole) [] whole.signals.now (valid-network (whole_network whole) p.holds) p.signal-table).ready r (omega (arith, p.counted.signals));
      }

  module _ {halves : Halves} {can : Bool} (c : SplitTold (whole_network whole) halves can) where
    -- the result of the test is that of the definitions, before the others
    judged-by : (set : ℕ) → halves.above ≡ set / 2 ^ link_count (whole_network whole) → HalvesBy (whole_network whole) set halves → verdict (part_checks (whole_network whole) (whole_plan whole) set)
        ≡ or_else (checked can 40 0 0) (or_else (checked (parts_signals (whole_network whole) (in_set set)) 41 0 0) (verdict (form_checks (whole_network whole) (whole_plan whole))))
    unfolding part_checks verdict
    judged-by set above by = or-else-passes _ _ (passes-of-hold (network_checks (whole_network whole)) p.holds) ∙ rw (← c set above by) refl

    -- 40
    pub no-split : {r : Refusal} → checked can 40 0 0 ≡ Err r → HalvesJudged whole halves (Err r)
    no-split e set above by = sym (judged-by set above by ∙ or-else-refused _ _ _ e)

    module _ (y : checked can 40 0 0 ≡ Ok tt) {parts : Bool} (s : PartsTold whole.tables.links.now halves.first parts) where
      then-parts : (set : ℕ) → halves.above ≡ set / 2 ^ link_count (whole_network whole) → HalvesBy (whole_network whole) set halves → verdict (part_checks (whole_network whole) (whole_plan whole) set)
          ≡ or_else (checked parts 41 0 0) (verdict (form_checks (whole_network whole) (whole_plan whole)))
      then-parts set above by = judged-by set above by ∙ or-else-passes _ _ y ∙ rw (← s (whole_network whole) p.holds p.link-table set by.first) refl

      -- 41
      pub no-parts : {r : Refusal} → checked parts 41 0 0 ≡ Err r → HalvesJudged whole halves (Err r)
      no-parts e set above by = sym (then-parts set above by ∙ or-else-refused _ _ _ e)

      -- 9, or none
      pub form-judged : checked parts 41 0 0 ≡ Ok tt → {v : Verdict} → FormTold whole.plan.now whole.signals.now whole.tables.reading.counts v → HalvesJudged whole halves v
      form-judged z form set above by =
          form whole.tables.text.now (record { holds = p.holds; counted = p.counted; signal-table = p.signal-table })
          ∙ sym (then-parts set above by ∙ or-else-passes _ _ z)

  -- ---- `split_loaded`
  module _ (set : ℕ) {halves : Halves} (above : halves.above ≡ set / 2 ^ whole.tables.reading.counts.links) (numbered : HalvesNumbered set whole.tables halves) {v : Verdict} (j : HalvesJudged whole halves v) where
    by-set : HalvesBy (whole_network whole) set halves
    by-set = numbered (whole_network whole) p.counted p.link-table p.movement-table

    judged-is : verdict (part_checks (whole_network whole) (whole_plan whole) set) ≡ v
    judged-is = sym (j set (rw p.counted.links at above) by-set)

    -- 40, 41 or 9
    pub judged-refused : (before : Buffers) {r : Refusal} → v ≡ Err r → SplitGot whole.tables.text.now whole.plan.now set before before (Err r)
    judged-refused before e = got-refused whole.tables.text.now whole.plan.now set before (judged-is ∙ e)

    module _ (e : v ≡ Ok tt) where
      hold : Hold (part_checks (whole_network whole) (whole_plan whole) set)
      hold = hold-of-passes (part_checks (whole_network whole) (whole_plan whole) set) (judged-is ∙ e)

      both : BothHalves (whole_network whole) set halves
      unfolding part_checks Hold
      both = record { can = and_right _ _ hold.1.0; parts = hold.1.1.0; numbered = by-set }

      pub write-asked : WriteAsked whole halves
      unfolding part_checks form_checks Hold
      write-asked =
          record {
            passed = p;
            held = record { holds = p.holds; counted = p.counted; signal-table = p.signal-table; movement-table = p.movement-table; forms = hold.1.1.1.0 };
            set = set;
            both = both;
          }

      -- 42, or the texts
      pub all-judged : {before after : Buffers} {answer : (Result Lengths Refusal)} → HalvesWritten whole halves before after answer → SplitGot whole.tables.text.now whole.plan.now set before after answer
      all-judged {before} w = got-written whole.tables.text.now whole.plan.now set before (judged-is ∙ e) (w set both)

-- ---- the call
pub network-refused : (network_text plan_text : List ℕ) (set : ℕ) (before : Buffers) {r : Refusal} → verdict (network_checks (lines network_text)) ≡ Err r → SplitGot network_text plan_text set before before (Err r)
network-refused network_text plan_text set before {r} e = got-refused network_text plan_text set before (unfold part_checks verdict in or-else-refused _ _ r e)

pub promised : {network_text plan_text : List ℕ} {set : ℕ} {before after : Buffers} {answer : (Result Lengths Refusal)} → SplitGot network_text plan_text set before after answer
    → SplitInTwo (texts network_text plan_text) set before after answer
    × PaddingIgnored network_text (λ padded_network. PaddingIgnored plan_text (λ padded_plan. SplitGot padded_network padded_plan set before after answer))
promised {network_text} {plan_text} {set} {before} got = (
  split-in-two (texts network_text plan_text) set before got.told got.holds,
  λ padded_network n padded_plan p.
      let net = same_lines network_text padded_network n in
      let one = same_lines plan_text padded_plan p in
      record { told = got.told ∙ rw (net, one); holds = got.holds ∙ rw (net, one) },
)

-- the text is that of the tables, and the buffers are given back
pub given-back : {text read plan : List ℕ} {set : ℕ} {before : Buffers} (lent : FourBuffers) {answer : (Result Lengths Refusal)} → SplitGot read plan set before (buffer_contents lent) answer → read ≡ text
    → {network₁ plan₁ network₂ plan₂ : List ℕ} → network₁ ≡ lent.network_1.now → plan₁ ≡ lent.plan_1.now → network₂ ≡ lent.network_2.now → plan₂ ≡ lent.plan_2.now
    → SplitGot text plan set before (buffers network₁ plan₁ network₂ plan₂) answer
given-back lent got e a b c d = rw (a, b, c, d, ← e) got
