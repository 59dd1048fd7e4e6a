-- The `T` lines, the `G` lines and the trams' phases, one after another.
use Rattle.base_laws.proofs.Kit.{ℕ, ◌≡◌, refl, sym, ap, ◌∙◌, List, take}
use Rattle.base_search.specs.declared.Refusal.{Refusal}
use Rattle.base_search.specs.Checks.{Checks, each, or_else, ◌then◌, verdict, Verdict}
use Rattle.text_reader.specs.Lines.{Line, lines}
use Rattle.model.specs.declared.Signal.{Signal}
use Rattle.model.specs.Network.{tram_count}
use Rattle.model.specs.Table.{tram_phase_checks}
use Rattle.network_tables.specs.declared.Reading.{Reading}
use Rattle.network_tables.specs.Blocks.{block_checks, tram_block, signal_block}
use Rattle.network_tables.specs.declared.Tram.{Tram}
use Rattle.network_tables.specs.Tables.{Judged}
use Rattle.network_tables.proofs.Stages.{judged-refused, judged-passed, verdict-passed, verdict-refused}
use Rattle.network_signals.specs.Stages.{SignalsHeld}
use Rattle.network_trams.specs.Trams.{phase_checks_in, PhasesAsked}
use Rattle.network_trams.specs.Stages.{TramsHeld}
use Rattle.network_trams.proofs.Lines.{phases-asked, phases-checked}
use Rattle.network.specs.Loading.{first_checks}
use Rattle.network.proofs.Left.{on, stop}
use Rattle.std.specs.Prelude.{Result, Ok, Err}

-- ---- checks in order
or-else-assoc : (a b c : Verdict) → or_else a (or_else b c) ≡ or_else (or_else a b) c
unfolding or_else
or-else-assoc (Ok tt) b c = refl
or-else-assoc (Err r) b c = refl

-- the three families, before what follows them and behind what comes before
pub first-joined : (network : List Line) (before rest : Checks)
    → verdict (before then block_checks (tram_block network) then block_checks (signal_block network) then each (tram_count network) (tram_phase_checks network) then rest)
    ≡ verdict (before then first_checks network then rest)
unfolding verdict
first-joined network before rest =
    ap (or_else (verdict before))
    (ap (or_else (verdict (block_checks (tram_block network)))) (or-else-assoc _ _ (verdict rest)) ∙ or-else-assoc _ _ (verdict rest))

-- ---- the stages
module _ (text : List ℕ) where
  abbrev from_phases : Checks
  from_phases = each (tram_count (lines text)) (tram_phase_checks (lines text))

  abbrev from_signals : Checks
  from_signals = block_checks (signal_block (lines text)) then from_phases

module _ {text : List ℕ} {trams : List Tram} {tracked : Result Reading Refusal} (j : Judged (block_checks (tram_block (lines text))) (TramsHeld text trams) tracked) where
  pub trams-stop : {Held : Reading → Type 0} {r : Refusal} → tracked ≡ Err r → Judged (first_checks (lines text)) Held (Err r)
  trams-stop e = judged-refused (stop (first_checks (lines text)) _ (from_signals text) refl (verdict-refused j e))

  module _ {at_signals : Reading} (e₁ : tracked ≡ Ok at_signals) where
    left₁ : verdict (first_checks (lines text)) ≡ verdict (from_signals text)
    left₁ = on (first_checks (lines text)) _ (from_signals text) refl (verdict-passed j e₁)

    module _ {signals : List Signal} {stage : Result Reading Refusal} (j₁ : Judged (block_checks (signal_block (lines text))) (SignalsHeld text signals) stage) where
      pub signals-stop : {Held : Reading → Type 0} {r : Refusal} → stage ≡ Err r → Judged (first_checks (lines text)) Held (Err r)
      signals-stop e = judged-refused (stop (first_checks (lines text)) _ (from_phases text) left₁ (verdict-refused j₁ e))

      module _ {at_phases : Reading} (e₂ : stage ≡ Ok at_phases) where
        pub tram-phases-asked : PhasesAsked (take at_phases.counts.trams trams) signals at_phases.counts
        tram-phases-asked = phases-asked (j.held _ e₁) (j₁.held _ e₂).table (j₁.held _ e₂).reached.counted

        module _ {said : Verdict} (told : said ≡ verdict (each at_phases.counts.trams (phase_checks_in (take at_phases.counts.trams trams) signals at_phases.counts))) where
          left₂ : verdict (first_checks (lines text)) ≡ said
          left₂ = on (first_checks (lines text)) _ (from_phases text) left₁ (verdict-passed j₁ e₂) ∙ sym (told ∙ phases-checked (j.held _ e₁) (j₁.held _ e₂).table (j₁.held _ e₂).reached.counted)

          pub phases-stop : {Held : Reading → Type 0} {r : Refusal} → said ≡ Err r → Judged (first_checks (lines text)) Held (Err r)
          phases-stop e = judged-refused (left₂ ∙ e)

          pub first-judged : said ≡ Ok tt → Judged (first_checks (lines text)) (SignalsHeld text signals) (Ok at_phases)
          first-judged e = judged-passed (left₂ ∙ e) (j₁.held _ e₂)
