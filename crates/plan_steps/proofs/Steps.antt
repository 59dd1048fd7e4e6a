-- What a step's lines and signals are, for all that take steps.
use Rattle.base_laws.proofs.Kit.{ℕ, suc, ◌+◌, ◌≤◌, ◌<◌, ◌≡◌, refl, ◌∙◌, Bool, true, false, cond, List, arith, leb-true}
use Rattle.base_search.specs.Checks.{Hold}
use Rattle.text_reader.specs.Lines.{Line}
use Rattle.base_laws.specs.Test.{◌or◌}
use Rattle.model.specs.declared.Signal.{Signal}
use Rattle.model.specs.Signals.{after as signal_after}
use Rattle.model.specs.Network.{link_count, signal_count, step_count, tram_count, tram_line, step_line, step_length, ordinary, signal}
use Rattle.model.specs.Flows.{shown_mask, shown_in, signal_at}
use Rattle.model.specs.Rules.{rule10, rule13, rule14}
use Rattle.model.specs.Table.{is_form, letter_t, letter_s, network_checks, step_checks}
use Rattle.model.proofs.Accepted.{LawfulStep}
use Rattle.model.proofs.Phases.{phase-of-le}
use Rattle.model.proofs.Shown.{same-phases}
use Rattle.network_tables.specs.declared.Counts.{Counts}
use Rattle.network_tables.specs.declared.Tram.{Tram}
use Rattle.network_tables.specs.Fields.{tram_fields, signal_at as table_signal}
use Rattle.network_tables.specs.Tables.{CountsHold, TramTable}
use Rattle.network_trams.specs.Claims.{Claimed}
use Rattle.network_trams.proofs.Claims.{tram-phases-are}
use Rattle.step_signals.specs.Ready.{Ready}
use Rattle.step_signals.specs.Step.{ShownTable, AskedTable, Advanced, SignalsAt}
use Rattle.step_signals.proofs.Rules.{ready-after}

-- a network that has passed has the form of an `S` line at each step
pub step-form : (network : List Line) → Hold (network_checks network) → (n : ℕ) → n < step_count network → is_form network (step_line network n) letter_s (1 + link_count network) ≡ true
unfolding Hold network_checks step_checks
step-form network (counts, (trams, (signals, (phases, (links, (movements, (shares, (past, (steps, rest))))))))) n l = (steps n l).0

-- the phases that trams ask in a step
pub asked_by : (network : List Line) (table : List Tram) → TramTable network table → ((k : ℕ) → k < tram_count network → is_form network (tram_line network k) letter_t tram_fields ≡ true)
    → {counts : Counts} → CountsHold network counts → {n : ℕ} {claims : List ℕ} → Claimed table n claims → AskedTable network n claims
asked_by network table held forms c told =
    let t = tram-phases-are network table held forms told in record { size = t.size; holds = λ r l. t.holds r (omega (arith, c.signals, c.few.signals)) }

-- the signals after a step that has passed
module _ (network plan : List Line) (n : ℕ) (signals signals' : List Signal) (phases claims : List ℕ) (seconds count : ℕ) (before : SignalsAt network plan n signals)
    (shown : ShownTable network plan n phases) (claimed : AskedTable network n claims) (lawful : LawfulStep network plan n) (is-count : count ≡ signal_count network)
    (is-seconds : seconds ≡ step_length network n) (moved : Advanced signals count phases claims seconds signals') where
  stepped : (r : ℕ) → r < signal_count network → table_signal signals' r ≡ signal_at network plan (suc n) r
  unfolding signal_at ordinary
  stepped r l = moved.on r (omega arith) ∙ rw (before.holds r l, shown.holds r l, claimed.holds r l, is-seconds)

  ready-now : (r : ℕ) → r < signal_count network → Ready (signal_at network plan n r)
  ready-now r l = rw (before.holds r l) at (before.ready r l)

  shows : (r : ℕ) → shown_in network plan n r ≤ (signal_at network plan n r).phases
  shows r = rw (same-phases network plan r n) (unfold shown_in in phase-of-le (shown_mask network plan n r) (signal network r).phases)

  -- in a tram's step a signal stands still
  ready-next : (r : ℕ) → r < signal_count network → Ready (signal_at network plan (suc n) r)
  unfolding signal_at rule10 rule13 rule14 ◌or◌
  ready-next r l = go (ordinary network n r) refl
    where
      go : (b : Bool) → ordinary network n r ≡ b → Ready (cond b (signal_after (signal_at network plan n r) (shown_in network plan n r) (step_length network n)) (signal_at network plan n r))
      go true e =
          ready-after (signal_at network plan n r) (shown_in network plan n r) (step_length network n) (ready-now r l) (leb-true _ _ (lawful.keeps10 r l)) (shows r)
          (rw e at (lawful.keeps13 r l)) (rw e at (lawful.keeps14 r l))
      go false e = ready-now r l

  pub signals-next : SignalsAt network plan (suc n) signals'
  signals-next = record { size = moved.size; holds = stepped; ready = λ r l. rw (stepped r l) (ready-next r l) }
