-- What checks that hold say, by index: a valid network, and steps each of which keeps every rule.
use Rattle.base_laws.proofs.Kit.{◌≡◌, true, List, ℕ, ◌<◌, arith}
use Rattle.base_search.specs.Checks.{Hold, table}
use Rattle.text_reader.specs.Lines.{Line}
use Rattle.model.specs.Network.{link_count, signal_count, movement_count, step_count, tram_count, signal}
use Rattle.model.specs.Rules.{valid_phases, valid_signal, valid_counts, valid_tram, valid_tram_phase, valid_link, valid_movement, valid_shares, valid_step, valid_past, rule10, rule11, rule12, rule13, rule14, rule15, rule16, rule17, rule18, rule25, rule26, rule27, rule29}
use Rattle.model.specs.Table.{count_checks, tram_checks, signal_checks, tram_phase_checks, link_checks, movement_checks, share_checks, past_checks, step_checks, network_checks, step_rules, line_checks, plan_line_checks, plan_checks}

-- refusals 2 to 6, 28 and 30 do not arise
pub record ValidNetwork (network : List Line) : Type 0 where
  pub counts : valid_counts network ≡ true
  pub trams : (k : ℕ) → k < tram_count network → valid_tram network k ≡ true
  pub phases : (r : ℕ) → r < signal_count network → valid_phases (signal network r) ≡ true
  pub signals : (r : ℕ) → r < signal_count network → valid_signal (signal network r) ≡ true
  pub tram-phases : (k : ℕ) → k < tram_count network → valid_tram_phase network k ≡ true
  pub links : (i : ℕ) → i < link_count network → valid_link network i ≡ true
  pub movements : (j : ℕ) → j < movement_count network → valid_movement network j ≡ true
  pub shares : (i : ℕ) → i < link_count network → valid_shares network i ≡ true
  pub steps : (n : ℕ) → n < step_count network → valid_step network n ≡ true
  pub past : valid_past network ≡ true

-- step n keeps rules 10 to 18, 25 to 27 and 29
pub record LawfulStep (network plan : List Line) (n : ℕ) : Type 0 where
  pub keeps10 : (r : ℕ) → r < signal_count network → rule10 network plan n r ≡ true
  pub keeps29 : (r : ℕ) → r < signal_count network → rule29 network plan n r ≡ true
  pub keeps11 : (r : ℕ) → r < signal_count network → rule11 network plan n r ≡ true
  pub keeps12 : (r : ℕ) → r < signal_count network → rule12 network plan n r ≡ true
  pub keeps13 : (r : ℕ) → r < signal_count network → rule13 network plan n r ≡ true
  pub keeps14 : (r : ℕ) → r < signal_count network → rule14 network plan n r ≡ true
  pub keeps15 : (i : ℕ) → i < link_count network → rule15 network plan n i ≡ true
  pub keeps25 : (i : ℕ) → i < link_count network → rule25 network plan n i ≡ true
  pub keeps26 : (j : ℕ) → j < movement_count network → rule26 network plan n j ≡ true
  pub keeps27 : (j : ℕ) → j < movement_count network → rule27 network plan n j ≡ true
  pub keeps16 : (j : ℕ) → j < movement_count network → rule16 network plan n j ≡ true
  pub keeps17 : (i : ℕ) → i < link_count network → rule17 network plan n i ≡ true
  pub keeps18 : (i : ℕ) → i < link_count network → rule18 network plan n i ≡ true

-- two texts that are accepted
pub record AcceptedPlan (network plan : List Line) : Type 0 where
  pub valid : ValidNetwork network
  pub lawful : (n : ℕ) → n < step_count network → LawfulStep network plan n

pub valid-network : (network : List Line) → Hold (network_checks network) → ValidNetwork network
unfolding Hold network_checks count_checks tram_checks signal_checks tram_phase_checks link_checks movement_checks share_checks past_checks step_checks
valid-network network (counts, (trams, (signals, (tram_phases, (links, (movements, (shares, (forms, (steps, (ended, past)))))))))) =
    record {
      counts = counts.1;
      trams = λ k l. (trams k l).1;
      phases = λ r l. (signals r l).1.0;
      signals = λ r l. (signals r l).1.1.1;
      tram-phases = tram_phases;
      links = λ i l. (links i l).1;
      movements = λ j l. (movements j l).1;
      shares = shares;
      steps = λ n l. (steps n l).1;
      past = past;
    }

pub lawful-step : (network plan : List Line) (n : ℕ) → Hold (line_checks network plan n) → LawfulStep network plan n
unfolding Hold line_checks table step_rules
lawful-step network plan n (form, rules) =
    record {
      keeps10 = rules 0 (omega arith);
      keeps29 = rules 1 (omega arith);
      keeps11 = rules 2 (omega arith);
      keeps12 = rules 3 (omega arith);
      keeps13 = rules 4 (omega arith);
      keeps14 = rules 5 (omega arith);
      keeps15 = rules 6 (omega arith);
      keeps25 = rules 7 (omega arith);
      keeps26 = rules 8 (omega arith);
      keeps27 = rules 9 (omega arith);
      keeps16 = rules 10 (omega arith);
      keeps17 = rules 11 (omega arith);
      keeps18 = rules 12 (omega arith);
    }

pub accepted-plan : (network plan : List Line) (size : ℕ) → Hold (plan_checks network plan size) → AcceptedPlan network plan
unfolding Hold plan_checks plan_line_checks
accepted-plan network plan size (holds, (ledger, (lines, ended))) =
    record { valid = valid-network network holds; lawful = λ n l. lawful-step network plan n (lines n l) }
