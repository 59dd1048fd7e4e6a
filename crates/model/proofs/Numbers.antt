-- Every refusal of a call has one of its numbers.
use Rattle.base_laws.proofs.Kit.{◌≡◌, refl, true, List, ℕ, suc, rules, length}
use Rattle.base_search.specs.declared.Refusal.{Refusal}
use Rattle.base_search.specs.Checks.{Rule, rule_at, table, Verdict}
use Rattle.base_search.specs.Numbers.{is_one_of}
use Rattle.base_search.proofs.Numbers.{arises, Numbered, refused-number, all_of, wider}
use Rattle.text_reader.specs.Lines.{Line}
use Rattle.base_laws.specs.Test.{◌and◌, every}
use Rattle.model.specs.Table.{count_checks, tram_checks, signal_checks, tram_phase_checks, link_checks, movement_checks, share_checks, past_checks, step_checks, network_checks, ledger_checks, step_rules, line_checks, plan_line_checks, plan_checks}
use Rattle.model.specs.Guarantees.{network_numbers, state_numbers, plan_numbers, NetworkPromises, StatePromises}
use Rattle.model.specs.Calls.{check_network, state_checks, link_answer, link_state}
use Rattle.base_laws.proofs.Tests.{every-at}
use Rattle.std.specs.Prelude.{Ok, Err}

-- ---- the checks of the three calls
pub network-numbered : (network : List Line) → Numbered network_numbers (network_checks network)
unfolding Numbered is_one_of network_checks count_checks tram_checks signal_checks tram_phase_checks link_checks movement_checks share_checks past_checks step_checks
network-numbered network = search rules depth 14

pub network-among : (network : List Line) (numbers : List ℕ) → all_of network_numbers numbers ≡ true → Numbered numbers (network_checks network)
network-among network numbers h = wider network_numbers numbers h (network_checks network) (network-numbered network)

-- a table whose rules have such numbers
table-numbered : (numbers : List ℕ) (line : ℕ) (rules : List Rule) → every (length rules) (λ k. arises numbers (rule_at rules k).number) ≡ true → Numbered numbers (table line rules)
unfolding Numbered table
table-numbered numbers line rules h k l i u = every-at (length rules) (λ k. arises numbers (rule_at rules k).number) h k l

line-numbered : (network plan : List Line) (n : ℕ) → Numbered plan_numbers (line_checks network plan n)
unfolding Numbered is_one_of line_checks step_rules every ◌and◌
line-numbered network plan n = (refl, table-numbered plan_numbers (suc n) _ refl)

pub plan-numbered : (network plan : List Line) (size : ℕ) → Numbered plan_numbers (plan_checks network plan size)
unfolding Numbered is_one_of all_of plan_checks ledger_checks plan_line_checks
plan-numbered network plan size = (network-among network plan_numbers refl, search (rules, line-numbered network plan))

pub plan-among : (network plan : List Line) (size : ℕ) (numbers : List ℕ) → all_of plan_numbers numbers ≡ true → Numbered numbers (plan_checks network plan size)
plan-among network plan size numbers h = wider plan_numbers numbers h (plan_checks network plan size) (plan-numbered network plan size)

pub state-numbered : (network : List Line) (ledger : List ℕ) (boundary link : ℕ) → Numbered state_numbers (state_checks network ledger boundary link)
unfolding Numbered is_one_of all_of state_checks ledger_checks
state-numbered network ledger boundary link = (network-among network state_numbers refl, search rules)

-- ---- refusals of a network and of a link's state
of-link : (network : List Line) (ledger : List ℕ) (boundary link : ℕ) (v : Verdict) (r : Refusal) → link_answer network ledger boundary link v ≡ Err r → v ≡ Err r
unfolding link_answer
of-link network ledger boundary link (Ok tt) r h = cc
of-link network ledger boundary link (Err q) r h = cc

pub network-promises : (network : List Line) → NetworkPromises (check_network network)
unfolding check_network
network-promises network = record { refused-number = λ r h. refused-number network_numbers (network_checks network) r (network-numbered network) h }

pub state-promises : (network : List Line) (ledger : List ℕ) (boundary link : ℕ) → StatePromises (link_state network ledger boundary link)
unfolding link_state
state-promises network ledger boundary link =
    record {
      refused-number = λ r h. refused-number state_numbers (state_checks network ledger boundary link) r (state-numbered network ledger boundary link) (of-link network ledger boundary link _ r h);
    }
