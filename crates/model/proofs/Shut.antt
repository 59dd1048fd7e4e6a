-- A shut link of an accepted plan passes nothing.
use Rattle.base_laws.proofs.Kit.{◌≡◌, refl, sym, ◌∙◌, true, ⊎_elim, List, ℕ, suc, ◌-◌, ◌/◌, ◌%◌, ◌^◌, ◌≤◌, ◌<◌, arith, eqb, leb-true, eqb-true}
use Rattle.text_reader.specs.Lines.{Line}
use Rattle.model.specs.Network.{link_count, signal_count, movement_count, step_count, signal, signal_of, phase_mask, from_link}
use Rattle.model.specs.Signals.{opens}
use Rattle.model.specs.Flows.{shown_mask, shown_in, moved, is_open}
use Rattle.model.specs.Rules.{rule10, rule27}
use Rattle.model.specs.Guarantees.{Shows}
use Rattle.base_laws.proofs.Tests.{or_cases}
use Rattle.model.proofs.Phases.{bit-of-phase}
use Rattle.model.proofs.Accepted.{AcceptedPlan}
use Rattle.model.proofs.Limits.{link-limits, movement-limits}

module _ (network plan : List Line) (accepted : AcceptedPlan network plan) where
  -- the signal of the link that a movement leaves is one of the network
  signal-in : (j : ℕ) → j < movement_count network → 1 ≤ signal_of network (from_link network j - 1) → signal_of network (from_link network j - 1) - 1 < signal_count network
  signal-in j l h =
      let m = movement-limits network accepted.valid j l in
      let i : from_link network j - 1 < link_count network = omega arith in
      omega (arith, (link-limits network accepted.valid (from_link network j - 1) i).signal-last)

  -- the mask of a signal in a step has the phase's bit
  shown-bit : (n r : ℕ) → n < step_count network → r < signal_count network → shown_mask network plan n r ≡ 2 ^ (shown_in network plan n r - 1)
  unfolding shown_in rule10
  shown-bit n r h l = bit-of-phase (shown_mask network plan n r) (signal network r).phases (shown_in network plan n r) (leb-true _ _ ((accepted.lawful n h).keeps10 r l)) refl

  pub shut-passes-nothing : (n j q : ℕ) → n < step_count network → j < movement_count network
      → 1 ≤ signal_of network (from_link network j - 1)
      → 1 ≤ q → Shows network plan (signal_of network (from_link network j - 1) - 1) q (suc n)
      → phase_mask network (from_link network j - 1) / 2 ^ (q - 1) % 2 ≡ 0
      → moved network plan n j ≡ 0
  unfolding Shows rule27 is_open opens
  shut-passes-nothing n j q h l a b s m =
      let i = from_link network j - 1 in
      let bit : 2 ^ (shown_in network plan n (signal_of network i - 1) - 1) ≡ 2 ^ (q - 1) = sym (shown-bit n (signal_of network i - 1) h (signal-in j l a)) ∙ s in
      let none : phase_mask network i / 2 ^ (shown_in network plan n (signal_of network i - 1) - 1) % 2 ≡ 0 = rw bit m in
      let shut : is_open network plan n i ≡ true → ⊥ = λ o. ⊎_elim (λ (e : eqb (signal_of network i) 0 ≡ true). omega (arith, eqb-true))
      (λ (e : eqb (phase_mask network i / 2 ^ (shown_in network plan n (signal_of network i - 1) - 1) % 2) 1 ≡ true). omega (arith, eqb-true)) (or_cases _ _ o) in
      ⊎_elim (λ o. absurd (shut o)) (λ e. eqb-true _ _ e) (or_cases _ _ ((accepted.lawful n h).keeps27 j l))
