-- The phase that a mask shows, from its count of ones and its trailing zeros.
use Rattle.base_laws.proofs.Kit.{◌≡◌, refl, sym, ap, ◌∙◌, ℕ, ◌+◌, ◌-◌, ◌^◌, ◌≤◌, ◌<◌, ℕ_discrete, arith}
use lib.Pow.{pow-lt}
use lib.Count.{ones, count_trailing_zeros}
use Rattle.model.specs.Signals.{phase_of}
use Rattle.model.proofs.Phases.{phase-of-le, phase-of-bit, bit-of-phase}
use Rattle.step_signals.proofs.OneBit.{ones-pow, ones-one}

-- one bit, of a phase
pub phase-one : (w m p : ℕ) → m < 2 ^ w → ones m ≡ 1 → count_trailing_zeros w m < p → count_trailing_zeros w m + 1 ≡ phase_of m p
phase-one w m p h e l =
    let t = count_trailing_zeros w m in
    let k : t ≡ t + 1 - 1 = omega arith in
    sym (phase-of-bit m p (t + 1) (omega arith) (omega arith) (ones-one w m h e ∙ ap (λ x. 2 ^ x) k))

-- a mask that is no phase's bit shows none
none : (m p : ℕ) → ((k : ℕ) → k < p → m ≡ 2 ^ k → ⊥) → 0 ≡ phase_of m p
none m p h = elim (ℕ_discrete (phase_of m p) 0) [
  | yes e ↦ sym e
  | no d ↦ absurd (h (phase_of m p - 1) (omega (arith, phase-of-le m p)) (bit-of-phase m p (phase_of m p) (omega arith) refl))
]

-- one bit, above the phases'
pub phase-past : (w m p : ℕ) → m < 2 ^ w → ones m ≡ 1 → p ≤ count_trailing_zeros w m → 0 ≡ phase_of m p
phase-past w m p h e l =
    let o = ones-one w m h e in
    none m p (λ k b q. let t = pow-lt {i = k} {j = count_trailing_zeros w m} (omega arith) in omega arith)

-- no bit, or several
pub phase-many : (m p : ℕ) → (ones m ≡ 1 → ⊥) → 0 ≡ phase_of m p
phase-many m p d = none m p (λ k b q. d (ap ones q ∙ ones-pow k))
