-- The phase that a mask shows.
use Rattle.base_laws.proofs.Kit.{◌≡◌, sym, ap, ◌∙◌, ◌⊎◌, inl, inr, ℕ, zero, suc, ◌-◌, ◌*◌, ◌%◌, ◌^◌, ◌≤◌, ◌<◌, eq-or-lt_of_le, le_trans, mod-eq_of_lt, pow-le-pow_right, ℕ_discrete, arith, eq-eqb, ne_eqb}
use lib.Pow.{pow-lt}
use Rattle.text_reader.specs.Field.{largest}
use Rattle.model.specs.Signals.{phase_of}

pub phase-of-le : (mask phases : ℕ) → phase_of mask phases ≤ phases
unfolding phase_of
phase-of-le mask zero = omega arith
phase-of-le mask (suc k) = elim (ℕ_discrete mask (2 ^ k)) [
  | yes e ↦ rw (eq-eqb mask (2 ^ k) e) (omega arith)
  | no d ↦ rw (ne_eqb mask (2 ^ k) d) (omega (arith, phase-of-le mask k))
]

-- the bit of a phase shows it ..
pub phase-of-bit : (mask phases q : ℕ) → 1 ≤ q → q ≤ phases → mask ≡ 2 ^ (q - 1) → phase_of mask phases ≡ q
unfolding phase_of
phase-of-bit mask zero q h l m = absurd (omega arith)
phase-of-bit mask (suc k) q h l m = go (eq-or-lt_of_le l) (λ u. phase-of-bit mask k q h u m)
  where
    go : (q ≡ suc k) ⊎ (q < suc k) → (q ≤ k → phase_of mask k ≡ q) → phase_of mask (suc k) ≡ q
    go (inl e) ih = let f : q - 1 ≡ k = omega arith in rw (eq-eqb mask (2 ^ k) (m ∙ ap (λ x. 2 ^ x) f)) (sym e)
    go (inr u) ih = let f : 2 ^ (q - 1) < 2 ^ k = pow-lt (omega arith) in rw (ne_eqb mask (2 ^ k) (λ e. omega arith)) (ih (omega arith))

-- .. and the mask that shows a phase is its bit
pub bit-of-phase : (mask phases q : ℕ) → 1 ≤ q → phase_of mask phases ≡ q → mask ≡ 2 ^ (q - 1)
unfolding phase_of
bit-of-phase mask zero q h = λ e. absurd (omega arith)
bit-of-phase mask (suc k) q h = elim (ℕ_discrete mask (2 ^ k)) [
  | yes e ↦ rw (eq-eqb mask (2 ^ k) e) (λ f. let g : k ≡ q - 1 = omega arith in e ∙ ap (λ x. 2 ^ x) g)
  | no d ↦ rw (ne_eqb mask (2 ^ k) d) (bit-of-phase mask k q h)
]

-- a bit of a mask, as code of 32 bits shifts it there
pub bit_shifted : (p : ℕ) → p ≤ 8 → 1 * 2 ^ p % 4_294_967_296 ≡ 2 ^ p
bit_shifted p h =
    let b : 2 ^ p ≤ 2 ^ 8 = pow-le-pow_right {n = 2} (omega arith) h in
    let e : 1 * 2 ^ p ≡ 2 ^ p = omega arith in
    rw e (mod-eq_of_lt (omega arith))

-- the bit of a phase fits a field
pub bit-small : (q : ℕ) → q ≤ 8 → 2 ^ (q - 1) ≤ largest
bit-small q h = le_trans (pow-le-pow_right {n = 2} (omega arith) (let l : q - 1 ≤ 7 = omega arith in l)) (omega arith)
