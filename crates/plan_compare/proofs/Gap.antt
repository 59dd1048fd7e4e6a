-- The difference of two naturals in the integers: its sign, its negation and zero.
use Rattle.base_laws.proofs.Kit.{ℕ, suc, ◌-◌, ◌≤◌, ◌<◌, ◌≡◌, ap, ◌↔◌, dec_lt, arith, le-leb, lt-ltb, le-ltb}
use lib.IntN.{ℤ, pos, neg_ℤ, sub_ℕ}
use lib.Signed.{◌≤ℤ◌, ◌<ℤ◌, le_z_yes, lt_z_yes, clash_ℤ}
use mir.Syntax.{w64}
use mir.Val.{SFits, to_z, of_z}
use mir.Facts.{to_z-of_z}

pub gap-none : (a b : ℕ) → a ≡ b → sub_ℕ a b ≡ pos 0
gap-none a b e = let d : a - b ≡ 0 = omega arith in rw (le-ltb a b (omega arith), d)

pub gap_below : (a b : ℕ) → a < b → sub_ℕ a b <ℤ pos 0
gap_below a b h = rw (lt-ltb a b h) (lt_z_yes tt)

pub gap-not-above : (a b : ℕ) → a ≤ b → sub_ℕ a b ≤ℤ pos 0
gap-not-above a b h = elim (dec_lt a b) [
  | yes l ↦ rw (lt-ltb a b l) (le_z_yes tt)
  | no l ↦ rw (gap-none a b (omega arith)) (le_z_yes tt)
]

-- the gap says which is the lesser
pub gap-quicker : (a b : ℕ) → (sub_ℕ a b <ℤ pos 0) ↔ (a < b)
gap-quicker a b = (
  λ h. elim (dec_lt a b) [
    | yes l ↦ l
    | no l ↦ clash_ℤ h (rw (le-ltb a b (omega arith)) (le_z_yes (rw (le-leb 0 (a - b) (omega arith)) tt)))
  ],
  gap_below a b,
)

pub gap-as-quick : (a b : ℕ) → (sub_ℕ a b ≡ pos 0) ↔ (a ≡ b)
gap-as-quick a b = (
  λ h. elim (dec_lt a b) [
    | yes l ↦ let e = rw (lt-ltb a b l) at h in let z : ◌≡◌ {A = ℕ} 0 1 = cc in absurd (omega arith)
    | no l ↦ let e = rw (le-ltb a b (omega arith)) at h in let d : a - b ≡ 0 = cc in omega arith
  ],
  gap-none a b,
)

pub gap-negated : (a b : ℕ) → sub_ℕ b a ≡ neg_ℤ (sub_ℕ a b)
gap-negated a b = elim (dec_lt a b) [
  | yes l ↦ let d : suc (b - suc a) ≡ b - a = omega arith in rw (lt-ltb a b l, le-ltb b a (omega arith)) (ap pos (omega arith))
  | no l ↦ elim (dec_lt b a) [
    | yes u ↦ let d : a - b ≡ suc (a - suc b) = omega arith in rw (lt-ltb b a u, le-ltb a b (omega arith), d)
    | no u ↦ let e : a ≡ b = omega arith in rw (gap-none a b (omega arith), gap-none b a (omega arith))
  ]
]

-- ---- as a machine forms it, in 64 bits
module _ (a b : ℕ) (h : a < 9223372036854775808) (k : b < 9223372036854775808) where
  pub gap_word : SFits w64 (sub_ℕ a b)
  gap_word = elim (dec_lt a b) [
    | yes l ↦ rw (lt-ltb a b l) (record { sfits = omega arith })
    | no l ↦ rw (le-ltb a b (omega arith)) (record { sfits = omega arith })
  ]

  -- the number behind its bits
  pub gap-held : (z : ℤ) → z ≡ sub_ℕ a b → to_z w64 (of_z w64 z) ≡ sub_ℕ a b
  gap-held z e = rw e (to_z-of_z gap_word)
