-- The parts of a test that holds, a test from its parts, and equal tests.
use mathlib.Core.Path.{◌≡◌, refl, sym, ap₂, ◌∙◌}
use mathlib.Core.Bool.{Bool, true, false, true≢false, not}
use mathlib.Core.Logic.{◌⊎◌, inl, inr}
use Prim.Native.Nat.{ℕ, zero, suc, ◌+◌, ◌-◌, ◌≤◌, ◌<◌}
use native.Mathlib.Omega.{arith}
use native.Mathlib.Decide.{dec_le}
use lib.Dec.{leb}
use borrow.Author.Tests.{le-leb, lt-leb, leb-true}
use borrow.Author.Count.{below_more}
use Rattle.base_laws.specs.Test.{◌and◌, ◌or◌, within, every}

pub and_left : (a b : Bool) → a and b ≡ true → a ≡ true
unfolding ◌and◌
and_left true b h = refl
and_left false b h = h

pub and_right : (a b : Bool) → a and b ≡ true → b ≡ true
unfolding ◌and◌
and_right true b h = h
and_right false b h = cc

pub or_cases : (a b : Bool) → a or b ≡ true → (a ≡ true) ⊎ (b ≡ true)
unfolding ◌or◌
or_cases true b h = inl refl
or_cases false b h = inr h

-- a test of every index, at one of them
pub every-at : (n : ℕ) (test : ℕ → Bool) → every n test ≡ true → (k : ℕ) → k < n → test k ≡ true
unfolding every
every-at zero test h k l = absurd (omega arith)
every-at (suc n) test h k l = below_more (λ k. test k ≡ true) n (every-at n test (and_left _ _ h)) (and_right _ _ h) k (omega arith)

pub every_of : (n : ℕ) (test : ℕ → Bool) → ((k : ℕ) → k < n → test k ≡ true) → every n test ≡ true
unfolding every ◌and◌
every_of zero test h = refl
every_of (suc n) test h = rw (every_of n test (λ k l. h k (omega arith)), h n (omega arith))

-- one that fails, fails somewhere
pub every-fails : (n : ℕ) (test : ℕ → Bool) → every n test ≡ false → (k : ℕ) × (k < n) × (test k ≡ false)
unfolding every ◌and◌
every-fails zero test h = let z : ◌≡◌ {A = ℕ} 0 1 = cc in absurd (omega arith)
every-fails (suc n) test h = go (every n test) refl h (every-fails n test)
  where
    go : (b : Bool) → every n test ≡ b → b and test n ≡ false → (every n test ≡ false → (k : ℕ) × (k < n) × (test k ≡ false)) → (k : ℕ) × (k < suc n) × (test k ≡ false)
    go true e f ih = (n, omega arith, f)
    go false e f ih = let r = ih e in (r.0, omega (arith, r.1), r.2)

pub every-same : (n : ℕ) (f g : ℕ → Bool) → ((k : ℕ) → k < n → f k ≡ g k) → every n f ≡ every n g
unfolding every
every-same zero f g h = refl
every-same (suc n) f g h = ap₂ ◌and◌ (every-same n f g (λ k l. h k (omega arith))) (h n (omega arith))

-- a test, either way, and not both ways
pub either_way : (t : Bool) → (t ≡ true) ⊎ (t ≡ false)
either_way true = inl refl
either_way false = inr refl

pub not-both : {t : Bool} → t ≡ true → t ≡ false → ⊥
not-both e f = let z : true ≡ false = sym e ∙ f in let w : ◌≡◌ {A = ℕ} 0 1 = cc in omega arith

pub true-not : (t : Bool) → t ≡ false → not t ≡ true
true-not t e = rw e

pub and_both : (a b : Bool) → a ≡ true → b ≡ true → a and b ≡ true
unfolding ◌and◌
and_both a b e f = rw (e, f)

pub or_left : (a b : Bool) → a ≡ true → a or b ≡ true
unfolding ◌or◌
or_left a b h = rw h

pub or_right : (a b : Bool) → b ≡ true → a or b ≡ true
unfolding ◌or◌
or_right true b h = refl
or_right false b h = h

pub or-neither : (a b : Bool) → a or b ≡ false → (a ≡ false) × (b ≡ false)
unfolding ◌or◌
or-neither true b h = absurd (true≢false h)
or-neither false b h = (refl, h)

-- one that fails somewhere
pub every-not : (n : ℕ) (test : ℕ → Bool) (k : ℕ) → k < n → test k ≡ false → every n test ≡ false
every-not n test k l h = go (every n test) refl
  where
    go : (t : Bool) → every n test ≡ t → t ≡ false
    go false e = refl
    go true e = absurd (true≢false (sym (every-at n test e k l) ∙ h))

pub is_within : (u v w : ℕ) → u ≤ v → v ≤ w → within u v w ≡ true
unfolding within
is_within u v w p q = and_both _ _ (le-leb u v p) (le-leb v w q)

pub within-parts : (u v w : ℕ) → within u v w ≡ true → (u ≤ v) × (v ≤ w)
unfolding within
within-parts u v w h = (leb-true u v (and_left _ _ h), leb-true v w (and_right _ _ h))

-- a test of two sums that both have one more part
pub leb-plus : (x y c : ℕ) → leb x y ≡ leb (x + c) (y + c)
leb-plus x y c = elim (dec_le x y) [
  | yes h ↦ le-leb x y h ∙ sym (le-leb (x + c) (y + c) (omega arith))
  | no h ↦ lt-leb x y (omega arith) ∙ sym (lt-leb (x + c) (y + c) (omega arith))
]

-- a sum in place of a difference
pub leb-over : (a b c : ℕ) → leb a (c + b) ≡ leb (a - b) c
leb-over a b c = elim (dec_le a (c + b)) [
  | yes h ↦ le-leb a (c + b) h ∙ sym (le-leb (a - b) c (omega arith))
  | no h ↦ lt-leb a (c + b) (omega arith) ∙ sym (lt-leb (a - b) c (omega arith))
]

-- two tests that hold together
pub leb-same : (a b c d : ℕ) → (a ≤ b → c ≤ d) → (c ≤ d → a ≤ b) → leb a b ≡ leb c d
leb-same a b c d f g = elim (dec_le a b) [
  | yes h ↦ le-leb a b h ∙ sym (le-leb c d (f h))
  | no h ↦ lt-leb a b (omega arith) ∙ sym (lt-leb c d (elim (dec_le c d) [ yes l ↦ absurd (h (g l)) | no l ↦ omega arith ]))
]
