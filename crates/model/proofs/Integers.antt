-- Differences of naturals, weighted and summed in the integers.
use Rattle.base_laws.proofs.Kit.{◌≡◌, refl, ap, ℕ, zero, suc, ◌+◌, ◌*◌, ◌-◌, dec_le, arith, lt-ltb, le-ltb}
use lib.IntN.{ℤ, pos, negsuc, neg_ℤ, sub_ℕ, ◌+ℤ◌, ◌*ℤ◌}
use Rattle.base_laws.specs.Sum.{sum}
use Rattle.model.specs.Guarantees.{sumℤ}

-- z is a - b
data Difference (a b : ℕ) : ℤ → Type 0 where
  above : (d : ℕ) → a ≡ b + d → Difference a b (pos d)
  below : (d : ℕ) → a + suc d ≡ b → Difference a b (negsuc d)

difference : (a b : ℕ) → Difference a b (sub_ℕ a b)
difference a b = elim (dec_le b a) [
  | yes h ↦ rw (le-ltb a b h) (above (a - b) (omega arith))
  | no h ↦ rw (lt-ltb a b (omega arith)) (below (b - suc a) (omega arith))
]

shift : (a b c d : ℕ) {z : ℤ} → a + d ≡ b + c → Difference c d z → Difference a b z
shift a b c d e (above k f) = above k (omega arith)
shift a b c d e (below k f) = below k (omega arith)

plus : (a b c d : ℕ) {y z : ℤ} → Difference a b y → Difference c d z → Difference (a + c) (b + d) (y +ℤ z)
plus a b c d (above k e) (above l f) = above (k + l) (omega arith)
plus a b c d (above k e) (below l f) = shift _ _ k (suc l) (omega arith) (difference k (suc l))
plus a b c d (below k e) (above l f) = shift _ _ l (suc k) (omega arith) (difference l (suc k))
plus a b c d (below k e) (below l f) = below (suc (k + l)) (omega arith)

negative : (a b d : ℕ) → a + d ≡ b → Difference a b (neg_ℤ (pos d))
negative a b zero e = above 0 (omega arith)
negative a b (suc d) e = below d e

times : (a b w : ℕ) {z : ℤ} → Difference a b z → Difference (a * w) (b * w) (z *ℤ pos w)
times a b w (above k e) = above (k * w) (omega (arith, ap (λ x. x * w) e))
times a b w (below k e) = negative (a * w) (b * w) (suc k * w) (omega (arith, ap (λ x. x * w) e))

weighted-sum : (a b w : ℕ → ℕ) (n : ℕ) → Difference (sum n (λ k. a k * w k)) (sum n (λ k. b k * w k)) (sumℤ n (λ k. sub_ℕ (a k) (b k) *ℤ pos (w k)))
unfolding sum sumℤ
weighted-sum a b w zero = above 0 refl
weighted-sum a b w (suc n) = plus _ _ _ _ (weighted-sum a b w n) (times (a n) (b n) (w n) (difference (a n) (b n)))

-- an equation of naturals without differences, as one with them
pub signed-sum : (t s : ℕ) (a b w : ℕ → ℕ) (n : ℕ) → t + sum n (λ k. b k * w k) ≡ s + sum n (λ k. a k * w k)
    → pos t ≡ pos s +ℤ sumℤ n (λ k. sub_ℕ (a k) (b k) *ℤ pos (w k))
signed-sum t s a b w n e = is (shift t 0 _ _ (omega arith) (plus s 0 _ _ (above s (omega arith)) (weighted-sum a b w n)))
  where
    is : {z : ℤ} → Difference t 0 z → pos t ≡ z
    is (above k f) = ap pos (omega arith)
    is (below k f) = absurd (omega arith)
