-- Where the clipped tram lines come from, and that refusal 28 does not arise of them.
use Rattle.base_laws.proofs.Kit.{◌≡◌, refl, Bool, true, false, cond, not, List, [], ◌∷◌, ℕ, zero, suc, ◌-◌, ◌≤◌, ◌<◌, min, max, arith, ltb, eqb, length, get_or, leb-true, le-leb, ltb-true, lt-ltb}
use Rattle.text_reader.specs.Lines.{Line, no_line, number, number_of}
use Rattle.text_writer.specs.Records.{record_line}
use Rattle.base_laws.specs.Test.{◌or◌, within}
use Rattle.model.specs.Rules.{apart, tram_exists}
use Rattle.base_laws.proofs.Tests.{and_left, and_both, or_right}
use Rattle.model_carry.specs.Part.{meets, clip, clipped}
use Rattle.model_carry.proofs.Trams.{clip_line}

module _ (a c : ℕ) where
  -- the line of which clipped line k is a part
  unfoldable pub origin : List Line → ℕ → ℕ
  origin [] k = k
  origin (t ∷ ts) zero = cond (meets a c t) 0 (suc (origin ts zero))
  origin (t ∷ ts) (suc k) = cond (meets a c t) (suc (origin ts k)) (suc (origin ts (suc k)))

  pub record Comes (ts : List Line) (k j : ℕ) : Type 0 where
    pub below : j < length ts
    pub part_of : meets a c (get_or ts j no_line) ≡ true
    pub is : get_or (clipped a c ts) k [] ≡ clip a c (get_or ts j no_line)

  pub comes : (ts : List Line) (k : ℕ) → k < length (clipped a c ts) → Comes ts k (origin ts k)
  unfolding clipped origin
  comes [] k h = absurd (omega arith)
  comes (t ∷ ts) zero h = go (meets a c t) refl h (comes ts zero)
    where
      go : (b : Bool) → meets a c t ≡ b → 0 < length (cond b (clip a c t ∷ clipped a c ts) (clipped a c ts)) → (0 < length (clipped a c ts) → Comes ts 0 (origin ts 0))
          → Comes (t ∷ ts) 0 (cond (meets a c t) 0 (suc (origin ts 0)))
      go true e l ih = rw e (record { below = omega arith; part_of = e; is = rw e refl })
      go false e l ih = let w = ih l in rw e (record { below = omega (arith, w.below); part_of = w.part_of; is = rw e w.is })
  comes (t ∷ ts) (suc k) h = go (meets a c t) refl h (comes ts k) (comes ts (suc k))
    where
      go : (b : Bool) → meets a c t ≡ b → suc k < length (cond b (clip a c t ∷ clipped a c ts) (clipped a c ts)) → (k < length (clipped a c ts) → Comes ts k (origin ts k))
          → (suc k < length (clipped a c ts) → Comes ts (suc k) (origin ts (suc k))) → Comes (t ∷ ts) (suc k) (cond (meets a c t) (suc (origin ts k)) (suc (origin ts (suc k))))
      go true e l ih more = let w = ih (omega arith) in rw e (record { below = omega (arith, w.below); part_of = w.part_of; is = rw e w.is })
      go false e l ih more = let w = more l in rw e (record { below = omega (arith, w.below); part_of = w.part_of; is = rw e w.is })

  -- clipped lines stand in the old order
  pub origin-rises : (ts : List Line) (j k : ℕ) → j < k → k < length (clipped a c ts) → origin ts j < origin ts k
  unfolding clipped origin
  origin-rises [] j k h l = absurd (omega arith)
  origin-rises (t ∷ ts) j zero h l = absurd (omega arith)
  origin-rises (t ∷ ts) zero (suc k) h l = go (meets a c t) l (origin-rises ts zero (suc k))
    where
      go : (b : Bool) → suc k < length (cond b (clip a c t ∷ clipped a c ts) (clipped a c ts)) → (0 < suc k → suc k < length (clipped a c ts) → origin ts 0 < origin ts (suc k))
          → cond b 0 (suc (origin ts 0)) < cond b (suc (origin ts k)) (suc (origin ts (suc k)))
      go true l ih = omega arith
      go false l ih = omega (arith, ih (omega arith) l)
  origin-rises (t ∷ ts) (suc j) (suc k) h l = go (meets a c t) l (origin-rises ts j k) (origin-rises ts (suc j) (suc k))
    where
      go : (b : Bool) → suc k < length (cond b (clip a c t ∷ clipped a c ts) (clipped a c ts)) → (j < k → k < length (clipped a c ts) → origin ts j < origin ts k)
          → (suc j < suc k → suc k < length (clipped a c ts) → origin ts (suc j) < origin ts (suc k))
          → cond b (suc (origin ts j)) (suc (origin ts (suc j))) < cond b (suc (origin ts k)) (suc (origin ts (suc k)))
      go true l ih more = omega (arith, ih (omega arith) (omega arith))
      go false l ih more = omega (arith, more h l)

  pub clipped-length : (ts : List Line) → length (clipped a c ts) ≤ length ts
  unfolding clipped
  clipped-length [] = omega arith
  clipped-length (t ∷ ts) = go (meets a c t) (clipped-length ts)
    where
      go : (b : Bool) → length (clipped a c ts) ≤ length ts → length (cond b (clip a c t ∷ clipped a c ts) (clipped a c ts)) ≤ suc (length ts)
      go true h = omega arith
      go false h = omega arith

  -- ---- 28
  pub clip-exists : (R K : ℕ) (t : Line) → meets a c t ≡ true → tram_exists R K t ≡ true → tram_exists R (c - a) (clip_line a c t) ≡ true
  unfolding tram_exists meets clip record_line number number_of within
  clip-exists R K t m e =
      let w = leb-true (max (number t 2) (suc a)) (min (number t 3) c) m in
      and_both _ _ (and_both _ _ (and_left _ _ (and_left _ _ e)) (le-leb 1 (max (number t 2) (suc a) - a) (omega (arith, w))))
      (and_both _ _ (le-leb (max (number t 2) (suc a) - a) (min (number t 3) c - a) (omega (arith, w))) (le-leb (min (number t 3) c - a) (c - a) (omega (arith, w))))

  pub clip-apart : (t u : Line) → apart t u ≡ true → apart (clip_line a c t) (clip_line a c u) ≡ true
  unfolding apart clip record_line number number_of ◌or◌
  clip-apart t u h =
      weaken (not (eqb (number t 0) (number u 0))) (ltb (number t 3) (number u 2)) (ltb (number u 3) (number t 2))
      (ltb (min (number t 3) c - a) (max (number u 2) (suc a) - a)) (ltb (min (number u 3) c - a) (max (number t 2) (suc a) - a))
      (before (number t 3) (number u 2)) (before (number u 3) (number t 2)) h
    where
      weaken : (x y z y' z' : Bool) → (y ≡ true → y' ≡ true) → (z ≡ true → z' ≡ true) → x or y or z ≡ true → x or y' or z' ≡ true
      weaken true y z y' z' f g e = refl
      weaken false true z y' z' f g e = rw (f refl)
      weaken false false z y' z' f g e = or_right y' z' (g e)

      before : (x y : ℕ) → ltb x y ≡ true → ltb (min x c - a) (max y (suc a) - a) ≡ true
      before x y e = lt-ltb (min x c - a) (max y (suc a) - a) (omega (arith, ltb-true x y e))
