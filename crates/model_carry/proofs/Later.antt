-- Refusals reported some lines later.
use Rattle.base_laws.proofs.Kit.{◌≡◌, refl, Bool, true, false, ℕ, zero, suc, ◌+◌, ◌≤◌, ◌<◌, arith}
use Rattle.base_search.specs.Checks.{or_else, first_from, checked, Verdict}
use Rattle.model_carry.specs.CarriesOn.{later}
use Rattle.std.specs.Prelude.{Ok, Err}

pub later-or-else : (a : ℕ) (v w : Verdict) → or_else (later a v) (later a w) ≡ later a (or_else v w)
unfolding later or_else
later-or-else a (Ok tt) w = refl
later-or-else a (Err r) w = refl

pub later-checked : (a : ℕ) (b : Bool) (x y z : ℕ) → checked b x (a + y) z ≡ later a (checked b x y z)
unfolding later checked
later-checked a true x y z = refl
later-checked a false x y z = refl

-- a search whose verdicts are reported later, and are d further on
pub later_first : (a d : ℕ) (f g : ℕ → Verdict) (n i : ℕ) → ((k : ℕ) → i ≤ k → k < i + n → f (d + k) ≡ later a (g k)) → first_from f n (d + i) ≡ later a (first_from g n i)
unfolding first_from
later_first a d f g zero i h = unfold later in refl
later_first a d f g (suc n) i h =
    let e : d + i + 1 ≡ d + (i + 1) = omega arith in
    rw (h i (omega arith) (omega arith), e, later_first a d f g n (i + 1) (λ k l u. h k (omega arith) (omega arith))) (later-or-else a (g i) (first_from g n (i + 1)))

pub later-none : (v : Verdict) → later 0 v ≡ v
unfolding later
later-none (Ok tt) = refl
later-none (Err r) = let e : 0 + r.line ≡ r.line = omega arith in rw e refl

-- later is refused exactly what is refused
pub later-passes : (a : ℕ) (v : Verdict) → later a v ≡ Ok tt → v ≡ Ok tt
unfolding later
later-passes a (Ok tt) h = refl
later-passes a (Err r) h = cc
