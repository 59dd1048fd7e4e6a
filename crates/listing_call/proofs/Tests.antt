-- The shut tests as those of std, of which the check knows the laws.
use Rattle.base_laws.proofs.Kit.{ℕ, ◌≡◌, refl, Bool, ◌&&◌, ◌||◌, leb}
use Rattle.base_laws.specs.Test.{◌and◌, ◌or◌, within}

pub and_is : (a b : Bool) → a and b ≡ (a && b)
unfolding ◌and◌
and_is a b = refl

pub or_is : (a b : Bool) → a or b ≡ (a || b)
unfolding ◌or◌
or_is a b = refl

pub within_is : (u v w : ℕ) → within u v w ≡ (leb u v && leb v w)
unfolding within ◌and◌
within_is u v w = refl

pub ruleset tests = (and_is, or_is, within_is)
