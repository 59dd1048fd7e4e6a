-- Refusal 38: what a valid value is.
use Rattle.base_laws.proofs.Kit.{◌≡◌, refl, Bool, true, false, ◌&&◌, ◌||◌, cond}
use Rattle.std.specs.Prelude.{Some, None}
use Rattle.std.proofs.Common.{Less, Equal, Greater}
use Rattle.std.specs.Ordering.{is_le, is_some_and, partial_le, float_partial_cmp}
use lib.Ieee.{Float, nan, inf, fin, neg, lt, eq, le, of_int}
use lib.Ieee.Scale.{finite}
use Rattle.base_laws.proofs.Bools.{no_truth, and_left, and_right}
use Rattle.base_floats.proofs.Order.{under}
use Rattle.base_floats.proofs.Sums.{Within, size-within}
use Rattle.traces.specs.Call.{million, valid_place, valid_distance}

-- a range compares its ends by `partial_cmp`, which says what the three tests do
compared : (less same greater : Bool) → is_some_and is_le (cond less (Some Less) (cond same (Some Equal) (cond greater (Some Greater) None))) ≡ (less || same)
compared true same greater = refl
compared false true greater = refl
compared false false true = refl
compared false false false = refl

pub partial_le-is : (x y : Float) → partial_le float_partial_cmp x y ≡ le x y
unfolding le
partial_le-is x y = compared (lt x y) (eq x y) (lt y x)

-- a NaN and an infinity fail one of the two comparisons
pub valid-place-is : (x : Float) → (le (neg million) x && le x million) ≡ valid_place x
unfolding valid_place million le neg of_int
valid-place-is nan = refl
valid-place-is (inf true) = refl
valid-place-is (inf false) = refl
valid-place-is (fin s m e) = refl

pub place-finite : (x : Float) → valid_place x ≡ true → finite x ≡ true
unfolding valid_place
place-finite x h = and_left (finite x) _ h

pub distance-place : (x : Float) → valid_distance x ≡ true → valid_place x ≡ true
unfolding valid_distance
distance-place x h = and_left (valid_place x) _ h

pub place-within : (x : Float) → valid_place x ≡ true → Within 1_000_000 x
unfolding valid_place million of_int neg
place-within nan h = no_truth h
place-within (inf s) h = no_truth h
place-within (fin s m e) h =
    size-within 1_000_000 s _ _ (under (neg million) (fin s m e) (and_left (le (neg million) (fin s m e)) (le (fin s m e) million) h))
    (under (fin s m e) million (and_right (le (neg million) (fin s m e)) (le (fin s m e) million) h))
