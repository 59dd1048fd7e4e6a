-- A step that is not refused keeps what `Keeps` says.
use Rattle.base_laws.proofs.Kit.{ℕ, zero, suc, ◌*◌, ◌<◌, ◌≡◌, refl, true, false, ◌&&◌, List, arith, eqb-true, leb, length, get_or}
use Rattle.std.specs.List.{list_all}
use Rattle.std.proofs.lemmas.List.Sums.{AllPass-from_list_all}
use lib.Ieee.{Float, nan, binary64, add, sub, round, is_nan}
use lib.Ieee.Scale.{finite}
use Rattle.base_laws.specs.Indexed.{list}
use Rattle.base_laws.proofs.Bools.{and_left, and_right}
use Rattle.base_laws.proofs.Laws.{length-list, get-list}
use Rattle.base_floats.proofs.Sums.{finite-real, sub-real, add-finite}
use Rattle.traces.specs.Step.{place_after, leader_of}
use Rattle.traces.specs.Call.{valid_place, valid_distance, valid_counts, valid_values}
use Rattle.traces.specs.Guarantees.{Keeps}
use Rattle.traces.proofs.Values.{place-finite, distance-place, place-within}
use Rattle.traces.proofs.Moved.{Real, moved-not-back, moved-not-across, moved-within, moved-finite, moved-behind}

-- what is known of a call that is not refused
pub record Valid (places advances lines : List Float) (spacing : Float) : Type 0 where
  pub matched : length advances ≡ length places
  pub gap : finite spacing ≡ true
  pub place : (i : ℕ) → i < length places → valid_place (get_or places i nan) ≡ true
  pub advance : (i : ℕ) → i < length advances → valid_distance (get_or advances i nan) ≡ true
  pub line : (j : ℕ) → j < length lines → valid_place (get_or lines j nan) ≡ true

two-million : finite (round binary64 false (2 * 1_000_000) 1) ≡ true
unfolding round
two-million = refl

module _ (places advances lines : List Float) (spacing : Float) where
  pub valid-of : valid_counts places advances lines ≡ true → valid_values places advances lines spacing ≡ true → Valid places advances lines spacing
  unfolding valid_counts valid_values
  valid-of c v =
      let p = list_all valid_place places in
      let a = list_all valid_distance advances in
      let l = list_all valid_place lines in
      let three = and_left (p && a && l) _ v in
      let two = and_left (p && a) l three in
      record {
        matched = eqb-true (length advances) (length places) (and_right (leb (length places) 64 && leb (length lines) 64) _ c);
        gap = place-finite spacing (distance-place spacing (and_right (p && a && l) _ v));
        place = λ i. AllPass-from_list_all valid_place places (and_left p a two) i nan;
        advance = λ i. AllPass-from_list_all valid_distance advances (and_right p a two) i nan;
        line = λ j. AllPass-from_list_all valid_place lines (and_right (p && a) l three) j nan;
      }

module _ (places advances lines : List Float) (spacing : Float) (s : Valid places advances lines spacing) where
  finite-place : (i : ℕ) → i < length places → finite (get_or places i nan) ≡ true
  finite-place i h = place-finite (get_or places i nan) (s.place i h)

  valid-advance : (i : ℕ) → i < length places → valid_place (get_or advances i nan) ≡ true
  valid-advance i h = distance-place (get_or advances i nan) (s.advance i (omega (arith, s.matched)))

  finite-sum : (i : ℕ) → i < length places → finite (add binary64 (get_or places i nan) (get_or advances i nan)) ≡ true
  finite-sum i h =
      add-finite 1_000_000 two-million (get_or places i nan) (get_or advances i nan) (place-within (get_or places i nan) (s.place i h)) (place-within (get_or advances i nan) (valid-advance i h))

  real-place : (i : ℕ) → i < length places → is_nan (get_or places i nan) ≡ false
  real-place i h = finite-real (get_or places i nan) (finite-place i h)

  real-sum : (i : ℕ) → i < length places → is_nan (add binary64 (get_or places i nan) (get_or advances i nan)) ≡ false
  real-sum i h = finite-real (add binary64 (get_or places i nan) (get_or advances i nan)) (finite-sum i h)

  real-line : (j : ℕ) → j < length lines → is_nan (get_or lines j nan) ≡ false
  real-line j h = finite-real (get_or lines j nan) (place-finite (get_or lines j nan) (s.line j h))

  real-gap : (i : ℕ) → i < length places → is_nan (sub binary64 (get_or places i nan) spacing) ≡ false
  real-gap i h = sub-real binary64 (get_or places i nan) spacing (finite-place i h) s.gap

  real-front : (i : ℕ) → i < length places → Real spacing (leader_of places i)
  unfolding leader_of
  real-front zero h = tt
  real-front (suc i) h = real-gap i (omega arith)

  pub keeps : Keeps places advances lines spacing (list (length places) (place_after places advances lines spacing))
  unfolding place_after leader_of
  keeps =
      let f = place_after places advances lines spacing in
      let n = length places in
      record {
        same_count = length-list f n;
        not_back = λ i h. rw (get-list f nan n i h) (moved-not-back spacing _ (leader_of places i) lines (real-place i h) (real-sum i h) (real-front i h) real-line);
        not-across = λ i j h l a. rw (get-list f nan n i h) (moved-not-across spacing _ (leader_of places i) lines (real-place i h) (real-sum i h) (real-front i h) real-line j l a);
        behind-leader = λ i h m. rw (get-list f nan n (suc i) h) (moved-behind spacing _ (get_or places i nan) lines (real-place (suc i) h) (real-sum (suc i) h) (real-gap i (omega arith)) real-line (rw (get-list f nan n (suc i) h) at m));
        within-advance = λ i h m. rw (get-list f nan n i h) (moved-within spacing _ (leader_of places i) lines (real-place i h) (real-sum i h) (real-front i h) real-line (rw (get-list f nan n i h) at m));
        stays-finite = λ i h. rw (get-list f nan n i h) (moved-finite spacing _ (leader_of places i) lines (real-place i h) (real-sum i h) (real-front i h) real-line (finite-place i h) (finite-sum i h));
      }
