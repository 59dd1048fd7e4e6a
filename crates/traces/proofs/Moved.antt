-- Where one vehicle ends: its target is at most each obstacle.
use Rattle.base_laws.proofs.Kit.{ℕ, zero, suc, ◌<◌, ◌≡◌, refl, Bool, true, false, cond, ◌⊎◌, inl, inr, List, [], ◌∷◌, arith, length, get_or}
use lib.Ieee.{Float, nan, binary64, add, sub, lt, le, is_nan}
use lib.Ieee.Scale.{finite}
use Rattle.traces.specs.declared.Vehicle.{Vehicle}
use Rattle.traces.specs.declared.Obstacle.{Obstacle}
use Rattle.traces.specs.declared.Obstacle.TheVariants.{OpenRoad, LeaderPlace, RedLine}
use Rattle.traces.specs.Step.{nearer, cut_to, line_for, cut_to_lines, target_of, furthest, place_moved_to}
use Rattle.base_floats.proofs.Sums.{between}
use Rattle.base_floats.proofs.Order.{float-le-trans, float-lt-le, float-total, float-le-refl, float-lt-self}

-- the nearer of a target and a stop, neither a NaN
record Nearer (target stop near : Float) : Type 0 where
  pub real : is_nan near ≡ false
  pub to-target : le near target ≡ true
  pub to-stop : le near stop ≡ true

nearer-is : (target stop : Float) → is_nan target ≡ false → is_nan stop ≡ false → Nearer target stop (nearer target stop)
unfolding nearer
nearer-is target stop p q = go (lt stop target) refl
  where
    go : (b : Bool) → lt stop target ≡ b → Nearer target stop (cond b stop target)
    go true h = record { real = q; to-target = float-lt-le stop target h; to-stop = float-le-refl stop q }
    go false h = record { real = p; to-target = float-le-refl target p; to-stop = float-total stop target q p h }

-- an obstacle whose stop is no NaN
abbrev pub Real : Float → Obstacle → Type 0
Real spacing OpenRoad = Unit
Real spacing (LeaderPlace leader) = is_nan (sub binary64 leader spacing) ≡ false
Real spacing (RedLine line) = is_nan line ≡ false

-- a cut target is no NaN and at most the target
record Cut (target cut : Float) : Type 0 where
  pub real : is_nan cut ≡ false
  pub at_most : le cut target ≡ true

cut-is : (spacing : Float) (o : Obstacle) (target : Float) → Real spacing o → is_nan target ≡ false → Cut target (cut_to spacing o target)
unfolding cut_to
cut-is spacing OpenRoad target r p = record { real = p; at_most = float-le-refl target p }
cut-is spacing (LeaderPlace leader) target r p =
    let n = nearer-is target (sub binary64 leader spacing) p r in
    record { real = n.real; at_most = n.to-target }
cut-is spacing (RedLine line) target r p =
    let n = nearer-is target line p r in
    record { real = n.real; at_most = n.to-target }

leader-cut : (spacing leader target : Float) → is_nan (sub binary64 leader spacing) ≡ false → is_nan target ≡ false
    → le (cut_to spacing (LeaderPlace leader) target) (sub binary64 leader spacing) ≡ true
unfolding cut_to
leader-cut spacing leader target r p = (nearer-is target (sub binary64 leader spacing) p r).to-stop

line-real : (spacing place line : Float) → is_nan line ≡ false → Real spacing (line_for place line)
unfolding line_for
line-real spacing place line r = go (le place line)
  where
    go : (b : Bool) → Real spacing (cond b (RedLine line) OpenRoad)
    go true = r
    go false = tt

line-cut : (spacing place line target : Float) → is_nan line ≡ false → is_nan target ≡ false → le place line ≡ true
    → le (cut_to spacing (line_for place line) target) line ≡ true
unfolding cut_to line_for
line-cut spacing place line target r p h = rw h (nearer-is target line p r).to-stop

module _ (spacing place : Float) where
  one_cut : (line target : Float) → is_nan line ≡ false → is_nan target ≡ false → Cut target (cut_to spacing (line_for place line) target)
  one_cut line target r p = cut-is spacing (line_for place line) target (line-real spacing place line r) p

  lines_cut : (lines : List Float) (target : Float) → is_nan target ≡ false → ((j : ℕ) → j < length lines → is_nan (get_or lines j nan) ≡ false)
      → Cut target (cut_to_lines spacing place lines target)
  unfolding cut_to_lines
  lines_cut [] target p r = record { real = p; at_most = float-le-refl target p }
  lines_cut (line ∷ lines) target p r =
      let c = one_cut line target (r 0 (omega arith)) p in
      let d = lines_cut lines (cut_to spacing (line_for place line) target) c.real (λ j h. r (suc j) (omega arith)) in
      record { real = d.real; at_most = float-le-trans _ _ target d.at_most c.at_most }

  each_line : (lines : List Float) (target : Float) → is_nan target ≡ false → ((j : ℕ) → j < length lines → is_nan (get_or lines j nan) ≡ false)
      → (k : ℕ) → k < length lines → le place (get_or lines k nan) ≡ true → le (cut_to_lines spacing place lines target) (get_or lines k nan) ≡ true
  unfolding cut_to_lines
  each_line [] target p r k h a = absurd (omega arith)
  each_line (line ∷ lines) target p r zero h a =
      let c = one_cut line target (r 0 h) p in
      float-le-trans _ _ line (lines_cut lines _ c.real (λ j l. r (suc j) (omega arith))).at_most (line-cut spacing place line target (r 0 h) p a)
  each_line (line ∷ lines) target p r (suc k) h a =
      each_line lines _ (one_cut line target (r 0 (omega arith)) p).real (λ j l. r (suc j) (omega arith)) k (omega arith) a

-- ---- one vehicle, with what is known of its numbers
module _ (spacing : Float) (vehicle : Vehicle) (ahead : Obstacle) (lines : List Float)
    (here : is_nan vehicle.place ≡ false) (sum : is_nan (add binary64 vehicle.place vehicle.advance) ≡ false)
    (front : Real spacing ahead) (all : (j : ℕ) → j < length lines → is_nan (get_or lines j nan) ≡ false) where
  first : Cut (add binary64 vehicle.place vehicle.advance) (cut_to spacing ahead (add binary64 vehicle.place vehicle.advance))
  first = cut-is spacing ahead (add binary64 vehicle.place vehicle.advance) front sum

  abbrev start : Float
  start = cut_to spacing ahead (add binary64 vehicle.place vehicle.advance)

  abbrev target : Float
  target = cut_to_lines spacing vehicle.place lines start

  at-start : Cut start target
  at-start = lines_cut spacing vehicle.place lines start first.real all

  -- where it ends: at the target, which is ahead, or where it was
  pub ends : ((place_moved_to spacing vehicle ahead lines ≡ target) × (lt vehicle.place target ≡ true)) ⊎ (place_moved_to spacing vehicle ahead lines ≡ vehicle.place)
  unfolding target_of place_moved_to furthest
  ends = go (lt vehicle.place target) refl
    where
      go : (b : Bool) → lt vehicle.place target ≡ b
          → ((cond b target vehicle.place ≡ target) × (lt vehicle.place target ≡ true)) ⊎ (cond b target vehicle.place ≡ vehicle.place)
      go true h = inl (refl, h)
      go false h = inr refl

  pub moved-not-back : le vehicle.place (place_moved_to spacing vehicle ahead lines) ≡ true
  moved-not-back = elim ends [
    | inl e ↦ rw e.0 (float-lt-le vehicle.place target e.1)
    | inr e ↦ rw e (float-le-refl vehicle.place here)
  ]

  pub moved-not-across : (j : ℕ) → j < length lines → le vehicle.place (get_or lines j nan) ≡ true
      → le (place_moved_to spacing vehicle ahead lines) (get_or lines j nan) ≡ true
  moved-not-across j h a = elim ends [
    | inl e ↦ rw e.0 (each_line spacing vehicle.place lines start first.real all j h a)
    | inr e ↦ rw e a
  ]

  -- one that moves goes at most to its place plus its advance, cut to what is ahead
  pub moved-to-start : lt vehicle.place (place_moved_to spacing vehicle ahead lines) ≡ true → le (place_moved_to spacing vehicle ahead lines) start ≡ true
  moved-to-start m = elim ends [
    | inl e ↦ rw e.0 at-start.at_most
    | inr e ↦ float-lt-self vehicle.place (rw e at m)
  ]

  pub moved-within : lt vehicle.place (place_moved_to spacing vehicle ahead lines) ≡ true
      → le (place_moved_to spacing vehicle ahead lines) (add binary64 vehicle.place vehicle.advance) ≡ true
  moved-within m = float-le-trans _ start _ (moved-to-start m) first.at_most

  pub moved-finite : finite vehicle.place ≡ true → finite (add binary64 vehicle.place vehicle.advance) ≡ true
      → finite (place_moved_to spacing vehicle ahead lines) ≡ true
  moved-finite p q = elim ends [
    | inl e ↦
        rw e.0
        (between vehicle.place target (add binary64 vehicle.place vehicle.advance) p q (float-lt-le vehicle.place target e.1)
        (float-le-trans target start _ at-start.at_most first.at_most))
    | inr e ↦ rw e p
  ]

-- behind a leader
pub moved-behind : (spacing : Float) (vehicle : Vehicle) (leader : Float) (lines : List Float)
    → is_nan vehicle.place ≡ false → is_nan (add binary64 vehicle.place vehicle.advance) ≡ false
    → is_nan (sub binary64 leader spacing) ≡ false → ((j : ℕ) → j < length lines → is_nan (get_or lines j nan) ≡ false)
    → lt vehicle.place (place_moved_to spacing vehicle (LeaderPlace leader) lines) ≡ true
    → le (place_moved_to spacing vehicle (LeaderPlace leader) lines) (sub binary64 leader spacing) ≡ true
moved-behind spacing vehicle leader lines here sum front all m =
    float-le-trans _ _ _ (moved-to-start spacing vehicle (LeaderPlace leader) lines here sum front all m)
    (leader-cut spacing leader (add binary64 vehicle.place vehicle.advance) front sum)
