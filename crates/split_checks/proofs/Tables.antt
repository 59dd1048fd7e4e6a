-- The tests of links and movements by the tables: what the functions give.
use Rattle.base_laws.proofs.Kit.{◌≡◌, refl, Bool, true, false, not, ◌&&◌, ◌||◌, List, ℕ, ◌-◌, eq-eqb, ne_eqb, eqb, get_or}
use Rattle.base_laws.specs.Test.{◌and◌, ◌or◌, every}
use Rattle.network_tables.specs.declared.Link.{Link}
use Rattle.network_tables.specs.declared.Movement.{Movement}
use Rattle.network_tables.specs.Fields.{exit_rate_in, signal_in, movement_at, link_in, demand_in}
use Rattle.split_tables.specs.declared.HalfTables.{HalfTables}
use Rattle.split_tables.specs.Tables.{is_in, is_border}
use Rattle.split_checks.specs.Tables.{stands_apart_in, right_kind_in, demand_free_in, own_signal_by}

not-both-of : (a b : Bool) → not (a && b) ≡ (not a || not b)
not-both-of true b = refl
not-both-of false b = refl

module _ (movements : List Movement) (numbers : List ℕ) (j : ℕ) where
  -- ---- `stands_apart`
  pub apart-told : (k : ℕ) {border : Bool} → border ≡ is_border (movement_at movements k) numbers
      → (eqb k j || not (eqb (link_in movements 0 k) (link_in movements 0 j)) && (not border || not (eqb (link_in movements 1 k) (link_in movements 1 j)))) ≡ stands_apart_in movements numbers j k
  unfolding stands_apart_in ◌or◌ ◌and◌
  apart-told k e = rw (not-both-of, e)

  -- ---- `right_kind`
  module _ (links : List Link) (count : ℕ) {border : Bool} (e : border ≡ is_border (movement_at movements j) numbers) where
    pub inside-kind : border ≡ false → true ≡ right_kind_in links movements numbers count j
    unfolding right_kind_in ◌or◌
    inside-kind h = rw (← e, h)

    pub border-kind : border ≡ true → {alone : Bool} → alone ≡ every count (stands_apart_in movements numbers j)
        → (eqb (signal_in links (link_in movements 0 j - 1)) 0 && eqb (exit_rate_in links (link_in movements 0 j - 1)) 0 && alone) ≡ right_kind_in links movements numbers count j
    unfolding right_kind_in ◌or◌ ◌and◌
    border-kind h a = rw (← e, h, a)

  -- ---- `demand_free`
  pub free-told : (step : List ℕ) {border : Bool} {demand : ℕ} → border ≡ is_border (movement_at movements j) numbers → demand ≡ demand_in step (link_in movements 1 j - 1)
      → (not border || eqb demand 0) ≡ demand_free_in (demand_in step) movements numbers j
  unfolding demand_free_in ◌or◌
  free-told step e d = rw (e, d)

-- ---- `own_signal`
module _ (half : HalfTables) (number signal : ℕ) where
  pub none_owned : signal ≡ 0 → true ≡ own_signal_by half number signal
  unfolding own_signal_by ◌or◌
  none_owned e = rw (eq-eqb signal 0 e) (go (eqb number 0))
    where
      go : (b : Bool) → true ≡ (b || true || is_in half.signals (signal - 1))
      go true = refl
      go false = refl

  pub own-told : (signal ≡ 0 → ⊥) → (eqb number 0 || not (eqb (get_or half.signals (signal - 1) 0) 0)) ≡ own_signal_by half number signal
  unfolding own_signal_by ◌or◌ is_in
  own-told h = rw (ne_eqb signal 0 h) (go (eqb number 0))
    where
      go : (b : Bool) → (b || not (eqb (get_or half.signals (signal - 1) 0) 0)) ≡ (b || false || not (eqb (get_or half.signals (signal - 1) 0) 0))
      go true = refl
      go false = refl
