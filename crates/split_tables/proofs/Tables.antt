-- What a half's table says of its links, signals and movements.
use Rattle.base_laws.proofs.Kit.{ℕ, suc, ◌-◌, ◌<◌, ◌≡◌, refl, Bool, true, false, not, Bool·beq, cond, List, arith, ne_eqb, get_or}
use Rattle.text_reader.specs.Lines.{Line}
use Rattle.base_laws.specs.Sum.{only}
use Rattle.model.specs.Network.{link_count, signal_count, movement_count, from_link, to_link}
use Rattle.network_tables.specs.declared.Movement.{Movement}
use Rattle.network_tables.specs.Fields.{movement_at}
use Rattle.network_tables.specs.Tables.{MovementTable}
use Rattle.network_tables.proofs.Tables.{from-link-at, to-link-at}
use Rattle.model_split.specs.Numbering.{rank}
use Rattle.model_split.specs.Halves.{Half, inside}
use Rattle.split_tables.specs.Tables.{is_in, is_inside, is_border, HalfNumbered}
use Rattle.split_tables.specs.declared.HalfTables.{HalfTables}

-- a number from 1, where the test holds
pub in-where : (numbers : List ℕ) (place : ℕ) (test : Bool) (n : ℕ) → get_or numbers place 0 ≡ only test (suc n) → is_in numbers place ≡ test
unfolding is_in
in-where numbers place true n e = rw (e, ne_eqb (suc n) 0 (λ z. omega arith)) refl
in-where numbers place false n e = rw e refl

-- just one of two tests holds
pub just_one : (a b : Bool) → not (Bool·beq a b) ≡ cond a (not b) b
just_one true true = refl
just_one true false = refl
just_one false true = refl
just_one false false = refl

-- a movement by the links of a half that are numbered: inside it, or at its border
module _ {network : List Line} (h : Half) (numbers : List ℕ) (movements : List Movement) (numbered : (i : ℕ) → i < link_count network → get_or numbers i 0 ≡ only (h.has-link i) (suc (rank h.has-link i)))
    (table : MovementTable network movements) (j : ℕ) (l : j < movement_count network) (from : from_link network j - 1 < link_count network) (to : to_link network j - 1 < link_count network) where
  from-in : is_in numbers ((movement_at movements j).from - 1) ≡ h.has-link (from_link network j - 1)
  from-in = rw (from-link-at table j l) (in-where numbers _ _ _ (numbered (from_link network j - 1) from))

  to-in : is_in numbers ((movement_at movements j).to - 1) ≡ h.has-link (to_link network j - 1)
  to-in = rw (to-link-at table j l) (in-where numbers _ _ _ (numbered (to_link network j - 1) to))

  pub inside-is : is_inside (movement_at movements j) numbers ≡ inside network h j
  unfolding inside is_inside
  inside-is = rw (from-in, to-in) refl

  pub border-is : is_border (movement_at movements j) numbers ≡ cond (h.has-link (from_link network j - 1)) (not (h.has-link (to_link network j - 1))) (h.has-link (to_link network j - 1))
  unfolding is_border
  border-is = rw (from-in, to-in) refl

module _ {network : List Line} {h : Half} {half : HalfTables} (t : HalfNumbered network h half) where
  pub half-has-link : (i : ℕ) → i < link_count network → is_in half.links i ≡ h.has-link i
  half-has-link i l = in-where half.links i (h.has-link i) (rank h.has-link i) (t.links i l)

  pub half-has-signal : (r : ℕ) → r < signal_count network → is_in half.signals r ≡ h.has-signal r
  half-has-signal r l = in-where half.signals r (h.has-signal r) (rank h.has-signal r) (t.signals r l)

  pub half-has-movement : (j : ℕ) → j < movement_count network → is_in half.movements j ≡ inside network h j
  half-has-movement j l = in-where half.movements j (inside network h j) (rank (inside network h) j) (t.movements j l)
