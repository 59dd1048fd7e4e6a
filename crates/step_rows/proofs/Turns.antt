-- One turn of each loop over a row.
use Rattle.base_laws.proofs.Kit.{◌≡◌, refl, ◌∙◌, List, ◌++◌, ℕ, ◌+◌, ◌*◌, ◌-◌, ◌<◌, arith, drop, set, length-set, drop-set-lt, mod-eq_of_lt}
use Rattle.base_laws.specs.Sum.{sum}
use Rattle.network_tables.specs.declared.Counts.{Counts}
use Rattle.network_tables.specs.declared.Movement.{Movement}
use Rattle.network_tables.specs.Fields.{movement_at, entered_in, left_in}
use Rattle.step_rows.specs.Rows.{pairs, base_entered, base_left, with_link, with_movement, Named, RowAlone, Base}
use Rattle.step_rows.proofs.Lists.{begun-turn}
use Rattle.step_rows.proofs.Sums.{sum-next}

-- the row begins with one link more
module _ {counts : Counts} {line previous d : List ℕ} (base : Base counts line previous d) {n : ℕ} (h : n < counts.links) where
  pub base-turn : {row row' : List ℕ} → row ≡ pairs (base_entered counts line previous) (base_left counts line previous) n ++ drop (2 * n) d → row' ≡ with_link counts line previous n row
      → row' ≡ pairs (base_entered counts line previous) (base_left counts line previous) (n + 1) ++ drop (2 * (n + 1)) d
  base-turn q is =
      is ∙ begun-turn _ _ d n q (omega (arith, base.asked.row-size, base.asked.few.links)) (mod-eq_of_lt (base.entered-fits n h)) (mod-eq_of_lt (base.left-fits n h))

-- nothing else is written
pub alone-none : (counts : Counts) (row : List ℕ) → RowAlone counts row row
alone-none counts row = record { size = refl; rest = refl }

pub alone-then : {counts : Counts} {before row after : List ℕ} → RowAlone counts before row → RowAlone counts row after → RowAlone counts before after
alone-then was more = record { size = more.size ∙ was.size; rest = more.rest ∙ was.rest }

alone-set : {counts : Counts} {before row : List ℕ} (was : RowAlone counts before row) (at value : ℕ) → at < 2 * counts.links → RowAlone counts before (set row at value)
alone-set {counts} {row = row} was at value h = record { size = length-set row at value ∙ was.size; rest = drop-set-lt (2 * counts.links) row at value h ∙ was.rest }

module _ {counts : Counts} {before row row' : List ℕ} (was : RowAlone counts before row) where
  pub alone-link : (line previous : List ℕ) (i : ℕ) → i < counts.links → row' ≡ with_link counts line previous i row → RowAlone counts before row'
  alone-link line previous i h is = rw is (alone-set (alone-set was _ _ (omega arith)) _ _ (omega arith))

  pub alone-movement : {movements : List Movement} → Named counts movements → (j volume : ℕ) → j < counts.movements → row' ≡ with_movement (movement_at movements j) volume row → RowAlone counts before row'
  alone-movement named j volume h is = rw is (alone-set (alone-set was _ _ (omega (arith, named.ends j h))) _ _ (omega (arith, named.ends j h)))

-- what one link more holds
pub held-turn : (row : List ℕ) (n : ℕ) {total e l x : ℕ} → total ≡ sum n (λ k. entered_in row k - left_in row k) → e ≡ entered_in row n → l ≡ left_in row n → x ≡ e - l
    → total + x ≡ sum (n + 1) (λ k. entered_in row k - left_in row k)
held-turn row n t e l x = omega (arith, sum-next n (λ k. entered_in row k - left_in row k))
