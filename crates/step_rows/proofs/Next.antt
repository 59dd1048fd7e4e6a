-- The row after a step, from the row that the step's line begins.
use Rattle.base_laws.proofs.Kit.{◌≡◌, ap, sym, ◌∙◌, List, ◌++◌, ℕ, ◌+◌, ◌*◌, ◌<◌, arith, length, get_or, drop, List·getD-append}
use Rattle.network_tables.specs.declared.Counts.{Counts}
use Rattle.step_rows.specs.Rows.{base_entered, base_left, next_entered, next_left, next_row, pairs, Base, Fits, Room, Added}
use Rattle.step_rows.proofs.Lists.{length_pairs, pairs-left, begun-entered, begun-left, begun-rest, begun-length, begun-is}
use Rattle.network_tables.specs.declared.Movement.{Movement}

module _ {counts : Counts} {line : List ℕ} {movements : List Movement} {previous d : List ℕ} (fits : Fits counts line movements previous d) where
  pub next-base : Base counts line previous d
  unfolding next_entered next_left
  next-base =
      record {
        asked = record { few = fits.few; line-size = fits.line-size; previous-size = fits.previous-size; row-size = fits.row-size };
        entered-fits = λ i l. omega (arith, fits.entered-fits i l);
        left-fits = λ i l. omega (arith, fits.left-fits i l);
      }

  module _ {base : List ℕ} (e : base ≡ pairs (base_entered counts line previous) (base_left counts line previous) counts.links ++ drop (2 * counts.links) d) where
    entered-base : (i : ℕ) → i < counts.links → get_or base (2 * i) 0 ≡ base_entered counts line previous i
    entered-base i l = rw e (begun-entered (base_entered counts line previous) (base_left counts line previous) d counts.links i l)

    left-base : (i : ℕ) → i < counts.links → get_or base (2 * i + 1) 0 ≡ base_left counts line previous i
    left-base i l = rw e (begun-left (base_entered counts line previous) (base_left counts line previous) d counts.links i l)

    pub next-room : Room counts line movements base
    unfolding next_entered next_left
    next-room =
        record {
          few = fits.few;
          named = fits.named;
          line-size = fits.line-size;
          row-size = ap length e ∙ begun-length _ _ d counts.links (omega (arith, fits.row-size, fits.few.links)) ∙ fits.row-size;
          entered-fits = λ i l. omega (arith, entered-base i l, fits.entered-fits i l);
          left-fits = λ i l. omega (arith, left-base i l, fits.left-fits i l);
        }

    pub next-is : {row : List ℕ} → Added counts line movements base counts.movements row → row ≡ next_row counts line movements previous ++ drop (2 * counts.links) d
    unfolding next_row next_entered next_left
    next-is {row} added =
        begun-is (next_entered counts line movements previous) (next_left counts line movements previous) d counts.links row
        (added.size ∙ sym fits.row-size) (omega (arith, fits.row-size, fits.few.links))
        (λ i l. omega (arith, added.entered i l, entered-base i l))
        (λ i l. omega (arith, added.left i l, left-base i l))
        (λ k l. added.rest k l ∙ ap (λ r. get_or r k 0) e ∙ begun-rest _ _ d counts.links k l)

pub length-next : (counts : Counts) (line : List ℕ) (movements : List Movement) (previous : List ℕ) → length (next_row counts line movements previous) ≡ 2 * counts.links
unfolding next_row
length-next counts line movements previous = length_pairs _ _ counts.links

-- left of link i in what `next_row` leaves
pub next-left-at : (counts : Counts) (line : List ℕ) (movements : List Movement) (previous rest : List ℕ) {cells : List ℕ} → cells ≡ next_row counts line movements previous ++ rest
    → (i : ℕ) → i < counts.links → get_or cells (2 * i + 1) 0 ≡ next_left counts line movements previous i
next-left-at counts line movements previous rest e i l =
    ap (λ r. get_or r (2 * i + 1) 0) e ∙ List·getD-append (next_row counts line movements previous) rest 0 (2 * i + 1) (omega (arith, length-next counts line movements previous))
    ∙ unfold next_row in pairs-left _ _ counts.links i l
