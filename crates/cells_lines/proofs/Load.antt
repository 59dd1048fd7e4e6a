-- The whole text of a corridor, from its three parts.
use Rattle.base_laws.proofs.Kit.{ℕ, suc, ◌+◌, ◌≡◌, ◌≢◌, refl, ap, ◌∙◌, false, List, arith, length, get_or}
use Rattle.std.specs.Prelude.{Ok, Err}
use Rattle.base_search.specs.declared.Refusal.{Refusal}
use Rattle.base_search.specs.Checks.{Verdict, refusal, each, verdict, checked}
use Rattle.base_search.proofs.Laws.{or-else-refused, or-else-passes}
use Rattle.text_reader.specs.Lines.{lines, no_line, number}
use Rattle.text_reader.specs.Reading.{line_at}
use Rattle.text_reader.proofs.Laws.{starts-line, starts-plus}
use Rattle.base_laws.proofs.Laws.{take-filled, drop-filled}
use Rattle.cells_steps.specs.declared.Cell.{Cell}
use Rattle.cells_lines.specs.Corridor.{letter_x, volume_form, cell_count, cell_checks, exit_check, demand_checks, corridor_checks, chain, starts, demands}
use Rattle.cells_lines.specs.Reading.{VolumeRead, CellsRead, DemandsAsked, DemandsRead, CorridorRead}
use Rattle.cells_lines.proofs.Lines.{record-inside}

pub cells-stop : (text : List ℕ) {r : Refusal} → verdict (each (cell_count (lines text)) (cell_checks (lines text))) ≡ Err r → verdict (corridor_checks (lines text)) ≡ Err r
unfolding corridor_checks verdict
cells-stop text e = or-else-refused _ _ _ e

-- ---- the `C` lines pass
module _ {text : List ℕ} {count place : ℕ} {cells₀ : List Cell} {volumes₀ : List ℕ} {cells : List Cell} {volumes : List ℕ}
    (c : CellsRead text count place cells₀ volumes₀ cells volumes) where
  -- the line at the place is that of the exit
  line-is : line_at text place ≡ get_or (lines text) (cell_count (lines text)) no_line
  line-is = rw (← c.counted) (starts-line text place count c.begins)

  exit-stop : {r : Refusal} → verdict (exit_check (lines text)) ≡ Err r → verdict (corridor_checks (lines text)) ≡ Err r
  unfolding corridor_checks verdict
  exit-stop e = or-else-passes _ _ c.passed ∙ or-else-refused _ _ _ e

  line-told : suc (cell_count (lines text)) ≡ count + 1
  line-told = omega (arith, c.counted)

  pub no-cells : count ≡ 0 → verdict (corridor_checks (lines text)) ≡ Err (refusal 36 1 0)
  unfolding exit_check verdict checked
  no-cells z = let none : cell_count (lines text) ≡ 0 = omega (arith, c.counted) in exit-stop (rw none refl)

  module _ (some : count ≢ 0) where
    pub exit-refused : {r : Refusal} → (volume_form letter_x (line_at text place) ≡ false) × (r ≡ refusal 36 (count + 1) 0) → verdict (corridor_checks (lines text)) ≡ Err r
    unfolding exit_check verdict checked
    exit-refused e = rw e.1 (exit-stop (rw (← line-is, line-told) (grind (arith, c.counted))))

    module _ {exit next : ℕ} (x : VolumeRead letter_x text place exit next) where
      pub demands-asked : {table₀ : List ℕ} → length table₀ ≡ 120 → DemandsAsked text next count table₀
      demands-asked size =
          record {
            counted = c.counted;
            few = c.few;
            begins = starts-plus text place count c.begins letter_x 1 next x.place;
            inside = record-inside letter_x 1 text place count next (omega arith) c.begins x.place;
            size = size;
          }

      exit-passes : verdict (exit_check (lines text)) ≡ Ok tt
      unfolding exit_check verdict checked
      exit-passes = rw (← line-is, x.form) (grind (arith, c.counted))

      -- the verdict is that on the `D` lines
      pub demands-tell : {v : Verdict} → verdict (demand_checks (lines text)) ≡ v → verdict (corridor_checks (lines text)) ≡ v
      unfolding corridor_checks verdict
      demands-tell e = or-else-passes _ _ c.passed ∙ or-else-passes _ _ exit-passes ∙ e

      pub corridor-read : {steps : ℕ} {table₀ table : List ℕ} → DemandsRead text steps table₀ table
          → CorridorRead text (record { cells = count; exit = exit; steps = steps }) volumes₀ cells volumes table
      unfolding chain starts demands
      corridor-read {steps} {table₀} {table} d =
          let exit-is : exit ≡ number (get_or (lines text) (cell_count (lines text)) no_line) 0 = x.volume-is ∙ ap (λ line. number line 0) line-is in
          record {
            passed = demands-tell d.passed;
            counted = c.counted;
            cells-few = c.few;
            steps-few = d.few;
            limits = rw (c.cells-are, take-filled, c.counted, exit-is);
            first = rw (c.volumes-are, take-filled, c.counted);
            rest = rw (c.volumes-are, drop-filled);
            steps-are = rw (d.are, take-filled, d.counted);
          }
