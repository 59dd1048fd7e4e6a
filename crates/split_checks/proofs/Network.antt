-- The turns of the loop over the steps of a network that has passed.
use Rattle.base_laws.proofs.Kit.{◌≡◌, refl, ap, ◌∙◌, Bool, true, false, not, List, ◌++◌, ℕ, suc, ◌+◌, ◌-◌, ◌≤◌, ◌<◌, arith, eqb, length, take, drop}
use Rattle.text_reader.specs.Reading.{Starts}
use Rattle.base_laws.specs.Test.{◌or◌, every}
use Rattle.model.specs.Network.{movement_count, step_count, on_timeline, timeline_line, step_line}
use Rattle.model.specs.Table.{letter_s}
use Rattle.base_laws.proofs.Tests.{every-same}
use Rattle.network_tables.specs.Fields.{step_size, link_in, demand_in}
use Rattle.network_tables.specs.Rows.{LineHeld, ReadAgain}
use Rattle.network_tables.specs.Tables.{StepNumbers}
use Rattle.network_tables.proofs.Tables.{demand-at}
use Rattle.network_tables.proofs.Rows.{again_joined}
use Rattle.plan_steps.proofs.Steps.{step-form}
use Rattle.split_tables.specs.declared.Whole.{Whole}
use Rattle.split_tables.specs.declared.HalfTables.{HalfTables}
use Rattle.split_tables.specs.Whole.{whole_network}
use Rattle.split_tables.specs.Halves.{HalvesAsked}
use Rattle.split_tables.proofs.Ends.{movement-ends, halves-asked}
use Rattle.split_checks.specs.Tables.{crosses_in, demand_free_in}
use Rattle.split_checks.specs.Network.{StepsAsked, step_free}
use Rattle.split_checks.proofs.Tests.{test-fails, test-holds}

-- the first n steps are free, and the next line starts at a place
pub record StepsTo (whole : Whole) (half : HalfTables) (step : List ℕ) (line n : ℕ) : Type 0 where
  pub within : n ≤ whole.tables.reading.counts.steps
  pub room : length step ≡ step_size
  pub starts : Starts whole.tables.text.now line (step_line (whole_network whole) n)
  pub free : every n (step_free (whole_network whole) whole.tables.movements.now half.links) ≡ true

module _ {whole : Whole} (a : StepsAsked whole) (half : HalfTables) where
  abbrev test : ℕ → Bool
  test = step_free (whole_network whole) whole.tables.movements.now half.links

  pub steps-none : {step : List ℕ} → length step ≡ step_size → StepsTo whole half step whole.tables.reading.steps_at 0
  unfolding every
  steps-none size = record { within = omega arith; room = size; starts = a.starts; free = refl }

  pub free-asked : HalvesAsked whole.tables
  free-asked = halves-asked (whole_network whole) a.holds whole.tables a.counted a.movement-table

  module _ {step : List ℕ} {line n : ℕ} (inv : StepsTo whole half step line n) where
    module _ {width : ℕ} (wide : width ≡ 1 + whole.tables.reading.counts.links) {next : ℕ} {part : List ℕ}
        (got : ReadAgain letter_s (length (take width step)) whole.tables.text.now line (take width step) next part) where
      -- the step, whose first numbers were read
      abbrev step' : List ℕ
      step' = part ++ drop width step

      again : ReadAgain letter_s (1 + whole.tables.reading.counts.links) whole.tables.text.now line step next step'
      again = rw (← wide) (again_joined (omega (arith, wide, inv.room, a.counted.few.links)) got)

      pub room-kept : length step' ≡ step_size
      room-kept = again.size ∙ inv.room

      module _ (l : n < whole.tables.reading.counts.steps) {v : Bool}
          (told : v ≡ every whole.tables.reading.counts.movements (demand_free_in (demand_in step') whole.tables.movements.now half.links)) where
        more : n < step_count (whole_network whole)
        more = omega (arith, a.counted.steps)

        read : LineHeld letter_s (1 + whole.tables.reading.counts.links) whole.tables.text.now (step_line (whole_network whole) n) next step'
        read = again.held (step_line (whole_network whole) n) inv.starts (rw a.counted.links (step-form (whole_network whole) a.holds n more))

        numbers : StepNumbers (whole_network whole) n step'
        numbers = record { size = room-kept; holds = λ k u. read.numbers k (omega (arith, a.counted.links)) }

        free-told : v ≡ test n
        unfolding demand_free_in
        free-told =
            told
            ∙ ap (λ m. every m (demand_free_in (demand_in step') whole.tables.movements.now half.links)) a.counted.movements
            ∙ every-same (movement_count (whole_network whole)) _ _
            (λ j u. ap (λ x. not (crosses_in whole.tables.movements.now half.links j) or eqb x 0)
            (demand-at numbers (link_in whole.tables.movements.now 1 j - 1) (let e = movement-ends (whole_network whole) a.holds a.movement-table j 1 u (omega arith) in omega (arith, e.0, e.1))))

        pub steps-fail : not v ≡ true → false ≡ every (step_count (whole_network whole)) test
        steps-fail f = test-fails test free-told more f

        pub steps_next : not v ≡ false → StepsTo whole half step' next (n + 1)
        steps_next f =
            record {
              within = omega arith;
              room = room-kept;
              starts = let e : step_line (whole_network whole) (n + 1) ≡ suc (step_line (whole_network whole) n) = unfold step_line timeline_line on_timeline in omega arith in rw e read.starts;
              free = test-holds test free-told inv.free f;
            }
