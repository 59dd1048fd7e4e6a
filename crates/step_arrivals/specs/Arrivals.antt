-- The step of the timeline in which a travel time ends, by a table that has the time of each boundary. These
-- definitions are not the paper's: proofs/Boundaries.antt shows that they agree with it if the table holds a network's
-- times.
use Rattle.std.specs.Prelude.{ℕ, zero, suc, ◌+◌, ◌*◌, ◌-◌, ◌≤◌, ◌<◌, cond, List, leb, length, get_or}

-- the last of the first n steps that starts by time x
unfoldable pub step_at_in : List ℕ → ℕ → ℕ → ℕ
step_at_in times zero x = zero
step_at_in times (suc n) x = cond (leb (get_or times n 0) x) n (step_at_in times n x)

-- the step in which the time of boundary n minus the travel time lies
unfoldable pub arrival_step_in : List ℕ → ℕ → ℕ → ℕ
arrival_step_in times n travel = step_at_in times n (get_or times n 0 - travel)

-- the length of step m, and the seconds of it that have elapsed at the time of boundary n minus the travel time
abbrev pub seconds_in : List ℕ → ℕ → ℕ
seconds_in times m = get_or times (m + 1) 0 - get_or times m 0

abbrev pub elapsed_in : List ℕ → ℕ → ℕ → ℕ → ℕ
elapsed_in times m n travel = get_or times n 0 - travel - get_or times m 0

-- arrived × the length of a step, by what had entered at its start and at its end
abbrev pub scaled_in : ℕ → ℕ → ℕ → ℕ → ℕ
scaled_in start end seconds elapsed = start * seconds + (end - start) * elapsed

-- the times of the boundaries 0 to n rise, and none is past 120 steps of 60 seconds
pub record Rising (times : List ℕ) (n : ℕ) : Type 0 where
  pub room : n < length times
  pub rises : (k : ℕ) → k < n → get_or times k 0 < get_or times (k + 1) 0
  pub small : (k : ℕ) → k ≤ n → get_or times k 0 ≤ 7200

-- A cursor of one link stands at a step that is not past the one to be found, and the step after that starts later than the travel time ends.
pub record Cursor (times : List ℕ) (from boundary travel : ℕ) : Type 0 where
  pub rising : Rising times boundary
  pub behind : from ≤ arrival_step_in times boundary travel
  pub room : arrival_step_in times boundary travel + 1 < length times
  pub later : get_or times boundary 0 - travel < get_or times (arrival_step_in times boundary travel + 1) 0
