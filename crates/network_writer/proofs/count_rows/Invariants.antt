-- `network_writer::count_rows` meets its contract.
use Rattle.base_laws.proofs.Kit.{ℕ, ◌≡◌, ◌≤◌, List, length}
use Rattle.network_writer.specs.Texts.{rows_to, GivesAsMany}
use Rattle.network_writer.proofs.count_rows.Given as goal

abbrev pub invariant-loop-k : goal.invariant-loop-k
invariant-loop-k g l =
    record {
      few : l.count ≤ l.k;
      counted : (f : ℕ → List (List ℕ)) → GivesAsMany (goal.F-post g l.change) l.items f → l.count ≡ length (rows_to l.k f);
    }
