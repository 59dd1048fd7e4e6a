-- `network_writer::Output::put_rows` meets its contract.
use Rattle.base_laws.proofs.Kit.{ℕ, ◌≤◌, ◌+◌, ◌*◌, List}
use Rattle.network_writer.specs.Put.{longest, Put}
use Rattle.network_writer.specs.Texts.{line_texts, rows_to, Gives}
use Rattle.network_writer.proofs.Output.put_rows.Given as goal

-- the first k items are put, and each has taken no more than a line's place
abbrev pub invariant-loop-k : goal.invariant-loop-k
invariant-loop-k g l =
    record {
      near : l.self.at ≤ l.initial.self.at + longest * l.k;
      put : (f : ℕ → List (List ℕ)) → Gives g.T.Into.converts (goal.F-post g l.change) l.items f → Put l.k (line_texts l.letter (rows_to l.k f)) l.initial.self l.self;
    }
