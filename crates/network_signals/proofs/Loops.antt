-- The turns and the returns of the loop over the `G` lines, each in the form of a need.
use Rattle.base_laws.proofs.Kit.{ℕ, ◌+◌, ◌≤◌, ◌<◌, ◌≡◌, ap, ◌∙◌, List, add-one, arith, le-leb, leb, length, get_or, length-set, get_or-set_same, get_or-set_other}
use borrow.Author.Count.{below_more}
use Rattle.base_search.specs.declared.Refusal.{Refusal}
use Rattle.text_reader.specs.Lines.{lines}
use Rattle.model.specs.declared.Signal.{Signal}
use Rattle.base_laws.specs.Test.{every}
use Rattle.model.specs.Network.{max_signals, signal_count, signal}
use Rattle.model.specs.Table.{signal_checks}
use Rattle.network_tables.specs.declared.Reading.{Reading}
use Rattle.network_tables.specs.Blocks.{block_checks, ReadTo, signal_block}
use Rattle.network_tables.specs.Fields.{signal_at}
use Rattle.network_tables.specs.Tables.{Judged}
use Rattle.network_tables.proofs.Places.{links-after-signals}
use Rattle.network_tables.proofs.Blocks.{passed-all, passed-stop, block-begin, block-end, block-next}
use Rattle.network_tables.proofs.Stages.{judged-refused, judged-passed, verdict-passed, verdict-refused}
use Rattle.network_signals.specs.Signals.{shortest_time}
use Rattle.network_signals.specs.Stages.{SignalHeld, SignalsAsked, SignalsHeld}
use Rattle.network_signals.proofs.Values.{shortest-all}
use Rattle.std.specs.Prelude.{Result, Ok, Err}

-- the first r lines have passed, and stand in the table
pub record SignalsTo (text : List ℕ) (signals : List Signal) (at shortest r : ℕ) : Type 0 where
  pub read : ReadTo text (signal_block (lines text)) at r
  pub size : length signals ≡ max_signals
  pub holds : (i : ℕ) → i < r → signal_at signals i ≡ signal (lines text) i
  pub few : (i : ℕ) → i < r → (signal_at signals i).phases ≤ 8
  pub least : (x : ℕ) → x ≤ 60
      → leb x shortest ≡ every r (λ i. every (signal (lines text) i).phases (λ k. leb x (get_or (signal (lines text) i).greatest k 0)))

module _ {text : List ℕ} {reading : Reading} {signals₀ : List Signal} (asked : SignalsAsked text reading signals₀) where
  pub signals-begin : SignalsTo text signals₀ reading.next 60 0
  unfolding every
  signals-begin =
      record {
        read = block-begin asked.starts;
        size = asked.room;
        holds = λ i h. absurd (omega arith);
        few = λ i h. absurd (omega arith);
        least = λ x h. le-leb x 60 h;
      }

  module _ {signals : List Signal} {at shortest r : ℕ} (inv : SignalsTo text signals at shortest r) where
    pub signals-done : reading.counts.signals ≤ r → Judged (block_checks (signal_block (lines text))) (SignalsHeld text signals)
        (Ok (record { counts = reading.counts; next = at; trams_at = reading.trams_at; past_at = reading.past_at; steps_at = reading.steps_at; shortest = shortest; timed = reading.timed }))
    signals-done h =
        let past : signal_count (lines text) ≤ r = omega (arith, asked.counted.signals) in
        let end : r ≡ signal_count (lines text) = omega (arith, inv.read.passed.within) in
        judged-passed (passed-all inv.read.passed past)
        (record {
          reached =
              record {
                counted = asked.counted;
                starts = rw links-after-signals at (block-end inv.read past);
                trams-start = asked.trams-start;
                shortest-time = record { least = rw end at inv.least };
              };
          table = record { size = inv.size; holds = rw end at inv.holds };
          few = record { few = rw end at inv.few };
        })

    module _ (h : r < reading.counts.signals) where
      module _ {after : List Signal} {stage : (Result Reading Refusal)} (got : Judged (signal_checks (lines text) r) (SignalHeld text r signals after) stage) where
        below : r < signal_count (lines text)
        below = omega (arith, asked.counted.signals)

        pub signals-stop : {Held : Reading → Type 0} {q : Refusal} → stage ≡ Err q → Judged (block_checks (signal_block (lines text))) Held (Err q)
        signals-stop e = judged-refused (passed-stop inv.read.passed below (verdict-refused got e))

        module _ {passed : Reading} (e : stage ≡ Ok passed) where
          here : signal_at after r ≡ signal (lines text) r
          here = rw (got.held passed e).table (get_or-set_same signals r (signal (lines text) r) _ (omega (arith, inv.size, asked.counted.few.signals)))

          kept : (i : ℕ) → i < r → signal_at after i ≡ signal_at signals i
          kept i j = rw (got.held passed e).table (get_or-set_other signals r i (signal (lines text) r) _ (λ z. omega arith))

          after-size : length after ≡ max_signals
          after-size = ap length (got.held passed e).table ∙ length-set signals r (signal (lines text) r) ∙ inv.size

          pub signals-next : {short : ℕ} → short ≡ shortest_time (signal_at after r) (signal_at after r).phases shortest → SignalsTo text after passed.next short (r + 1)
          unfolding every
          signals-next l =
              record {
                read = block-next inv.read below (verdict-passed got e) (got.held passed e).starts;
                size = after-size;
                holds = below_more (λ i. signal_at after i ≡ signal (lines text) i) r (λ i j. kept i j ∙ inv.holds i j) here;
                few = below_more (λ i. (signal_at after i).phases ≤ 8) r (λ i j. rw (kept i j) (inv.few i j)) (rw here (got.held passed e).few);
                least = λ x j. rw (l, here, shortest-all (signal (lines text) r) x shortest (signal (lines text) r).phases, inv.least x j, add-one);
              }
