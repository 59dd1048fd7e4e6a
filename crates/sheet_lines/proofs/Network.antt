-- A sheet that is read for the signals of a network.
use Rattle.base_laws.proofs.Kit.{ℕ, suc, ◌+◌, ◌≤◌, ◌<◌, ◌≡◌, ap, ◌∙◌, List, arith, eqb, length, take, length-take-le, get_or-take}
use Rattle.base_search.specs.Checks.{or_else, checked, verdict, Verdict}
use Rattle.base_search.proofs.Laws.{first-same}
use Rattle.text_reader.specs.Lines.{Line, lines}
use Rattle.model.specs.declared.Signal.{Signal}
use Rattle.model.specs.Network.{max_signals, entry, signal_count, signal}
use Rattle.model.specs.Table.{is_form}
use Rattle.model.proofs.Accepted.{ValidNetwork}
use Rattle.network_tables.specs.Fields.{no_signal, signal_at}
use Rattle.network_tables.specs.Tables.{SignalTable}
use Rattle.step_signals.proofs.Rules.{ready-first}
use Rattle.sheet_lines.specs.Sheet.{letter_f, phases_of, valid_numbers, sheet_line_checks, signals_checks, sheet_checks}
use Rattle.sheet_lines.specs.Reading.{line_in, number_in, SheetAsked, SheetRead}
use Rattle.std.specs.Prelude.{Ok}

module _ {network : List Line} {signals : List Signal} (signal-table : SignalTable network signals) {count : ℕ} (is-count : count ≡ signal_count network) (few : count ≤ max_signals) where
  -- the signals that there are, without what stands behind them in their table
  pub signals-there : length (take count signals) ≡ count
  signals-there = length-take-le count signals (omega (arith, signal-table.size, few))

  pub signal-there : (r : ℕ) → r < count → signal_at (take count signals) r ≡ signal network r
  signal-there r h = get_or-take count signals r no_signal h ∙ signal-table.holds r (omega (arith, is-count))

  pub sheet-asked : ValidNetwork network → {table : List (List ℕ)} → length table ≡ max_signals → SheetAsked (take count signals) table
  sheet-asked valid l =
      record {
        few = omega (arith, signals-there, few);
        ready = λ r h.
            let h' : r < count = omega (arith, h, signals-there) in
            let u : r < signal_count network = omega (arith, h', is-count) in
            rw (signal-there r h') (ready-first (signal network r) (valid.phases r u) (valid.signals r u));
        room = l;
      }

  module _ {offsets : ℕ} {text : List ℕ} {table : List (List ℕ)} {v : Verdict} (read : SheetRead (take count signals) offsets text v table) where
    -- the verdict is that on the sheet of the network
    pub sheet-told : v ≡ verdict (sheet_checks network (lines text) offsets)
    unfolding verdict sheet_checks signals_checks sheet_line_checks
    sheet-told =
        let sheet = lines text in
        read.told
        ∙ rw (signals-there, is-count) (ap (λ x. or_else x (checked (eqb (length sheet) (signal_count network)) 33 (suc (signal_count network)) 0))
        (first-same _ _ (signal_count network) 0
        (λ r l u. ap (λ (s : Signal). or_else (checked (is_form sheet r letter_f (s.phases + offsets)) 33 (suc r) 0) (checked (valid_numbers offsets s (entry sheet r)) 33 (suc r) 0))
        (rw is-count at (signal-there r (omega (arith, is-count)))))))

    -- and the table has its numbers
    pub sheet-number : v ≡ Ok tt → (r : ℕ) → r < signal_count network → (k : ℕ) → k < phases_of network r + offsets → number_in (line_in table r) k ≡ entry (lines text) r k
    sheet-number e r l k u =
        (read.held e).numbers r k (omega (arith, l, signals-there, is-count)) (rw (signal-there r (omega (arith, is-count))) u)
