-- The tests of trams by their table are the model's.
use Rattle.base_laws.proofs.Kit.{ℕ, ◌+◌, ◌<◌, ◌≡◌, refl, ◌∙◌, List, arith, length, get_or, take, ◌≤◌}
use Rattle.std.proofs.lemmas.List.{length-take-le, get_or-take}
use Rattle.text_reader.specs.Lines.{Line, number}
use Rattle.base_laws.specs.Indexed.{list}
use Rattle.model.specs.Network.{entry, tram_count, signal_count, step_count}
use Rattle.model.specs.Rules.{apart, tram_exists, tram, valid_tram}
use Rattle.base_laws.proofs.Tests.{every-same}
use Rattle.network_tables.specs.declared.Tram.{Tram}
use Rattle.network_tables.specs.Fields.{tram_fields, tram_by, tram_at}
use Rattle.network_tables.specs.Blocks.{RowsTo, tram_block}
use Rattle.network_tables.specs.Tables.{TramTable}
use Rattle.network_trams.specs.Trams.{apart_in, apart_from, valid_tram_in}

-- by what a tram is made of the numbers of its line
abbrev pub MadeBy : List ℕ → Tram → Type 0
MadeBy fields tram = tram ≡ tram_by (λ k. get_or fields k 0)

abbrev pub TramsTo : List Line → ℕ → List Tram → Type 0
TramsTo network = RowsTo MadeBy network (tram_block network) tram_fields

module _ (network : List Line) (trams : List Tram) where
  module _ {n : ℕ} (q : TramsTo network n trams) where
    tram-is : (k : ℕ) → k < n → tram_at trams k ≡ tram_by (number (tram network k))
    unfolding entry list
    tram-is k h = q.given k h _

    -- the part of a room that has the trams
    pub table-of : n ≡ tram_count network → {count : ℕ} → count ≡ tram_count network → count ≤ length trams → TramTable network (take count trams)
    unfolding entry
    table-of h {count} e room =
        record {
          size = length-take-le count trams room ∙ e;
          holds = λ k l. get_or-take count trams k (tram_by (λ f. 0)) (omega arith) ∙ tram-is k (omega arith);
        }

  module _ (k : ℕ) (q : TramsTo network (k + 1) trams) where
    apart-is : (j : ℕ) → j < k → apart_in (tram_at trams j) (tram_at trams k) ≡ apart (tram network j) (tram network k)
    unfolding apart_in apart
    apart-is j h = rw (tram-is q j (omega arith), tram-is q k (omega arith)) refl

    pub tram-valid : valid_tram_in trams (signal_count network) (step_count network) k ≡ valid_tram network k
    unfolding valid_tram_in apart_from valid_tram tram_exists
    tram-valid =
        rw (every-same k (λ j. apart_in (tram_at trams j) (tram_at trams k)) (λ j. apart (tram network j) (tram network k)) apart-is, tram-is q k (omega arith)) refl
