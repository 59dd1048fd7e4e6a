-- What the program's tables give is what the two texts say: the row after a step is the model's.
use Rattle.base_laws.proofs.Kit.{◌≡◌, ap, ap₂, sym, ◌∙◌, List, ◌++◌, ℕ, suc, ◌+◌, ◌*◌, ◌-◌, ◌≤◌, ◌<◌, arith, eqb, length, get_or, take, take_at}
use Rattle.text_reader.specs.Lines.{Line}
use Rattle.network_tables.specs.declared.Counts.{Counts}
use Rattle.base_laws.specs.Sum.{sum, only}
use Rattle.model.specs.Network.{link_count, movement_count}
use Rattle.model.specs.Flows.{admitted, let_out, moved, moved_into, moved_from, inflow, outflow, entered, left, row, held, vehicles, all_admitted, all_let_out}
use Rattle.network_tables.specs.Tables.{CountsHold, MovementTable, PlanNumbers}
use Rattle.network_tables.proofs.Tables.{from-link-at, to-link-at, admitted-at, let-out-at, moved_at}
use Rattle.base_laws.proofs.Sums.{sum-ext}
use Rattle.model.proofs.Accepted.{ValidNetwork}
use Rattle.model.proofs.Limits.{movement-limits}
use Rattle.model.proofs.Timeline.{entered-suc, left-suc}
use Rattle.step_rows.specs.Rows.{moved_by, next_entered, next_left, next_row, pairs, Ends, Named, Fits, RowHolds}
use Rattle.step_rows.proofs.Lists.{pairs-ext}
use Rattle.step_rows.proofs.Next.{length-next}
use Rattle.step_rows.proofs.Ledger.{row-pairs, row-holds}
use Rattle.network_tables.specs.Fields.{let_out_in, admitted_in, moved_in, row_size}
use Rattle.network_tables.specs.declared.Movement.{Movement}

module _ {network : List Line} {counts : Counts} (counted : CountsHold network counts) where
  -- the links that a valid network's movements name
  pub movements-named : {movements : List Movement} → MovementTable network movements → ValidNetwork network → Named counts movements
  movements-named {movements} t valid = record { size = t.size ∙ sym counted.movements; ends = λ j l. ends j (omega arith) }
    where
      ends : (j : ℕ) → j < movement_count network → Ends counts movements j
      ends j l =
          omega (arith, from-link-at t j l, to-link-at t j l, movement-limits network valid j l)

  module _ {plan : List Line} {n : ℕ} {line : List ℕ} (numbers : PlanNumbers network plan n line) where
    pub admitted-is : (i : ℕ) → i < link_count network → admitted_in counts line i ≡ admitted network plan n i
    admitted-is i l = rw counted.signals (admitted-at numbers i l)

    pub let-out-is : (i : ℕ) → i < link_count network → let_out_in counts line i ≡ let_out network plan n i
    let-out-is i l = rw (counted.signals, counted.links) (let-out-at numbers i l)

    pub moved-is : (j : ℕ) → j < movement_count network → moved_in counts line j ≡ moved network plan n j
    moved-is j l = rw (counted.signals, counted.links) (moved_at numbers j l)

    -- admitted and let out in the step over all links
    pub all-admitted-is : sum counts.links (admitted_in counts line) ≡ all_admitted network plan n
    unfolding all_admitted
    all-admitted-is = rw counted.links (sum-ext (link_count network) _ _ admitted-is)

    pub all-let-out-is : sum counts.links (let_out_in counts line) ≡ all_let_out network plan n
    unfolding all_let_out
    all-let-out-is = ap (λ k. sum k (let_out_in counts line)) counted.links ∙ sum-ext (link_count network) _ _ let-out-is

    module _ {movements : List Movement} (table : MovementTable network movements) where
      pub moved-into-is : (i : ℕ) → moved_by counts line movements 1 counts.movements i ≡ moved_into network plan n i
      unfolding moved_into
      moved-into-is i =
          ap (λ k. moved_by counts line movements 1 k i) counted.movements
          ∙ sum-ext (movement_count network) _ _ (λ j l. ap₂ (λ t x. only (eqb t (suc i)) x) (to-link-at table j l) (moved-is j l))

      pub moved-from-is : (i : ℕ) → moved_by counts line movements 0 counts.movements i ≡ moved_from network plan n i
      unfolding moved_from
      moved-from-is i =
          ap (λ k. moved_by counts line movements 0 k i) counted.movements
          ∙ sum-ext (movement_count network) _ _ (λ j l. ap₂ (λ t x. only (eqb t (suc i)) x) (from-link-at table j l) (moved-is j l))

      module _ {previous : List ℕ} (before : RowHolds network plan n previous) where
        pub next-entered-is : (i : ℕ) → i < link_count network → next_entered counts line movements previous i ≡ entered network plan (suc n) i
        unfolding next_entered inflow
        next-entered-is i l = omega (arith, entered-suc network plan n i, before.entered-at i l, admitted-is i l, moved-into-is i)

        pub next-left-is : (i : ℕ) → i < link_count network → next_left counts line movements previous i ≡ left network plan (suc n) i
        unfolding next_left outflow
        next-left-is i l = omega (arith, left-suc network plan n i, before.left_at i l, let-out-is i l, moved-from-is i)

        pub next-row-is : next_row counts line movements previous ≡ row network plan (suc n)
        unfolding next_row
        next-row-is =
            ap (pairs (next_entered counts line movements previous) (next_left counts line movements previous)) counted.links
            ∙ pairs-ext _ _ (entered network plan (suc n)) (left network plan (suc n)) (link_count network) next-entered-is next-left-is
            ∙ sym (row-pairs network plan (suc n))

        -- what `next_row` leaves in the row that it is lent
        pub next-row-holds : (rest : List ℕ) {cells : List ℕ} → cells ≡ next_row counts line movements previous ++ rest → RowHolds network plan (suc n) cells
        next-row-holds rest e = row-holds network plan (suc n) rest (e ∙ ap (λ r. r ++ rest) next-row-is)

        pub next-row-front : (rest : List ℕ) {cells : List ℕ} → cells ≡ next_row counts line movements previous ++ rest → take (2 * link_count network) cells ≡ row network plan (suc n)
        next-row-front rest e =
            ap (take (2 * link_count network)) e ∙ take_at (next_row counts line movements previous) rest _ (length-next counts line movements previous ∙ ap (λ k. 2 * k) counted.links) ∙ next-row-is

        -- and what it asks for, once the traffic is known to fit 32 bits
        pub next-row-fits : {cells : List ℕ} → Named counts movements → 2 * link_count network ≤ length previous → length cells ≡ row_size
            → ((i : ℕ) → i < link_count network → entered network plan (suc n) i < 4294967296) → ((i : ℕ) → i < link_count network → left network plan (suc n) i < 4294967296)
            → Fits counts line movements previous cells
        next-row-fits named p w e f =
            record {
              few = counted.few;
              named = named;
              line-size = numbers.size;
              previous-size = rw counted.links p;
              row-size = w;
              entered-fits = λ i l. let l' : i < link_count network = omega arith in rw (next-entered-is i l') (e i l');
              left-fits = λ i l. let l' : i < link_count network = omega arith in rw (next-left-is i l') (f i l');
            }

  -- the vehicles in the network, by a row
  pub vehicles-is : {plan : List Line} {n : ℕ} {cells : List ℕ} → RowHolds network plan n cells
      → sum counts.links (λ i. get_or cells (2 * i) 0 - get_or cells (2 * i + 1) 0) ≡ vehicles network plan n
  unfolding vehicles held
  vehicles-is {plan} {n} {cells} r =
      ap (λ k. sum k (λ i. get_or cells (2 * i) 0 - get_or cells (2 * i + 1) 0)) counted.links
      ∙ sum-ext (link_count network) _ _ (λ i l. ap₂ (λ x y. x - y) (r.entered-at i l) (r.left_at i l))
