-- Which rows a plan's check writes, and the ledger afterwards, number by number.
use Rattle.base_laws.proofs.Kit.{◌≡◌, refl, ap, ◌∙◌, true, ◌⊎◌, inl, inr, ⊎_elim, List, ◌++◌, ℕ, zero, suc, ◌+◌, ◌*◌, ◌-◌, ◌≤◌, ◌<◌, le_refl, mul-le-mul_right, dec_le, arith, leb-true, length, get_or, drop, get_or-append-add, get_or-drop}
use Rattle.base_search.specs.declared.Refusal.{Refusal}
use Rattle.base_search.specs.Checks.{Checks, Hold, verdict, Verdict}
use Rattle.base_search.proofs.Laws.{hold-of-passes, passes-of-hold}
use Rattle.text_reader.specs.Lines.{Line}
use Rattle.base_laws.specs.Sum.{joined}
use Rattle.model.specs.Network.{link_count, step_count}
use Rattle.model.specs.Flows.{row}
use Rattle.model.specs.Table.{ledger_checks, plan_line_checks, plan_checks}
use Rattle.model.specs.Calls.{is_passed, row_checks, rows_written, written, ledger_after}
use Rattle.model.specs.Guarantees.{RowDue, place_of, LedgerPromises}
use Rattle.base_laws.proofs.Sums.{count-holds, holds-count}
use Rattle.model.proofs.Rows.{length-rows, written_at, length-written}
use Rattle.std.specs.Prelude.{Ok, Err}

verdict-passed : (v : Verdict) → is_passed v ≡ true → v ≡ Ok tt
verdict-passed (Ok tt) h = refl
verdict-passed (Err r) h = cc

passed-holds : (c : Checks) → is_passed (verdict c) ≡ true → Hold c
passed-holds c h = hold-of-passes c (verdict-passed (verdict c) h)

holds-passed : (c : Checks) → Hold c → is_passed (verdict c) ≡ true
holds-passed c h = rw (passes-of-hold c h)

-- checks that are refused do not all hold
pub refused-fails : (c : Checks) (r : Refusal) → verdict c ≡ Err r → Hold c → ⊥
refused-fails c r v h = let e = passes-of-hold c h in let z : ◌≡◌ {A = ℕ} 0 1 = cc in omega arith

module _ (network plan : List Line) (size : ℕ) where
  earlier : (m n : ℕ) → m ≤ n → is_passed (verdict (row_checks network plan size n)) ≡ true → is_passed (verdict (row_checks network plan size m)) ≡ true
  unfolding Hold row_checks
  earlier m n l h =
      let (network-holds, (ledger-holds, steps-hold)) = passed-holds (row_checks network plan size n) h in
      holds-passed (row_checks network plan size m) (network-holds, (ledger-holds, λ k u. steps-hold k (omega arith)))

  -- a row that is due is written, and a row that is written is due
  pub due-written : (n : ℕ) → RowDue network plan size n → n < rows_written network plan size
  unfolding Hold row_checks rows_written
  due-written n d =
      count-holds (λ m. is_passed (verdict (row_checks network plan size m))) earlier (suc (step_count network)) n (omega (arith, d.in-plan))
      (holds-passed (row_checks network plan size n) (d.network-holds, (d.ledger-holds, d.steps-hold)))

  pub written-due : (n : ℕ) → n < rows_written network plan size → RowDue network plan size n
  unfolding Hold row_checks rows_written
  written-due n l =
      let r = holds-count (λ m. is_passed (verdict (row_checks network plan size m))) earlier (suc (step_count network)) n l in
      let h = passed-holds (row_checks network plan size n) r.1 in
      record { in-plan = omega (arith, r.0); network-holds = h.0; ledger-holds = h.1.0; steps-hold = h.1.1 }

  pub rows_none : (RowDue network plan size 0 → ⊥) → rows_written network plan size ≡ 0
  rows_none h = elim (dec_le 1 (rows_written network plan size)) [
    | yes l ↦ absurd (h (written-due 0 l))
    | no l ↦ omega arith
  ]

  -- row n is due, and the next is not
  pub rows-until : (n : ℕ) → RowDue network plan size n → (RowDue network plan size (suc n) → ⊥) → rows_written network plan size ≡ suc n
  rows-until n d h = elim (dec_le (suc (suc n)) (rows_written network plan size)) [
    | yes l ↦ absurd (h (written-due (suc n) l))
    | no l ↦ omega (arith, due-written n d)
  ]

  -- the plan is accepted
  pub rows_all : Hold (plan_checks network plan size) → rows_written network plan size ≡ suc (step_count network)
  unfolding Hold plan_checks plan_line_checks
  rows_all h =
      rows-until (step_count network) (record { in-plan = le_refl _; network-holds = h.0; ledger-holds = h.1.0; steps-hold = h.1.1.0 }) (λ d. omega (arith, d.in-plan))

-- ---- the ledger afterwards
-- a number of a row stands at an even place, or after one
in_pair : (l k : ℕ) → k < 2 * l → (i : ℕ) × (i < l) × ((k ≡ 2 * i) ⊎ (k ≡ 2 * i + 1))
in_pair zero k h = absurd (omega arith)
in_pair (suc l) k h = elim (dec_le (2 * l) k) [
  | yes u ↦ (
    l,
    omega arith,
    elim (dec_le k (2 * l)) [
      | yes v ↦ inl (omega arith)
      | no v ↦ inr (omega arith)
    ],
  )
  | no u ↦ let r = in_pair l k (omega arith) in (r.0, omega (arith, r.1), r.2)
]

module _ (network plan : List Line) where
  -- a number of the first m rows is entered or left of some link in one of them
  in_row : (m k : ℕ) → k < 2 * m * link_count network
      → (n : ℕ) × (i : ℕ) × (n < m) × (i < link_count network) × ((k ≡ place_of network n i) ⊎ (k ≡ place_of network n i + 1))
  unfolding place_of
  in_row zero k h = absurd (omega arith)
  in_row (suc m) k h = elim (dec_le (2 * m * link_count network) k) [
    | yes u ↦
        let r = in_pair (link_count network) (k - 2 * m * link_count network) (omega arith) in
        (m, r.0, omega arith, r.1, at r.0 r.2 u)
    | no u ↦ let r = in_row m k (omega arith) in (r.0, r.1, omega (arith, r.2), r.3, r.4)
  ]
    where
      at : (i : ℕ) → (k - 2 * m * link_count network ≡ 2 * i) ⊎ (k - 2 * m * link_count network ≡ 2 * i + 1) → 2 * m * link_count network ≤ k
          → (k ≡ 2 * m * link_count network + 2 * i) ⊎ (k ≡ 2 * m * link_count network + 2 * i + 1)
      at i (inl e) u = inl (omega arith)
      at i (inr e) u = inr (omega arith)

  module _ (old : List ℕ) where
    -- past the rows that are written
    written-past : (m k : ℕ) → 2 * m * link_count network ≤ k → get_or (written network plan old m) k 0 ≡ get_or old k 0
    unfolding written
    written-past m k h =
        let e : k ≡ length (joined m (row network plan)) + (k - 2 * m * link_count network) = omega (arith, length-rows network plan m) in
        let d : 2 * m * link_count network + (k - 2 * m * link_count network) ≡ k = omega arith in
        ap (λ x. get_or (joined m (row network plan) ++ drop (2 * m * link_count network) old) x 0) e
        ∙ get_or-append-add (joined m (row network plan)) _ (k - 2 * m * link_count network) 0 ∙ get_or-drop (2 * m * link_count network) old (k - 2 * m * link_count network) 0 ∙ ap (λ x. get_or old x 0) d

    -- the ledger has room for the rows
    written-room : (m : ℕ) → m ≡ rows_written network plan (length old) → 2 * m * link_count network ≤ length old
    unfolding Hold ledger_checks
    written-room zero e = omega arith
    written-room (suc m) e =
        let due = written-due network plan (length old) m (omega arith) in
        let l : suc m ≤ suc (step_count network) = omega (arith, due.in-plan) in
        omega (arith, leb-true (2 * suc (step_count network) * link_count network) (length old) due.ledger-holds, mul-le-mul_right (2 * link_count network) l)

    pub ledger-promises : LedgerPromises network plan old (ledger_after network plan old)
    unfolding ledger_after place_of
    ledger-promises =
        let m = rows_written network plan (length old) in
        record {
          same_length = length-written network plan old m (written-room m refl);
          entered-written = λ n i due l. (written_at network plan old m n i (due-written network plan (length old) n due) l).0;
          left-written = λ n i due l. (written_at network plan old m n i (due-written network plan (length old) n due) l).1;
          others-kept = λ k h. elim (dec_le (2 * m * link_count network) k) [
            | yes u ↦ written-past m k u
            | no u ↦
                let r = in_row m k (omega arith) in
                let none = h r.0 r.1 (written-due network plan (length old) r.0 r.2) r.3 in
                absurd (⊎_elim none.0 none.1 r.4)
          ];
        }
