-- The laws of writing the `B` records: one behind the other, each from its row of the ledger.
use Rattle.base_laws.proofs.Kit.{ℕ, zero, suc, ◌+◌, ◌-◌, ◌*◌, ◌≤◌, ◌≡◌, refl, sym, ap, ◌∙◌, List, [], ◌∷◌, ◌++◌, add-one, arith, length, take, drop, take-append-drop}
use Rattle.std.proofs.Math.Seq.{take-append_seam}
use Rattle.text_writer.specs.Records.{record_text, record_texts}
use Rattle.text_writer.specs.Writing.{put_at, Wrote}
use Rattle.text_writer.proofs.Laws.{wrote-more, wrote-length, record-most}
use Rattle.model.specs.Network.{max_links}
use Rattle.network_tables.specs.declared.Counts.{Counts}
use Rattle.plancheck_report.specs.Boundaries.{ledger_numbers, plan_time, RowsAsked}

-- ---- the record that is written: two numbers and the row
pub fields_read : {n x time : ℕ} {row wide : List ℕ} (rest : List ℕ) → x ≡ time → wide ≡ row → take (2 + length row) (n ∷ x ∷ (wide ++ rest)) ≡ n ∷ time ∷ row
fields_read {n} {time = time} {row} rest e f =
    let two : 2 + length row ≡ suc (suc (length row)) = omega arith in
    rw (e, f, two) (ap (λ l. n ∷ time ∷ l) (take-append_seam row rest))

-- ---- how long a record is
take_short : (k : ℕ) (xs : List ℕ) → length (take k xs) ≤ k
take_short zero xs = omega arith
take_short (suc k) [] = omega arith
take_short (suc k) (x ∷ xs) = omega (arith, take_short k xs)

pub boundary-length : (links : ℕ) (time : ℕ → ℕ) (ledger : List ℕ) (n : ℕ) → links ≤ max_links → length (record_text 66 (ledger_numbers links time ledger n)) ≤ 1052
unfolding ledger_numbers
boundary-length links time ledger n h =
    omega
    (arith, record-most 66 (n ∷ time n ∷ take (2 * links) (drop (2 * n * links) ledger)), take_short (2 * links) (drop (2 * n * links) ledger))

-- ---- the records of the first n boundaries are written
pub record Written (counts : Counts) (times ledger : List ℕ) (at : ℕ) (old out : List ℕ) (next n : ℕ) : Type 0 where
  pub few : n ≤ suc counts.steps
  pub long : length out ≡ length old
  pub end : next ≤ at + 1052 * n
  pub wrote : Wrote (record_texts 66 n (ledger_numbers counts.links (plan_time counts times) ledger)) at old out next

module _ {counts : Counts} {times ledger : List ℕ} {at : ℕ} {old : List ℕ} (asked : RowsAsked old at counts times ledger) where
  pub rows-first : Written counts times ledger at old old at 0
  unfolding record_texts put_at
  rows-first = record { few = omega arith; long = refl; end = omega arith; wrote = record { is = let e : at + 0 ≡ at = omega arith in rw e (sym (take-append-drop at old)); ends = omega arith } }

  module _ (n : ℕ) (h : n ≤ counts.steps) where
    module _ {out : List ℕ} {next : ℕ} (w : Written counts times ledger at old out next n) where
      rows-room : next + 1052 ≤ length out
      rows-room = omega (arith, w.long, w.end, asked.room, asked.few.steps)

      pub rows-again : {out' : List ℕ} {next' : ℕ}
          → Wrote (record_text 66 (n ∷ plan_time counts times n ∷ take (2 * (n + 1) * counts.links - 2 * n * counts.links) (drop (2 * n * counts.links) ledger))) next out out' next'
          → Written counts times ledger at old out' next' (n + 1)
      unfolding record_texts ledger_numbers
      rows-again {out'} {next'} v =
          let d : 2 * (n + 1) * counts.links - 2 * n * counts.links ≡ 2 * counts.links = omega arith in
          let numbers = ledger_numbers counts.links (plan_time counts times) ledger in
          let u : Wrote (record_text 66 (numbers n)) next out out' next' = rw d at v in
          let b = boundary-length counts.links (plan_time counts times) ledger n asked.few.links in
          let m = wrote-more (record_texts 66 n numbers) (record_text 66 (numbers n)) at old out out' next next' (omega (arith, w.wrote.ends, w.end, asked.room, asked.few.steps)) w.wrote u in
          record {
            few = omega arith;
            long = wrote-length (record_text 66 (numbers n)) next out out' next' (omega (arith, rows-room)) u ∙ w.long;
            end = omega (arith, u.ends, w.end);
            wrote = rw add-one m;
          }
