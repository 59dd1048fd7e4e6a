-- The rows of a ledger, read through a part of it or from a row that is lent.
use Rattle.base_laws.proofs.Kit.{◌≡◌, refl, sym, ap, ◌∙◌, List, [], ◌∷◌, ◌++◌, ℕ, zero, suc, ◌+◌, ◌*◌, ◌/◌, ◌%◌, ◌≤◌, ◌<◌, ℕ_discrete, arith, length, length-take-le, get_or, take, drop, List·getD-append, get_or-drop, get_or-take, ext_get_or}
use Rattle.text_reader.specs.Lines.{Line}
use Rattle.model.specs.Network.{link_count}
use Rattle.model.specs.Flows.{entered, left, row_of, row}
use Rattle.model.specs.Calls.{written}
use Rattle.model.proofs.Rows.{length-row, row_at, written_at, written_next}
use Rattle.step_rows.specs.Rows.{pairs, RowHolds}

module _ (network plan : List Line) where
  row-of-pairs : (n k : ℕ) → row_of network plan n k ≡ pairs (entered network plan n) (left network plan n) k
  unfolding row_of pairs
  row-of-pairs n zero = refl
  row-of-pairs n (suc k) = ap (λ r. r ++ (entered network plan n k ∷ left network plan n k ∷ [])) (row-of-pairs n k)

  pub row-pairs : (n : ℕ) → row network plan n ≡ pairs (entered network plan n) (left network plan n) (link_count network)
  unfolding row
  row-pairs n = row-of-pairs n (link_count network)

  -- a list that begins with row n
  pub row-holds : (n : ℕ) (rest : List ℕ) {cells : List ℕ} → cells ≡ row network plan n ++ rest → RowHolds network plan n cells
  row-holds n rest e =
      record {
        entered-at = λ i l. ap (λ r. get_or r (2 * i) 0) e ∙ List·getD-append (row network plan n) rest 0 (2 * i) (omega (arith, length-row network plan n)) ∙ (row_at network plan n i l).0;
        left_at = λ i l. ap (λ r. get_or r (2 * i + 1) 0) e ∙ List·getD-append (row network plan n) rest 0 (2 * i + 1) (omega (arith, length-row network plan n)) ∙ (row_at network plan n i l).1;
      }

  -- the part `&ledger[2 * n * L..]` of a ledger with m rows written begins with row n
  pub part-holds : (old : List ℕ) (m n k : ℕ) → n < m → 2 * link_count network ≤ k → RowHolds network plan n (take k (drop (2 * n * link_count network) (written network plan old m)))
  part-holds old m n k h l =
      record {
        entered-at = λ i u. get_or-take k _ (2 * i) 0 (omega arith) ∙ get_or-drop (2 * n * link_count network) _ (2 * i) 0 ∙ (written_at network plan old m n i h u).0;
        left_at = λ i u.
            let e : 2 * n * link_count network + (2 * i + 1) ≡ 2 * n * link_count network + 2 * i + 1 = omega arith in
            get_or-take k _ (2 * i + 1) 0 (omega arith) ∙ get_or-drop (2 * n * link_count network) _ (2 * i + 1) 0
            ∙ ap (λ x. get_or (written network plan old m) x 0) e ∙ (written_at network plan old m n i h u).1;
      }

  -- cells that hold row n begin with it
  pub row-front : (n : ℕ) {cells : List ℕ} → 2 * link_count network ≤ length cells → RowHolds network plan n cells → take (2 * link_count network) cells ≡ row network plan n
  row-front n {cells} room holds =
      ext_get_or 0 (take (2 * link_count network) cells) (row network plan n) (length-take-le (2 * link_count network) cells room ∙ sym (length-row network plan n))
      (λ k l. in_row k (omega (arith, length-take-le (2 * link_count network) cells room)))
    where
      in_row : (k : ℕ) → k < 2 * link_count network → get_or (take (2 * link_count network) cells) k 0 ≡ get_or (row network plan n) k 0
      in_row k l =
          let i = k / 2 in
          let u : i < link_count network = omega arith in
          get_or-take (2 * link_count network) cells k 0 l
          ∙ elim (ℕ_discrete (k % 2) 0) [
            | yes z ↦ let e : k ≡ 2 * i = omega arith in rw e (holds.entered-at i u ∙ sym (row_at network plan n i u).0)
            | no z ↦ let e : k ≡ 2 * i + 1 = omega arith in rw e (holds.left_at i u ∙ sym (row_at network plan n i u).1)
          ]

  -- `write_row` leaves the ledger of the model with one row more
  pub next-written : (old cells : List ℕ) (m : ℕ) {ledger out : List ℕ} → ledger ≡ written network plan old m → take (2 * link_count network) cells ≡ row network plan m
      → out ≡ take (2 * m * link_count network) ledger ++ (take (2 * link_count network) cells ++ drop (2 * m * link_count network + 2 * link_count network) ledger)
      → out ≡ written network plan old (suc m)
  next-written old cells m p q e = e ∙ rw (p, q) (written_next network plan old m)
