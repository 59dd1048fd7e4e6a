-- The ledger while its rows are written one after another.
use Rattle.base_laws.proofs.Kit.{ℕ, ◌+◌, ◌*◌, ◌-◌, ◌≤◌, ◌≡◌, sym, ap, ◌∙◌, List, ◌++◌, mul-le-mul_right, arith, drop, drop-drop, drop_at}
use Rattle.text_reader.specs.Lines.{Line}
use Rattle.base_laws.specs.Sum.{joined}
use Rattle.model.specs.Network.{link_count}
use Rattle.model.specs.Flows.{row}
use Rattle.model.specs.Calls.{written}
use Rattle.model.proofs.Rows.{length-rows}

module _ (network plan : List Line) where
  -- rows written over rows that were written before
  pub written-again : (old : List ℕ) (k m : ℕ) → k ≤ m → written network plan (written network plan old k) m ≡ written network plan old m
  unfolding written
  written-again old k m h =
      let l = link_count network in
      let w = joined k (row network plan) ++ drop (2 * k * l) old in
      let le = mul-le-mul_right (2 * l) h in
      let d : 2 * k * l + (2 * m * l - 2 * k * l) ≡ 2 * m * l = omega arith in
      let e : drop (2 * k * l) w ≡ drop (2 * k * l) old = drop_at (joined k (row network plan)) _ (2 * k * l) (length-rows network plan k) in
      ap (λ x. joined m (row network plan) ++ x)
      (ap (λ x. drop x w) (sym d) ∙ sym (drop-drop (2 * m * l - 2 * k * l) (2 * k * l) w) ∙ ap (drop (2 * m * l - 2 * k * l)) e
      ∙ drop-drop (2 * m * l - 2 * k * l) (2 * k * l) old ∙ ap (λ x. drop x old) d)
