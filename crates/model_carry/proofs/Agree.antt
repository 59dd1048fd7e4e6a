-- What stands at boundary a looks at the plan's lines before it, and at no others.
use Rattle.base_laws.proofs.Kit.{◌≡◌, refl, ap, ap₂, List, ℕ, zero, suc, ◌+◌, ◌-◌, ◌≤◌, ◌<◌, dec_le, arith, eqb, lt-ltb, le-ltb}
use Rattle.text_reader.specs.Lines.{Line}
use Rattle.base_laws.specs.Sum.{only}
use Rattle.model.specs.Network.{entry, movement_count, past_count, to_link, from_link}
use Rattle.model.specs.Flows.{shown_mask, admitted, let_out, moved, shown_in, signal_at, moved_into, moved_from, inflow, outflow, timeline_inflow, timeline_outflow, taken, waits, offered}
use Rattle.base_laws.proofs.Sums.{sum-ext}

module _ (network p q : List Line) (a : ℕ) (agree : (n k : ℕ) → n < a → entry p n k ≡ entry q n k) where
  moved-agree : (n j : ℕ) → n < a → moved network p n j ≡ moved network q n j
  unfolding moved
  moved-agree n j h = agree n _ h

  inflow-agree : (n i : ℕ) → n < a → inflow network p n i ≡ inflow network q n i
  unfolding inflow moved_into admitted
  inflow-agree n i h =
      ap₂ (λ x y. x + y) (agree n _ h) (sum-ext (movement_count network) _ _ (λ j l. ap (λ x. only (eqb (to_link network j) (suc i)) x) (moved-agree n j h)))

  outflow-agree : (n i : ℕ) → n < a → outflow network p n i ≡ outflow network q n i
  unfolding outflow moved_from let_out
  outflow-agree n i h =
      ap₂ (λ x y. x + y) (agree n _ h) (sum-ext (movement_count network) _ _ (λ j l. ap (λ x. only (eqb (from_link network j) (suc i)) x) (moved-agree n j h)))

  pub timeline-inflow-agree : (m i : ℕ) → m < past_count network + a → timeline_inflow network p m i ≡ timeline_inflow network q m i
  unfolding timeline_inflow
  timeline-inflow-agree m i h = elim (dec_le (past_count network) m) [
    | yes x ↦ rw (le-ltb m (past_count network) x) (inflow-agree (m - past_count network) i (omega arith))
    | no x ↦ rw (lt-ltb m (past_count network) (omega arith))
  ]

  pub timeline-outflow-agree : (m i : ℕ) → m < past_count network + a → timeline_outflow network p m i ≡ timeline_outflow network q m i
  unfolding timeline_outflow
  timeline-outflow-agree m i h = elim (dec_le (past_count network) m) [
    | yes x ↦ rw (le-ltb m (past_count network) x) (outflow-agree (m - past_count network) i (omega arith))
    | no x ↦ rw (lt-ltb m (past_count network) (omega arith))
  ]

  pub signal-agree : (n r : ℕ) → n ≤ a → signal_at network p n r ≡ signal_at network q n r
  unfolding signal_at shown_in shown_mask
  signal-agree zero r h = refl
  signal-agree (suc n) r h = rw (signal-agree n r (omega arith), agree n r h)

  pub taken-agree : (i : ℕ) → taken network p a i ≡ taken network q a i
  unfolding taken admitted
  taken-agree i = sum-ext a _ _ (λ n h. agree n _ h)

  pub waits-agree : (i : ℕ) → waits network p a i ≡ waits network q a i
  unfolding waits
  waits-agree i = ap (λ x. offered network a i - x) (taken-agree i)
