-- The numbers of border movements, added up one after another.
use Rattle.base_laws.proofs.Kit.{ℕ, suc, ◌+◌, ◌*◌, ◌-◌, ◌≤◌, ◌<◌, ◌≡◌, refl, sym, ap, ap₂, ◌∙◌, Bool, true, false, List, ℕ_discrete, add-one, arith, eq-eqb, ne_eqb, eqb, length, length-set, get_or, replicate, length-replicate, get_or-replicate, get_or-set_same, get_or-set_other}
use Rattle.std.proofs.lemmas.List.{get_or_default}
use Rattle.text_reader.specs.Field.{largest}
use Rattle.base_laws.specs.Test.{◌and◌}
use Rattle.base_laws.specs.Sum.{sum, only}
use Rattle.model.specs.Network.{max_links}
use Rattle.network_tables.specs.declared.Movement.{Movement}
use Rattle.network_tables.specs.Fields.{movement_by, movement_at, link_in}
use Rattle.split_tables.specs.Tables.{is_border, LinksNamed}
use Rattle.split_tables.proofs.Ends.{ends-named}
use Rattle.split_tables.proofs.Items.{zeros-at}
use Rattle.split_text.specs.declared.Side.{Side}
use Rattle.split_text.specs.declared.Side.TheVariants.{From, To}
use Rattle.split_text.specs.Border.{side_number, end_on, added_at, border_sum, BorderAsked, Bordered}
use Rattle.split_tables.specs.Items.{Gives}

-- ---- `add_at`
module _ (link number : ℕ) (sums : List ℕ) where
  -- what is added to link i
  part : Bool → ℕ → ℕ
  part border i = only (border and eqb link (suc i)) number

  part_small : (border : Bool) (i : ℕ) → number < 4294967296 → part border i ≤ largest
  unfolding part
  part_small border i h = go (border and eqb link (suc i))
    where
      go : (b : Bool) → only b number ≤ largest
      go true = omega (arith, h)
      go false = omega arith

  added-is : (border : Bool) → 1 ≤ link → link ≤ length sums → (i : ℕ) → get_or (added_at border link number sums) i 0 ≡ get_or sums i 0 + part border i
  unfolding added_at ◌and◌ part
  added-is false first last i = omega arith
  added-is true first last i = elim (ℕ_discrete i (link - 1)) [
    | yes here ↦ let z : link ≡ suc i = omega arith in
        rw (here, get_or-set_same sums (link - 1) (get_or sums (link - 1) 0 + number) 0 (omega arith)) (rw (← here, eq-eqb link (suc i) z) refl)
    | no other ↦ rw (get_or-set_other sums (link - 1) i (get_or sums (link - 1) 0 + number) 0 other, ne_eqb link (suc i) (λ z. other (omega arith))) (omega arith)
  ]

  added-size : (border : Bool) → length (added_at border link number sums) ≡ length sums
  unfolding added_at
  added-size true = length-set sums (link - 1) (get_or sums (link - 1) 0 + number)
  added-size false = refl

-- ---- an item of the table
pub movement-here : (movements : List Movement) (j : ℕ) (none : Movement) → j < length movements → get_or movements j none ≡ movement_at movements j
movement-here movements j none h = get_or_default movements j none (movement_by (λ k. 0)) h

-- ---- `add_border`: the first j movements
side-small : (side : Side) → side_number side < 2
side-small From = omega arith
side-small To = omega arith

end-is : (movements : List Movement) (j : ℕ) (side : Side) → end_on side (movement_at movements j) ≡ link_in movements (side_number side) j
end-is movements j From = refl
end-is movements j To = refl

pub border-ends : {movements : List Movement} {count : ℕ} → BorderAsked movements count → (j : ℕ) (none : Movement) → j < length movements → LinksNamed (get_or movements j none)
border-ends {movements} a j none h = rw (movement-here movements j none h) (ends-named a (omega (arith, h, a.size)))

pub record BorderTo (movements : List Movement) (numbers : List ℕ) (count : ℕ) (side : Side) (post : ℕ → ℕ → Type 0) (sums : List ℕ) (j : ℕ) : Type 0 where
  pub size : length sums ≡ max_links
  pub small : (i : ℕ) → i < max_links → get_or sums i 0 ≤ largest * j
  pub are : (f : ℕ → ℕ) → Gives post count f → (i : ℕ) → get_or sums i 0 ≡ border_sum movements numbers (side_number side) f j i

module _ {movements : List Movement} {count : ℕ} (a : BorderAsked movements count) (side : Side) (numbers : List ℕ) (post : ℕ → ℕ → Type 0) where
  pub border-none : BorderTo movements numbers count side post (replicate max_links 0) 0
  unfolding border_sum sum
  border-none =
      record {
        size = length-replicate {A = ℕ} max_links 0;
        small = λ i l. omega (arith, get_or-replicate {A = ℕ} max_links i 0 0 l);
        are = λ f g i. zeros-at max_links i;
      }

  module _ {j : ℕ} (h : j < length movements) (none : Movement) where
    within : j < count
    within = omega (arith, h, a.size)

    here : get_or movements j none ≡ movement_at movements j
    here = movement-here movements j none h

    module _ {sums : List ℕ} (t : BorderTo movements numbers count side post sums j) {link : ℕ} (e : link ≡ end_on side (get_or movements j none)) where
      named : link ≡ link_in movements (side_number side) j
      named = e ∙ ap (end_on side) here ∙ end-is movements j side

      pub border-room : (1 ≤ link) × (link ≤ length sums) × (get_or sums (link - 1) 0 ≤ 1_000_000_000_000)
      border-room =
          let l = a.links j (side_number side) within (side-small side) in
          let u : link - 1 < max_links = omega (arith, named, l) in
          (omega (arith, named, l), omega (arith, named, l, t.size), omega (arith, t.small (link - 1) u, a.few, within))

      pub border-next : {border : Bool} {number : ℕ} → border ≡ is_border (get_or movements j none) numbers → number < 4294967296 → post j number → {new : List ℕ}
          → new ≡ added_at border link number sums → BorderTo movements numbers count side post new (j + 1)
      unfolding border_sum sum part
      border-next {border} {number} c few p w =
          let r = border-room in
          rw w (record {
            size = added-size link number sums border ∙ t.size;
            small = λ i l. omega (arith, added-is link number sums border r.0 r.1 i, part_small link number sums border i few, t.small i l);
            are = λ f g i. rw (add-one j) (added-is link number sums border r.0 r.1 i ∙ ap₂ (λ x y. x + y) (t.are f g i) (rw (c, here, named, g j number within p) refl));
          })

  -- all movements
  pub border-all : {sums : List ℕ} {j : ℕ} → BorderTo movements numbers count side post sums j → length movements ≡ j → (f : ℕ → ℕ) → Gives post count f
      → Bordered movements numbers count (side_number side) f sums
  border-all t e f g = record { are = rw (sym a.size ∙ e) (t.are f g) }
