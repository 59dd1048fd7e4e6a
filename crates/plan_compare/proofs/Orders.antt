-- How two plans stand to each other by their curves.
use Rattle.base_laws.proofs.Kit.{suc, ◌≡◌, refl, Bool, true, false, List, le_antisymm, arith, leb, le-leb, leb-true, leb-false}
use Rattle.text_reader.specs.Lines.{Line}
use Rattle.model.specs.Network.{step_count}
use Rattle.base_laws.proofs.Tests.{every-at, every_of, every-fails}
use Rattle.plan_compare.specs.declared.Order.{Order}
use Rattle.plan_compare.specs.declared.Order.TheVariants.{Ahead, Behind, Equal, Crossing}
use Rattle.plan_compare.specs.Comparison.{order_by, let_out_by, is_never_fewer, order}
use Rattle.plan_compare.specs.Promises.{NeverFewer, SomewhereMore, Stands, swapped}

module _ (network one other : List Line) where
  never-fewer : is_never_fewer network one other ≡ true → NeverFewer network one other
  unfolding is_never_fewer
  never-fewer h n l = leb-true _ _ (every-at (suc (step_count network)) (λ n. leb (let_out_by network other n) (let_out_by network one n)) h n (omega arith))

  somewhere-more : is_never_fewer network one other ≡ false → SomewhereMore network other one
  unfolding is_never_fewer
  somewhere-more h =
      let r = every-fails (suc (step_count network)) (λ n. leb (let_out_by network other n) (let_out_by network one n)) h in
      (r.0, omega (arith, r.1), leb-false _ _ r.2)

  never-fewer-by-every : NeverFewer network one other → is_never_fewer network one other ≡ true
  unfolding is_never_fewer
  never-fewer-by-every h = every_of (suc (step_count network)) (λ n. leb (let_out_by network other n) (let_out_by network one n)) (λ n l. le-leb _ _ (h n (omega arith)))

  is-somewhere-fewer : SomewhereMore network other one → is_never_fewer network one other ≡ false
  is-somewhere-fewer m = go (is_never_fewer network one other) refl
    where
      go : (b : Bool) → is_never_fewer network one other ≡ b → b ≡ false
      go true e = absurd (omega (arith, never-fewer e m.0 m.1, m.2))
      go false e = refl

module _ (network first second : List Line) where
  -- the order of two plans is how they stand ..
  pub order-stands : Stands network (order network first second) first second
  unfolding order
  order-stands = go (is_never_fewer network first second) (is_never_fewer network second first) refl refl
    where
      go : (a b : Bool) → is_never_fewer network first second ≡ a → is_never_fewer network second first ≡ b → Stands network (order_by a b) first second
      go true true e f = λ n l. le_antisymm (never-fewer network second first f n l) (never-fewer network first second e n l)
      go true false e f = (never-fewer network first second e, somewhere-more network second first f)
      go false true e f = (never-fewer network second first f, somewhere-more network first second e)
      go false false e f = (somewhere-more network second first f, somewhere-more network first second e)

  -- .. and in no other order do they
  pub stands-order : (o : Order) → Stands network o first second → o ≡ order network first second
  unfolding order
  stands-order Ahead h = rw (never-fewer-by-every network first second h.0, is-somewhere-fewer network second first h.1)
  stands-order Behind h = rw (never-fewer-by-every network second first h.0, is-somewhere-fewer network first second h.1)
  stands-order Equal h =
      rw (never-fewer-by-every network first second (λ n l. omega (arith, h n l)), never-fewer-by-every network second first (λ n l. omega (arith, h n l)))
  stands-order Crossing h = rw (is-somewhere-fewer network first second h.1, is-somewhere-fewer network second first h.0)

  pub order-swapped : order network second first ≡ swapped (order network first second)
  unfolding order
  order-swapped = go (is_never_fewer network first second) (is_never_fewer network second first)
    where
      go : (a b : Bool) → order_by b a ≡ swapped (order_by a b)
      go true true = refl
      go true false = refl
      go false true = refl
      go false false = refl
