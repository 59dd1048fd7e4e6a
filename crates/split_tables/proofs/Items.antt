-- Items counted, and those that a test holds of numbered anew.
use Rattle.std.specs.List.{count_by}
use Rattle.std.proofs.lemmas.List.Sums.{count_by_more_yes, count_by_more_no}
use Rattle.base_laws.proofs.Kit.{ℕ, zero, suc, ◌+◌, ◌≤◌, ◌<◌, ◌≡◌, refl, sym, ap, ap₂, ◌∙◌, ◌≢◌, Bool, true, false, not, List, ℕ_discrete, dec_le, add-one, arith, eqb, length, get_or, set, take, ◌⊎◌, inl, inr, length-take, length-set, get_or-take, get_or-set_same, get_or-set_other, replicate, length-replicate, get_or-replicate, List·getD-eq-default}
use Rattle.base_laws.specs.Sum.{only}
use Rattle.model_split.specs.Numbering.{rank}
use Rattle.model_split.proofs.Numbering.{rank-more, rank_same}
use Rattle.std.proofs.lemmas.List.{take_all}
use Rattle.split_tables.specs.Tables.{is_in}
use Rattle.split_tables.specs.Items.{Gives, Numbered}
use Rattle.base_laws.proofs.Tests.{either_way}

pub zeros-at : (n k : ℕ) → get_or {A = ℕ} (replicate n 0) k 0 ≡ 0
zeros-at n k = elim (dec_le n k) [
  | yes h ↦ List·getD-eq-default (replicate n 0) 0 (omega (arith, length-replicate {A = ℕ} n 0))
  | no h ↦ get_or-replicate {A = ℕ} n k 0 0 (omega arith)
]

-- a number of a list in which one is set
pub set-at-most : (xs : List ℕ) (i v k : ℕ) → i < length xs → (Q : ℕ → Type 0) → (k ≡ i → Q v) → (k ≢ i → Q (get_or xs k 0)) → Q (get_or (set xs i v) k 0)
set-at-most xs i v k h Q same other = elim (ℕ_discrete k i) [
  | yes e ↦ rw (e, get_or-set_same xs i v 0 h) (same e)
  | no e ↦ rw (get_or-set_other xs i k v 0 e) (other e)
]

pub rank-ext : (n : ℕ) (f g : ℕ → Bool) → ((k : ℕ) → k < n → f k ≡ g k) → rank f n ≡ rank g n
unfolding rank
rank-ext zero f g h = refl
rank-ext (suc n) f g h = ap₂ (λ x b. x + only b 1) (rank-ext n f g (λ k l. h k (omega arith))) (h n (omega arith))

-- ---- `count_in`
pub counted : (numbers : List ℕ) (count : ℕ) → count ≤ length numbers → count_by (λ x. not (eqb x 0)) (take count numbers) ≡ rank (is_in numbers) count
counted numbers zero h = unfold rank in refl
counted numbers (suc n) h = go (either_way (is_in numbers n)) (counted numbers n (omega arith))
  where
    same : not (eqb (get_or numbers n 0) 0) ≡ is_in numbers n
    same = unfold is_in in refl

    go : (is_in numbers n ≡ true) ⊎ (is_in numbers n ≡ false) → count_by (λ x. not (eqb x 0)) (take n numbers) ≡ rank (is_in numbers) n
        → count_by (λ x. not (eqb x 0)) (take (suc n) numbers) ≡ rank (is_in numbers) (suc n)
    go (inl e) ih =
        let m : count_by (λ x. not (eqb x 0)) (take (suc n) numbers) ≡ count_by (λ x. not (eqb x 0)) (take n numbers) + 1 = rw (sym (add-one n)) (count_by_more_yes _ numbers n 0 (omega arith) (same ∙ e)) in
        m ∙ ap (λ x. x + 1) ih ∙ add-one _ ∙ sym (rank-more (is_in numbers) n e)
    go (inr e) ih =
        let m : count_by (λ x. not (eqb x 0)) (take (suc n) numbers) ≡ count_by (λ x. not (eqb x 0)) (take n numbers) = rw (sym (add-one n)) (count_by_more_no _ numbers n 0 (omega arith) (same ∙ e)) in
        m ∙ ih ∙ sym (rank_same (is_in numbers) n e)

pub counted_all : (numbers : List ℕ) → count_by (λ x. not (eqb x 0)) numbers ≡ rank (is_in numbers) (length numbers)
counted_all numbers = let e : take (length numbers) numbers ≡ numbers = take_all (length numbers) numbers (omega arith) in rw e at (counted numbers (length numbers) (omega arith))

-- so many in front of a table are counted
pub counted-front : (numbers : List ℕ) (n : ℕ) → n ≤ length numbers → rank (is_in (take n numbers)) (length (take n numbers)) ≡ rank (is_in numbers) n
counted-front numbers n h =
    let e : length (take n numbers) ≡ n = omega (arith, length-take {A = ℕ}) in
    rw e (rank-ext n _ _ (λ k l. unfold is_in in ap (λ x. not (eqb x 0)) (get_or-take n numbers k 0 l)))

-- ---- `numbers_where`: the first k, and the number of the last
pub record NumberedTo (post : ℕ → Bool → Type 0) (count size : ℕ) (numbers : List ℕ) (last k : ℕ) : Type 0 where
  pub size-is : length numbers ≡ size
  pub last-small : last ≤ k
  pub last-is : (test : ℕ → Bool) → Gives post count test → last ≡ rank test k
  pub numbered : (test : ℕ → Bool) → Gives post count test → Numbered test k numbers
  pub blank : (i : ℕ) → k ≤ i → get_or numbers i 0 ≡ 0

pub numbered-none : (post : ℕ → Bool → Type 0) (count n : ℕ) → NumberedTo post count n (replicate n 0) 0 0
unfolding rank
numbered-none post count n =
    record {
      size-is = length-replicate {A = ℕ} n 0;
      last-small = omega arith;
      last-is = λ test g. refl;
      numbered = λ test g. record { are = λ k h. absurd (omega arith) };
      blank = λ i h. zeros-at n i;
    }

module _ {post : ℕ → Bool → Type 0} {count size : ℕ} {numbers : List ℕ} {last k : ℕ} (t : NumberedTo post count size numbers last k) where
  module _ (h : k < count) (room : k < size) {told : Bool} (p : post k told) where
    pub numbered-more : told ≡ true → NumberedTo post count size (set numbers k (last + 1)) (last + 1) (k + 1)
    numbered-more e =
        let within : k < length numbers = omega (arith, t.size-is) in
        record {
          size-is = length-set numbers k (last + 1) ∙ t.size-is;
          last-small = omega (arith, t.last-small);
          last-is = λ test g. rw (add-one k) (omega (arith, t.last-is test g) ∙ sym (rank-more test k (sym (g k told h p) ∙ e)));
          numbered = λ test g. record {
            are = λ i l. set-at-most numbers k (last + 1) i within (λ x. x ≡ only (test i) (suc (rank test i)))
                (λ z. rw (z, ← g k told h p, e, ← t.last-is test g) (add-one last)) (λ z. (t.numbered test g).are i (omega arith));
          };
          blank = λ i l. set-at-most numbers k (last + 1) i within (λ x. x ≡ 0) (λ z. absurd (omega arith)) (λ z. t.blank i (omega arith));
        }

    pub numbered-other : told ≡ false → NumberedTo post count size numbers last (k + 1)
    numbered-other e =
        record {
          size-is = t.size-is;
          last-small = omega (arith, t.last-small);
          last-is = λ test g. rw (add-one k) (t.last-is test g ∙ sym (rank_same test k (sym (g k told h p) ∙ e)));
          numbered = λ test g. record {
            are = λ i l. elim (ℕ_discrete i k) [
              | yes s ↦ rw (s, ← g k told h p, e) (t.blank k (omega arith))
              | no s ↦ (t.numbered test g).are i (omega arith)
            ];
          };
          blank = λ i l. t.blank i (omega arith);
        }

  pub numbered-all : k ≡ count → (test : ℕ → Bool) → Gives post count test → Numbered test count numbers
  numbered-all e test g = rw e at (t.numbered test g)
