-- What `all` says of a range and of a slice, as a test of every index.
use Rattle.base_laws.proofs.Kit.{ℕ, zero, suc, ◌+◌, ◌-◌, ◌≤◌, ◌<◌, ◌≡◌, refl, sym, ap, ap₂, ◌∙◌, Bool, true, false, ◌&&◌, and-true, arith, List, length, take, get_or}
use Rattle.std.proofs.lemmas.List.Folds.{list_all_more}
use Rattle.base_laws.specs.Test.{◌and◌, every}
use Rattle.base_laws.proofs.Tests.{every-at, every-same, and_left, and_right}
use Rattle.std.specs.List.{list_all, range_with_len, FoldsTo}
use Rattle.std.specs.Fn.{Mut, Called}
use Rattle.std.specs.Iterator.{YieldsThen}
use Rattle.std.specs.Range.{range_steps}
use Rattle.std.specs.Prelude.{Option, MatchOption}
use Rattle.std.specs.declared.ops.Range.{Range}
use Rattle.std.proofs.lemmas.Iterator.{YieldsList-from_range}
use Rattle.std.proofs.lemmas.Iterator.Search.{all_from_yields_List}

and-assoc : (a b c : Bool) → ((a && b) && c) ≡ (a && (b && c))
and-assoc true b c = refl
and-assoc false b c = refl

-- the first index apart
pub every-first : (n : ℕ) (test : ℕ → Bool) → every (suc n) test ≡ (test 0 && every n (λ i. test (suc i)))
unfolding every ◌and◌
every-first zero test = rw and-true
every-first (suc n) test = ap (λ b. b && test (suc n)) (every-first n test) ∙ and-assoc (test 0) (every n (λ i. test (suc i))) (test (suc n))

from : (n a : ℕ) (test : ℕ → Bool) → list_all test (range_with_len a n) ≡ every n (λ i. test (a + i))
unfolding every
from zero a test = refl
from (suc n) a test =
    let here : test a ≡ test (a + 0) = ap test (omega arith) in
    let later : every n (λ i. test (a + 1 + i)) ≡ every n (λ i. test (a + suc i)) = every-same n _ _ (λ i h. ap test (omega arith)) in
    ap₂ ◌&&◌ here (from n (a + 1) test ∙ later) ∙ sym (every-first n (λ i. test (a + i)))

pub all-every : (n : ℕ) (test : ℕ → Bool) → list_all test (range_with_len 0 n) ≡ every n test
all-every n test = from n 0 test ∙ every-same n _ _ (λ i h. ap test (omega arith))

-- `all` over the range up to n
pub range-every : {F : Type 0} {g : Mut F (ℕ × Unit {0}) Bool} {u : Range ℕ} {f : F} {r : Bool} (n : ℕ) (test : ℕ → Bool)
    → (xs : List ℕ) × (o : Option ℕ) × (j : F) × YieldsThen (range_steps (λ a b. b - a) (λ a b. b ≡ a + 1)) (record { start = 0; end = n }) xs o u × FoldsTo (λ p x q. Called g p (x, tt) true q) f xs j × MatchOption o (r ≡ true) (λ x. (r ≡ false) × ((h : F) × Called g j (x, tt) false h))
    → ((x : ℕ) (b : Bool) (q : F) → Called g f (x, tt) b q → (q ≡ f) × (b ≡ test x)) → r ≡ every n test
range-every n test ran calls = all_from_yields_List test _ _ _ ran (YieldsList-from_range 0 n n refl (omega arith)) calls ∙ all-every n test

-- where two tests hold of every index, each does
pub both-kept : (n : ℕ) (one other : ℕ → Bool) {r : Bool} → r ≡ every n (λ i. one i and other i) → r ≡ true → (i : ℕ) → i < n → (one i ≡ true) × (other i ≡ true)
both-kept n one other told t i h = let kept = every-at n _ (sym told ∙ t) i h in (and_left _ _ kept, and_right _ _ kept)

-- of the first n items
pub items-every : {A : Type 0} (test : A → Bool) (items : List A) (none : A) (n : ℕ) → n ≤ length items → list_all test (take n items) ≡ every n (λ i. test (get_or items i none))
unfolding every ◌and◌
items-every test items none zero h = refl
items-every test items none (suc n) h =
    let next : suc n ≡ n + 1 = omega arith in
    ap (λ k. list_all test (take k items)) next ∙ list_all_more test items n none (omega arith)
    ∙ ap (λ b. b && test (get_or items n none)) (items-every test items none n (omega arith))
