-- The numbers of a line that is read again.
use Rattle.base_laws.proofs.Kit.{ℕ, zero, suc, ◌≤◌, ◌<◌, ◌≡◌, refl, ap₂, ◌∙◌, List, [], ◌∷◌, ◌++◌, arith, length, get_or, take, take-suc}
use Rattle.base_laws.specs.Indexed.{list}

-- the numbers of a row by index
pub numbers-are : (w : ℕ) (f : ℕ → ℕ) (row : List ℕ) → w ≤ length row → ((k : ℕ) → k < w → get_or row k 0 ≡ f k) → take w row ≡ list w f
unfolding list
numbers-are zero f row h e = refl
numbers-are (suc w) f row h e = take-suc row w 0 h ∙ ap₂ (λ (xs : List ℕ) x. xs ++ (x ∷ [])) (numbers-are w f row (omega arith) (λ k l. e k (omega arith))) (e w (omega arith))
