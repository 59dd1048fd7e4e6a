-- Lists by index.
use Rattle.std.specs.Prelude.{ℕ, zero, suc, List, [], ◌∷◌, ◌++◌, drop}

-- f 0, f 1, .., f (n - 1)
unfoldable pub list : {A : Type 0} → ℕ → (ℕ → A) → List A
list zero f = []
list (suc n) f = list n f ++ (f n ∷ [])

-- the first n values are those of f, the others are old
unfoldable pub filled : {A : Type 0} → (ℕ → A) → List A → ℕ → List A
filled f old n = list n f ++ drop n old
