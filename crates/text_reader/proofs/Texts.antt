-- A quoted text as its bytes, for worked examples in ASCII.
use Rattle.base_laws.proofs.Kit.{ℕ, List, [], ◌∷◌}
use Prim.Native.Char.{code}
use Prim.Native.String.{String, [] as nil, ◌∷◌ as ◌then◌}

abbrev pub bytes : String → List ℕ
bytes nil = []
bytes (◌then◌ c s) = code c ∷ bytes s
