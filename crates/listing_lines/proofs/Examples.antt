-- What the definitions say of some lines, computed.
use Rattle.base_laws.proofs.Kit.{ℕ, ◌≡◌, refl, List, [], ◌∷◌, map}
use Prim.Native.Char.{code}
use Prim.Native.String.{String}
use Rattle.std.specs.Prelude.{Some, None, replicate}
use Rattle.text_reader.specs.Field.{digit, digits, shift, decimal}
use Rattle.listing_lines.specs.declared.Variable.{Variable}
use Rattle.listing_lines.specs.declared.Variable.TheVariants.{Shown, Admitted, LetOut, Moved}
use Rattle.listing_lines.specs.Entry.{Entry, split_once, setting, entry_of, entries_of, entries}

abbrev bytes : String → List ℕ
bytes String.[] = []
bytes (String.◌∷◌ c s) = code c ∷ bytes s

abbrev sets : Variable → ℕ → Entry
sets variable millionths = Some (setting variable millionths)

-- the last line has no line feed
a-listing : entries (bytes ("p_1_2_4 1\ni_1_1 0.5\no_2_3 007.300\nm_1_2 0.000001\nm_10_120 9999999999.999999\np_8_8_120 1.000000\no_2_4 0.2"))
    ≡ sets (Shown 1 2 4) 1_000_000 ∷ sets (Admitted 1 1) 500_000 ∷ sets (LetOut 2 3) 7_300_000 ∷ sets (Moved 1 2) 1
    ∷ sets (Moved 10 120) 9_999_999_999_999_999 ∷ sets (Shown 8 8 120) 1_000_000 ∷ None ∷ []
unfolding digit digits shift decimal split_once entries_of entries
a-listing = refl

no_lines : entries [] ≡ []
unfolding entries_of entries
no_lines = refl

-- each of these is malformed
bad-lines : map (λ (s : String). entry_of (bytes s))
    ("" ∷ "i_1_1" ∷ "i_1_1 " ∷ "i_1_1  1" ∷ " i_1_1 1" ∷ "i_1_1 1 " ∷ "i_01_1 1" ∷ "i_1_01 1" ∷ "i_1 1" ∷ "i_1_1_1 1" ∷ "p_1_1 1" ∷ "p_1_1_1_1 1" ∷ "i__1_1 1"
    ∷ "x_1_1 1" ∷ "ii_1_1 1" ∷ "_1_1 1" ∷ "I_1_1 1" ∷ "i_1_1 1." ∷ "i_1_1 .5" ∷ "i_1_1 1.0000000" ∷ "i_1_1 12345678901" ∷ "i_1_1 1.5.5" ∷ "i_1_1 -1" ∷ "i_1_1 1e3" ∷ "i_1_1\t1" ∷ "i_1_1 1\r"
    ∷ "i_12345678901_1 1" ∷ "i_-1_1 1" ∷ "i_1_ 1" ∷ "i_1_1 +1" ∷ [])
    ≡ replicate 30 None
unfolding digit digits shift decimal split_once entries_of entries
bad-lines = refl
