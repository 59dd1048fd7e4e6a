-- What the proofs take of the kit's libraries, so that a file brings it in by one line.
pub use mathlib.Core.Path.{◌∙◌, ◌≡◌, ap, ap₂, fun_ext, refl, subst, subst⁻¹, sym}
pub use mathlib.Core.Logic.{◌↔◌, ◌≢◌, ◌⊎◌, inl, inr, ⊎_elim}
pub use mathlib.Core.Bool.{Bool, beq as Bool·beq, ◌&&◌, ◌||◌, and_assoc, and-eq-true_iff, and-false, and-true, cond, false, not, or-false, or-true, true, true≢false}
pub use mathlib.Core.List.Memᴰ.{append_cases as List·Memᴰ·append-cases}
pub use mathlib.Core.List.Memᴰ.{append_left as Memᴰ·append-left}
pub use mathlib.Core.List.Memᴰ.{append_right as Memᴰ·append-right}
pub use mathlib.Core.List.Memᴰ.{cases_cons as List·Memᴰ·cases-cons}
pub use mathlib.Core.List.Memᴰ.{head as List·Memᴰ·head}
pub use mathlib.Core.List.Memᴰ.{not-nil as List·Memᴰ·not-nil}
pub use mathlib.Core.List.Memᴰ.{tail as List·Memᴰ·tail}
pub use mathlib.Core.List.{List, Memᴰ as List-as-Memᴰ, [], ◌++◌, ◌∷◌, append_assoc, append-nil, foldl, map}
pub use Prim.Native.Nat.{◌%◌, ◌*◌, ◌+◌, ◌-◌, ◌/◌, ◌<◌, ◌^◌, ◌≤◌, max, min, suc, zero, ℕ}
pub use native.Mathlib.Nat.{add_assoc, add-mul-mod_self_right, add-zero, div-add-mod', div-div-eq-div-mul, div-eq_of_lt, div-le_of_le-mul, div-lt_iff_lt-mul, div-mul-le_self, eq-or-lt_of_le, eq-zero-or-pos}
pub use native.Mathlib.Nat.{le_antisymm, le-div_iff_mul-le, le_of_eq, le_of_lt, le_of_mul-le-mul_right, le_of_suc-le-suc, le_refl, le_trans, lt-div-mul-add, lt_of_le_of_lt, mod-add-mod, mod-eq_of_lt, mod-lt, mod_self, mul_assoc}
pub use native.Mathlib.Nat.{mul_comm, mul-div_cancel, mul-le-mul, mul-le-mul_left, mul-le-mul_right, mul-lt-mul_of_pos_left, mul-lt-mul_of_pos_right, mul-pos, mul-suc, pow-le-pow_right, pow-suc, sub-zero, zero-div, zero-lt-suc, zero-mul}
pub use native.Mathlib.Numerals.{add-one}
pub use native.Mathlib.Omega.{arith}
pub use native.Mathlib.Decide.{dec_le, dec_lt, ℕ_discrete}
pub use lib.ListN.{get_or-append as List·getD-append, get_or-eq_default as List·getD-eq-default, drop, drop_of_length-le, get_or, get_or-replicate, length, length-append, length-drop, length-replicate, length-set, length-take, replicate, set, take, take-append-drop}
pub use lib.Seq.{append_snoc, drop-append-add, drop_at, drop-cons, drop-drop, drop-set-lt, ext_get_or, get_or-append-add, get_or-append_seam, get_or_at, get_or-drop, get_or-set_other, get_or-set_same, get_or-take, length-take-le, set_at, set-get_or, set_split, take_all, take_at, take-length, take-suc, take-suc-set}
pub use lib.Dec.{T, eqb, eqb-suc-suc as eqb·suc-suc, eqb-suc-zero as eqb·suc-zero, eqb-zero-suc as eqb·zero-suc, leb, leb-suc-suc as leb·suc-suc, leb-suc-zero as leb·suc-zero, leb-zero as leb·zero, ltb}
pub use borrow.Author.Tests.{eq-eqb, eqb-false, eqb-true, le-leb, le-ltb, leb-false, leb-true, lt-leb, lt-ltb, ltb-false, ltb-true, ne_eqb, not-false, not-true}
pub use borrow.Author.Rules.{rules}
