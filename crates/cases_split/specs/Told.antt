-- The answer of a split and its texts in the stored form.
use Rattle.std.specs.Prelude.{Bool, ◌&&◌, ◌==◌, nat_eq, List, ◌++◌, ℕ, Result, Ok, Err}
use Rattle.std.specs.List.{starts_with}
use Rattle.std.specs.Int.{w32, to_le_bytes}
use Rattle.base_search.specs.declared.Refusal.{Refusal}
use Rattle.model_split.specs.declared.Lengths.{Lengths}
use Rattle.model_split.specs.Splits.{Buffers}

abbrev pub lengths_bytes : Lengths → List ℕ
lengths_bytes lengths =
    to_le_bytes w32 lengths.network_1 ++ to_le_bytes w32 lengths.plan_1 ++ to_le_bytes w32 lengths.network_2 ++ to_le_bytes w32 lengths.plan_2

-- how long the texts are that were written; 0 where the call is refused
abbrev pub lengths_of : Result Lengths Refusal → Lengths
lengths_of (Ok lengths) = lengths
lengths_of (Err r) = record { network_1 = 0; plan_1 = 0; network_2 = 0; plan_2 = 0 }

abbrev pub same_lengths : Lengths → Lengths → Bool
same_lengths one other =
    one.network_1 == other.network_1
    && one.plan_1 == other.plan_1
    && one.network_2 == other.network_2
    && one.plan_2 == other.plan_2

-- each buffer is the start of a room of 8,192 bytes that holds what was stored of it
abbrev pub left_as_told : Buffers → Buffers → Bool
left_as_told left told =
    starts_with nat_eq told.network₁ left.network₁
    && starts_with nat_eq told.plan₁ left.plan₁
    && starts_with nat_eq told.network₂ left.network₂
    && starts_with nat_eq told.plan₂ left.plan₂
