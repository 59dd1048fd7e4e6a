-- What the definitions say of a split, and when it is what was stored.
use Rattle.std.specs.Prelude.{Bool, ◌&&◌, Result}
use Rattle.base_search.specs.declared.Refusal.{Refusal}
use Rattle.model_split.specs.declared.Lengths.{Lengths}
use Rattle.model_split.specs.Call.{split_network}
use Rattle.model_split.specs.Splits.{Texts, Buffers, network_of, plan_for, room_of, buffers_after}
use Rattle.cases_files.specs.Refusals.{refused_by, same_refusal}
use Rattle.cases_split.specs.declared.told.Stored.{Stored}
use Rattle.cases_split.specs.Told.{lengths_of, same_lengths, left_as_told}

-- the answer and what the buffers hold after the call
abbrev pub answer_to : Texts → Stored → Buffers → Result Lengths Refusal
answer_to whole stored before = split_network (network_of whole) (plan_for whole) stored.first_half (room_of before)

abbrev pub left_by : Texts → Stored → Buffers → Buffers
left_by whole stored before = buffers_after (network_of whole) (plan_for whole) stored.first_half before

-- the refusal, how long the texts are, and every byte of the four buffers are what was stored
abbrev pub as_stored : Result Lengths Refusal → Buffers → Stored → Buffers → Bool
as_stored answer after stored told =
    same_refusal (refused_by answer) stored.refusal
    && (same_lengths (lengths_of answer) stored.lengths && left_as_told after told)
