-- What functions say to one another of operations that wait for their sources.
use Rattle.std.specs.Prelude.{◌≡◌, ℕ, ◌-◌, ◌<◌, List, [], ◌∷◌, ◌++◌, max, take, slice_get, slice_index_or, slice_set, Option, Some, option_map, unwrap_or}
use Rattle.model_history.specs.declared.op_id.OpId.{OpId}
use Rattle.order_causal.specs.Orders.{IsEarlier}
use Rattle.order_memory.specs.Sources.{Sources, HasSource}
use Rattle.order_causal.specs.Vectors.{Counts, IsListed, count}
use Rattle.order_causal.specs.Schedules.{placed, next_of}

-- w is the source of o, which is earlier than an operation
abbrev pub IsSourceBefore : Sources → OpId → OpId → OpId → Type 0
IsSourceBefore sources end w o = HasSource sources o w × IsEarlier o end

-- a schedule names operations that are there, each behind its source
abbrev pub FollowsSources : Sources → List ℕ → Type 0
FollowsSources sources schedule =
    (k s : ℕ) → slice_get schedule k ≡ Some s → IsListed sources (next_of (take k schedule) s)
    × ((w : OpId) → HasSource sources (next_of (take k schedule) s) w → w.index < placed (take k schedule) w.session)

-- the vectors, with one more behind those of a session
abbrev pub with_list : Counts → ℕ → List ℕ → Counts
with_list v session row = slice_set v session (slice_index_or v session [] ++ row ∷ [])

-- what the vectors of the operation before o in its session and of its source count of the session s, the larger
abbrev pub counted_before : Counts → OpId → Option OpId → ℕ → ℕ
counted_before v o source s =
    max (count v (record { session = o.session; index = o.index - 1 }) s) (unwrap_or (option_map (λ w. count v w s) source) 0)
