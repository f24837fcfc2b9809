-- What a store reported of the operations of a history, trusted by nobody (this project's profile).
use Rattle.std.specs.Prelude.{◌≡◌, ℕ, ◌+◌, ◌<◌, List, [], length, take, replicate, Option, Some, None, slice_index_or, slice_set}
use Rattle.std.specs.List.{slice_range}
use Rattle.std.proofs.Common.{zero, suc}
use Rattle.model_history.specs.declared.advice.Advice.{Advice}
use Rattle.model_history.specs.declared.limits.TheConstants.{MAX_SESSIONS}
use Rattle.model_history.specs.declared.op_id.OpId.{OpId}
use Rattle.model_history.specs.History.{HistoryValue, IsOp, many_before, session}
use Rattle.order_causal.specs.Orders.{op}
use Rattle.order_causal.specs.Vectors.{Counts, list_of}

-- what is known of an operation: for each session how many of its operations the store had taken in, and its clock
abbrev pub Heard : Type 0
Heard = List ℕ × ℕ

-- an operation with advice is known by it; one without has the counts and the stamp of the operation before it, itself counted
abbrev pub hear : OpId → Option Advice → Heard → Heard
hear o (Some a) before = (a.counts, a.stamp)
hear o None before = (slice_set before.0 o.session (o.index + 1), before.1)

-- what is known of the operation before the place i of the session s: before the first, nothing is counted
abbrev pub heard_before : List (Option Advice) → ℕ → ℕ → Heard
heard_before reported s zero = (replicate MAX_SESSIONS 0, 0)
heard_before reported s (suc i) = hear (op s i) (slice_index_or reported i None) (heard_before reported s i)

-- the order that advice tells: none where there is no advice
abbrev pub order_of : Option Advice → List ℕ
order_of (Some a) = a.order
order_of None = []

module _ {S C R : Type 0} where
  -- there is advice: one entry for each operation, also where all entries are empty
  pub record IsAdvised (h : HistoryValue S C R) (advice : List (Option Advice)) : Type 0 where
    pub some : 0 < length advice
    pub one_each : length advice ≡ many_before h (length h.1)

  -- the entries of a session: those of all sessions stand one after another
  abbrev pub advice_in : HistoryValue S C R → List (Option Advice) → ℕ → List (Option Advice)
  advice_in h advice s = slice_range advice (many_before h s) (many_before h s + length (session h s))

  -- what is known of an operation
  abbrev pub heard : HistoryValue S C R → List (Option Advice) → OpId → Heard
  heard h advice o = heard_before (advice_in h advice o.session) o.session (o.index + 1)

  -- the vector of an operation has the counts that are reported, one for each session
  pub record IsToldVector (h : HistoryValue S C R) (advice : List (Option Advice)) (o : OpId) (counts : List ℕ) : Type 0 where
    pub size : length counts ≡ length h.1
    pub reported : counts ≡ take (length h.1) (heard h advice o).0

  -- each vector does
  abbrev pub AreToldVectors : HistoryValue S C R → List (Option Advice) → Counts → Type 0
  AreToldVectors h advice v = (o : OpId) → IsOp h o → IsToldVector h advice o (list_of v o)
