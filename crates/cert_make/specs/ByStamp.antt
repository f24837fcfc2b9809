-- The operations of a history by their stamps (Lamport, "Time, clocks and the ordering of events in a distributed system", 1978).
use Rattle.std.specs.Prelude.{ℕ, ◌+◌, ◌++◌, List, [], ◌∷◌, Option, length, map, filter, IsPermutation, IsSorted}
use Rattle.std.specs.Ordering.{nat_cmp, ordering_then}
use Rattle.std.specs.declared.cmp.Ordering.{Ordering}
use Rattle.std.proofs.Common.{zero, suc}
use Rattle.model_history.specs.declared.advice.Advice.{Advice}
use Rattle.model_history.specs.declared.op_id.OpId.{OpId}
use Rattle.model_history.specs.History.{HistoryValue, session}
use Rattle.order_causal.specs.Orders.{op}
use Rattle.order_causal.specs.Vectors.{Counts}
use Rattle.cert_check.specs.Certificates.{counted}
use Rattle.cert_make.specs.Advice.{heard_before, advice_in}

-- the stamp, the session and the index of an operation
abbrev pub Stamped : Type 0
Stamped = ℕ × ℕ × ℕ

-- the order by stamp, then by session, then by index
abbrev pub by_stamp : Stamped → Stamped → Ordering
by_stamp a b = ordering_then (nat_cmp a.0 b.0) (ordering_then (nat_cmp a.1 b.1) (nat_cmp a.2 b.2))

-- the first n operations of the session s, in order
abbrev pub stamped_in : List (Option Advice) → ℕ → ℕ → List Stamped
stamped_in reported s zero = []
stamped_in reported s (suc n) = stamped_in reported s n ++ ((heard_before reported s (n + 1)).1, s, n) ∷ []

-- the sessions of operations
abbrev pub sessions_of : List Stamped → List ℕ
sessions_of ops = map (λ (o : Stamped). o.1) ops

-- of these operations, those that the vector of o counts
abbrev pub counted_of : Counts → OpId → List Stamped → List Stamped
counted_of v o ops = filter (λ (a : Stamped). counted v o (op a.1 a.2)) ops

module _ {S C R : Type 0} (h : HistoryValue S C R) (advice : List (Option Advice)) where
  -- the operations of the first n sessions, in order
  abbrev pub stamped_before : ℕ → List Stamped
  stamped_before zero = []
  stamped_before (suc n) = stamped_before n ++ stamped_in (advice_in h advice n) n (length (session h n))

  -- all operations, sorted by stamp, session and index
  pub record AreByStamp (ops : List Stamped) : Type 0 where
    pub all : IsPermutation (stamped_before (length h.1)) ops
    pub sorted : IsSorted by_stamp ops
