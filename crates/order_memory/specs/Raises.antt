-- Why counts were raised above those of the causal order, in vectors of a happened-before relation.
use Rattle.std.specs.Prelude.{◌≡◌, ◌⊎◌, ℕ, ◌+◌, ◌-◌, ◌<◌, ◌≤◌, IsTrue, List, Some, length, slice_get}
use Rattle.model_history.specs.declared.op_id.OpId.{OpId}
use Rattle.model_history.specs.History.{IsOp, Precedes, session}
use Rattle.order_memory.specs.declared.growing_order.Cause.{Cause}
use Rattle.order_memory.specs.declared.growing_order.Cause.TheVariants.{Through, Read}
use Rattle.order_memory.specs.declared.growing_order.Raise.{Raise}
use Rattle.order_memory.specs.Memory.{MemoryHistory}
use Rattle.order_causal.specs.Orders.{op, program_past}
use Rattle.order_memory.specs.Relations.{ReadsFrom, AreRivalWrites, IsPast}
use Rattle.order_causal.specs.Vectors.{Counts, count}

-- the vector of b counts c operations of the session s: as the vectors v do, in which nothing was raised, or since one of the
-- first n raises
abbrev pub IsReached : Counts → List Raise → ℕ → OpId → ℕ → ℕ → Type 0
IsReached v raises n b s c =
    (c ≤ count v b s)
    ⊎ ((j : ℕ) × (e : Raise) × (j < n) × (slice_get raises j ≡ Some e) × (e.op ≡ b) × (e.session ≡ s) × (c ≤ e.count))

-- all that the vectors now count is counted so
abbrev pub AreReached : Counts → List Raise → Counts → Type 0
AreReached v raises now = (b : OpId) (s : ℕ) → IsReached v raises (length raises) b s (count now b s)

-- a raise behind the first n is of the vector of b
abbrev pub IsRaisedSince : List Raise → ℕ → OpId → Type 0
IsRaisedSince raises n b = (j : ℕ) × (e : Raise) × (n ≤ j) × (slice_get raises j ≡ Some e) × (e.op ≡ b)

-- the operation that a cause names
abbrev pub operation_of : Cause → OpId
operation_of (Through m) = m
operation_of (Read r) = r

module _ (h : MemoryHistory) (o : OpId) (v : Counts) (raises : List Raise) where
  -- why what a raise counts is before its operation, by what is counted since the first n raises: it is before an operation that
  -- is before this one; or the last that it counts and this one are two writes of one variable, and the first of them is before a
  -- read that reads from the other, and that is o or before o in program order
  abbrev pub IsRightCause : ℕ → Raise → Cause → Type 0
  IsRightCause n e (Through m) =
      (IsReached v raises n e.op m.session (m.index + 1) ⊎ Precedes m e.op) × IsReached v raises n m e.session e.count
  IsRightCause n e (Read r) =
      IsTrue (program_past o r) × ReadsFrom h e.op r × AreRivalWrites h (op e.session (e.count - 1)) e.op
      × IsReached v raises n r e.session e.count

  -- a raise that comes behind n others is right: it counts operations that are there, for an operation of the past of o, and
  -- names why
  pub record IsRightRaise (n : ℕ) (e : Raise) : Type 0 where
    pub is_op : IsOp h e.op
    pub past : IsPast h o e.op
    pub exists : e.session < length h.1
    pub some : 0 < e.count
    pub held : e.count ≤ length (session h e.session)
    pub named : IsOp h (operation_of e.cause)
    pub cause : IsRightCause n e e.cause

  -- each raise is right
  pub record AreRightRaises : Type 0 where
    pub each : (n : ℕ) (e : Raise) → slice_get raises n ≡ Some e → IsRightRaise n e
