-- What has to stand before what, behind a list that places some operations.
use Rattle.std.proofs.Common.{◌≡◌, ◌≢◌, ℕ, ◌<◌, ◌≤◌, inl, ⊎_elim, List, length, arith, refl, subst}
use Rattle.std.proofs.lemmas.Bool.{cases_eq}
use Rattle.model_history.specs.declared.op_id.OpId.{OpId}
use Rattle.model_history.specs.History.{IsOp, session}
use Rattle.order_memory.proofs.GrowingOrdersLaws.{SourceOrder-of_history}
use Rattle.order_memory.specs.Memory.{MemoryHistory}
use Rattle.order_memory.proofs.MemoryLaws.{write-of_history}
use Rattle.order_causal.specs.Orders.{op, Leads}
use Rattle.order_causal.proofs.PathsLaws.{leads-edge, leads-first}
use Rattle.order_memory.specs.SourceOrder.{IsSourceEdge, SourceOrder}
use Rattle.order_causal.specs.Schedules.{placed, next_of}
use Rattle.cert_make_ccv.specs.ByConflicts.{SourceConflict, ComesFirst}

module _ (h : MemoryHistory) where
  -- what has to stand before an operation is of the history
  pub first-of_history : (a b : OpId) → ComesFirst h a b → IsOp h a
  first-of_history a b = ⊎_elim
      (λ (before : SourceOrder h a b). SourceOrder-of_history h a b before)
      (λ (conflict : SourceConflict h a b). let wrote = conflict.0.1 in write-of_history h a wrote.0 wrote.1 wrote.3)

  program-first : (s i j : ℕ) → i < j → IsOp h (op s j) → ComesFirst h (op s i) (op s j)
  program-first s i j below is_op = inl (leads-edge (IsSourceEdge h) (op s i) (op s j) (inl ((refl, below), is_op)))

  module _ (list : List ℕ) where
    -- the session s has an operation that isn't placed
    abbrev pub IsOpen : ℕ → Type 0
    IsOpen s = placed list s < length (session h s)

    -- another session that has one, which has to stand before that of s
    abbrev pub Waits : ℕ → Type 0
    Waits s = (t : ℕ) × IsOpen t × Leads (ComesFirst h) (next_of list t) (next_of list s)

    pub waits-for : (s t j : ℕ) → placed list t ≤ j → ComesFirst h (op t j) (next_of list s) → Waits s
    waits-for s t j up_to first =
        let is_op : j < length (session h t) = first-of_history (op t j) (next_of list s) first in (
          t,
          omega arith,
          ⊎_elim
              (λ (same : j ≡ placed list t).
              leads-edge (ComesFirst h) (next_of list t) (next_of list s) (subst (λ (i : ℕ). ComesFirst h (op t i) (next_of list s)) same first))
              (λ (apart : j ≢ placed list t).
              leads-first (ComesFirst h) (next_of list t) (op t j) (next_of list s) (program-first t (placed list t) j (omega arith) is_op)
              (leads-edge (ComesFirst h) (op t j) (next_of list s) first))
              (cases_eq j (placed list t)),
        )
