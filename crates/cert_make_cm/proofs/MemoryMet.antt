-- A memory history of distinct values with no bad pattern against causal memory meets it.
use Rattle.std.proofs.Common.{ℕ, zero, suc, ◌+◌, List, [], ◌∷◌, ◌++◌, refl}
use Rattle.model_history.specs.declared.op_id.OpId.{OpId}
use Rattle.model_history.specs.History.{IsOp}
use Rattle.order_memory.proofs.HappenedBeforeExists.{HB-vectors}
use Rattle.order_memory.proofs.ReadAnswers.{Fits}
use Rattle.order_memory.proofs.SourceVectors.{order-vector_ok}
use Rattle.order_memory.proofs.VectorsExist.{vectors-exist}
use Rattle.order_causal.proofs.WalksExist.{full-walk}
use Rattle.order_memory.specs.HappenedBeforePatterns.{HasHBCycle, HasStartOverwrittenInHB}
use Rattle.order_memory.specs.Memory.{MemoryHistory, memory_answer, IsDifferentiated}
use Rattle.order_causal.specs.Orders.{op, program_past}
use Rattle.order_memory.specs.SourceOrder.{CountsSourceOrder, IsCyclic, LacksSource}
use Rattle.order_causal.specs.Vectors.{Counts, list_of}
use Rattle.cert_check.specs.Certificates.{IsScheduledPiece}
use Rattle.cert_check.specs.Criteria.{IsCausalMemory}
use Rattle.cert_check.specs.Schedules.{named}
use Rattle.cert_check.specs.Witnesses.{counted_before}
use Rattle.cert_check.proofs.Pasts.{counted_before-causal}
use Rattle.cert_check.proofs.Sound.{scheduled_past}
use Rattle.cert_make_cm.specs.Turns.{AreTurns}
use Rattle.cert_make_cm.proofs.Explained.{turns-piece}

-- by any vectors the first operations of a session can take turns
turns-exist : (now : Counts) (s n : ℕ) → (schedule : List ℕ) × AreTurns now s n schedule
turns-exist now s zero = ([], refl)
turns-exist now s (suc n) =
    let earlier = turns-exist now s n in
    let walk = full-walk now (list_of now (op s n)) earlier.0 in
    (walk.0 ++ s ∷ [], (earlier.0, earlier.1, record { counted = walk.0; walk = walk.1; last = refl }))

module _ (h : MemoryHistory) (fits : Fits h) (distinct : IsDifferentiated h) (v : Counts) (order : CountsSourceOrder h v)
    (cycle : ¬ HasHBCycle h) (start : ¬ HasStartOverwrittenInHB h) where
  -- each operation has a piece by turns of its happened-before relation
  piece-exists : (o : OpId) → IsOp h o → (schedule : List ℕ) × IsScheduledPiece memory_answer h v schedule o (program_past o)
  piece-exists o is_op =
      let now = HB-vectors h v order distinct o is_op in
      let turns = turns-exist now.0 o.session (o.index + 1) in (
        turns.0,
        turns-piece h fits v order distinct o is_op now.0 now.1 (λ a before. cycle (o, a, before)) turns.0 turns.1
            (λ w r x t writes reads inside before. start (o, w, r, x, t, writes, reads, inside, before)),
      )

  pieces-meet : IsCausalMemory memory_answer h
  pieces-meet =
      let good = order-vector_ok h v order in (
        counted_before h v,
        counted_before-causal h v good,
        λ o is_op.
            let piece = piece-exists o is_op in
            (named piece.0, scheduled_past h v good o piece.0 is_op piece.1.schedules, piece.1.explains),
      )

-- so a history with no bad pattern against causal memory meets it
pub memory-met : (h : MemoryHistory) → Fits h → IsDifferentiated h → ¬ IsCyclic h → ¬ LacksSource h
    → ¬ HasHBCycle h → ¬ HasStartOverwrittenInHB h → IsCausalMemory memory_answer h
memory-met h fits distinct acyclic present cycle start =
    let vectors = vectors-exist h acyclic present in pieces-meet h fits distinct vectors.0 vectors.1 cycle start
