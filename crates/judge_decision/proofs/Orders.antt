-- Where each session has an order of the past of its last operation that answers its known reads, causal memory is met.
use Rattle.std.proofs.Common.{◌≡◌, ℕ, ◌<◌, List, length, ⊎_elim, arith}
use Rattle.std.specs.Prelude.{IsTrue}
use Rattle.model_history.specs.declared.op_id.OpId.{OpId}
use Rattle.model_history.specs.History.{IsOp}
use Rattle.order_causal.specs.Orders.{Order, op, program_past}
use Rattle.order_causal.specs.Vectors.{Counts, IsVectorOk}
use Rattle.order_memory.specs.Memory.{MemoryHistory, memory_answer, IsDifferentiated}
use Rattle.order_memory.specs.Relations.{CO}
use Rattle.order_memory.specs.SourceOrder.{CountsSourceOrder}
use Rattle.order_memory.proofs.FirstWrites.{counts-past}
use Rattle.order_memory.proofs.ReadAnswers.{Fits}
use Rattle.order_memory.proofs.SourceVectors.{order-vector_ok}
use Rattle.order_memory.proofs.VectorsExist.{vectors-exist}
use Rattle.cert_check.specs.declared.criterion.Criterion.TheVariants.{Cm}
use Rattle.cert_check.specs.Criteria.{IsCausalMemory, Meets}
use Rattle.cert_check.specs.Witnesses.{counted_before}
use Rattle.cert_check.proofs.Pasts.{counted_before-parts, counted-from_past, past-from_counted}
use Rattle.cert_make.proofs.ReadPieces.{explains-reads}
use Rattle.judge_decision.specs.Steps.ExplainingLists.{IsExplainingList}
use Rattle.judge_decision.proofs.ExplainingLists.{lists-meet}
use Rattle.judge_session_orders.specs.SessionOrders.{IsOrderOfPast, IsOrderedSession}
use Rattle.judge_memory.specs.LongHistories.{IsLongHistory}
use Rattle.judge_decision.specs.Steps.Consistency.{IsConsistent}
use Rattle.judge_decision.proofs.Consistent.{long-fits}

module _ (h : MemoryHistory) (fits : Fits h) (distinct : IsDifferentiated h) where
  module _ (v : Counts) (order : CountsSourceOrder h v) where
    good : (o : OpId) → IsOp h o → IsVectorOk h v o
    good = order-vector_ok h v order

    abbrev co : Order
    co = counted_before h v

    -- the order that vectors count is the causal order
    causal-from_counted : (a b : OpId) → IsTrue (co a b) → CO h a b
    causal-from_counted a b related =
        let parts = counted_before-parts h v a b related in
        ⊎_elim
        (λ (same : a ≡ b). absurd (parts.apart same))
        (λ (before : CO h a b). before)
        ((counts-past h distinct v order b a parts.second).0 parts.counts)

    -- an order of the past that answers the known reads of the session explains them
    order-explains : (o : OpId) → IsOp h o → (ops : List OpId) → IsOrderOfPast h o ops → IsExplainingList h v o ops
    order-explains o is_op ops is = record {
      linear = record {
        each = λ a inside. is.each a ((counts-past h distinct v order o a is_op).0 (counted-from_past h v good o a is_op inside));
        no_other = λ k a at. past-from_counted h v good o a is_op ((counts-past h distinct v order o a is_op).1 (is.no_other k a at));
        once = is.once;
        ordered = λ j k a b at_j at_k related. is.ordered j k a b at_j at_k (causal-from_counted a b related);
      };
      explains = explains-reads h ops fits (program_past o) is.answers;
    }

    counted-orders-meet : ((s : ℕ) → s < length h.1 → IsOrderedSession h s) → IsCausalMemory memory_answer h
    counted-orders-meet ordered = lists-meet h fits distinct v order (λ s exists i ends.
        let is = ordered s exists i ends in (is.0, order-explains (op s i) (omega arith) is.0 is.1))

-- so it is met where none of the kinds against causal consistency is shown
pub orders_meet : (h : MemoryHistory) → IsLongHistory h → IsDifferentiated h → IsConsistent h
    → ((s : ℕ) → s < length h.1 → IsOrderedSession h s) → Meets memory_answer h Cm
orders_meet h is distinct consistent ordered =
    let vectors = vectors-exist h consistent.acyclic consistent.sourced in
    counted-orders-meet h (long-fits h is) distinct vectors.0 vectors.1 ordered
