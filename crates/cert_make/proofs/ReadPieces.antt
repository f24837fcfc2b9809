-- When a list of operations of a memory explains what is kept of them.
use Rattle.std.proofs.Common.{ℕ, List}
use Rattle.std.specs.Prelude.{IsTrue}
use Rattle.model_history.specs.declared.op_id.OpId.{OpId}
use Rattle.order_memory.specs.Memory.{MemoryHistory, memory_answer, Reads}
use Rattle.order_causal.specs.Orders.{Ops, StandsAt}
use Rattle.order_memory.proofs.ReadAnswers.{Fits, AnswersBehind, right_return}
use Rattle.cert_check.specs.Criteria.{Explains}

module _ (h : MemoryHistory) (ops : List OpId) where
  -- a list explains what is kept where it answers what the reads among that returned
  pub explains-reads : Fits h → (kept : Ops)
      → ((k : ℕ) (r : OpId) (x u : ℕ) → StandsAt ops k r → IsTrue (kept r) → Reads h r x u → AnswersBehind h ops k x u)
      → Explains memory_answer h ops kept
  explains-reads fits kept right k o c r stands inside known =
      right_return h ops k fits o c r known (λ x u reads. right k o x u stands inside reads)
