-- An order that is a cycle makes one of what has to stand before what.
use Rattle.std.proofs.Common.{inl}
use Rattle.model_history.specs.declared.op_id.OpId.{OpId}
use Rattle.order_memory.specs.Memory.{MemoryHistory}
use Rattle.order_causal.specs.Orders.{Leads}
use Rattle.order_causal.proofs.PathsLaws.{leads-edge}
use Rattle.order_memory.specs.SourceOrder.{SourceOrder}
use Rattle.cert_make_ccv.specs.ByConflicts.{ComesFirst}

pub order-cycle : (h : MemoryHistory) (a : OpId) → SourceOrder h a a → Leads (ComesFirst h) a a
order-cycle h a before = leads-edge (ComesFirst h) a a (inl before)
