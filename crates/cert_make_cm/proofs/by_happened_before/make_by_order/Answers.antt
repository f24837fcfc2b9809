use Rattle.std.proofs.Common.{⊎_elim, subst}
use Rattle.model_history.specs.declared.op_id.OpId.{OpId}
use Rattle.order_memory.proofs.ReadAnswers.{history-fits}
use Rattle.order_memory.specs.Memory.{MemoryHistory}
use Rattle.order_memory.specs.MemoryHistories.{IsMemoryHistory}
use Rattle.order_memory.specs.Relations.{HB}
use Rattle.order_memory.specs.SourceOrder.{CountsSourceOrder}
use Rattle.order_memory.specs.Steps.HappenedBefores.{HasMorePairs}
use Rattle.order_causal.specs.Vectors.{list_of}
use Rattle.cert_make_cm.proofs.Explained.{turns-piece}
use Rattle.cert_make_cm.proofs.by_happened_before.make_by_order.Goals as goal

pub returns-clause-turns : goal.returns-clause-turns
returns-clause-turns c = λ distinct.
    record {
      order = rw c.in_ok-vectors.ensures c.vectors.ensures;
      each = λ o is_op. ((rw c.in-Some.is at c.in_ok-schedules.ensures.each) o is_op distinct).0;
    }

pub returns-clause-some : goal.returns-clause-some
returns-clause-some c = λ distinct (o, is_op, no_turns).
    let may = ((rw c.in-Some.is at c.in_ok-schedules.ensures.each) o is_op distinct).1 in
    ⊎_elim
    (λ (cycle : (a : OpId) × HB c.args.order.now o a a). may.acyclic cycle.0 cycle.1)
    (λ (more : HasMorePairs c.args.order.now o 100000). may.few more)
    no_turns

pub returns-clause-explained : goal.returns-clause-explained
returns-clause-explained c = λ distinct start o is_op.
    let h = c.args.order.now in
    let turns = (rw c.in-Some.is at c.in_ok-schedules.ensures.each) o is_op distinct in
    let counts : CountsSourceOrder h c.in_ok-vectors.vectors = rw c.in_ok-vectors.ensures c.vectors.ensures in
    turns-piece h (history-fits h _ (subst (λ (m : MemoryHistory). IsMemoryHistory m) c.history.ensures c.value_is_history.ensures)) c.in_ok-vectors.vectors counts distinct o is_op turns.0.vectors turns.0.happened
    turns.1.acyclic (list_of c.in-Some.schedules o) turns.0.turns
    (λ w r x t writes reads inside before. start (o, w, r, x, t, writes, reads, inside, before))
