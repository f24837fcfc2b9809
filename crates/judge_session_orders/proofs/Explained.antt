-- In a finished order the known reads of the session of o read what was last written.
use Rattle.std.specs.Prelude.{◌≡◌, ◌≢◌, ℕ, IsTrue, List}
use Rattle.std.proofs.Common.{arith, sym, subst, inr, ⊎_elim}
use Rattle.std.proofs.lemmas.Bool.{cases_eq}
use Rattle.model_history.specs.declared.op_id.OpId.{OpId}
use Rattle.model_history.specs.History.{IsOp}
use Rattle.order_causal.specs.Orders.{program_past, StandsAt}
use Rattle.order_causal.proofs.Items.{cases-op}
use Rattle.order_causal.proofs.PathsLaws.{leads-edge}
use Rattle.order_memory.specs.Memory.{MemoryHistory, initial, Reads}
use Rattle.order_memory.specs.Relations.{ReadsFrom, IsEdge}
use Rattle.order_memory.specs.SourceOrder.{LacksSource}
use Rattle.order_memory.proofs.HappenedBeforeLaws.{past-before, past-program}
use Rattle.order_memory.proofs.MemoryLaws.{same_read}
use Rattle.order_memory.proofs.ReadAnswers.{AnswersBehind, answers-source, answers-start}
use Rattle.order_memory.proofs.SourcesExist.{read-source}
use Rattle.judge_session_orders.specs.Backward.{IsOpen}
use Rattle.judge_session_orders.specs.BackwardOrder.{IsBackwardOrder, IsStartKept}

module _ (h : MemoryHistory) (sources : ¬ LacksSource h) (o : OpId) (is_op : IsOp h o) (left : ℕ → ℕ) (ops : List OpId)
    (order : IsBackwardOrder h o left ops) (ended : (t : ℕ) → ¬ IsOpen left t) where
  module _ (k : ℕ) (r : OpId) (at : StandsAt ops k r) (kept : IsTrue (program_past o r)) where
    -- a read with a source: no other write of the variable stands between them
    source-answers : (w : OpId) (from : ReadsFrom h w r) → AnswersBehind h ops k from.0 from.1
    source-answers w from =
        let leads = leads-edge (IsEdge h) w r (inr from) in
        let source = order.each w (past-before h o w r leads (past-program h o r is_op kept)) (λ is_left. ended w.session (omega arith)) in
        answers-source h ops k source.0 w from.0 from.1 from.2 source.1 (order.ordered source.0 k w r source.1 at leads)
        (λ i b t below there wrote. ⊎_elim
        (λ (same : b ≡ w). let here = order.once i source.0 w (subst (StandsAt ops i) same there) source.1 in omega arith)
        (λ (apart : b ≢ w).
        let later = order.read i k b w r there at below kept from (apart, (from.0, t, from.1, wrote, from.2)) in
        let here = order.once later.0 source.0 w later.2 source.1 in
        let more = later.1 in
        omega arith)
        (cases-op b w))

    pub ended-answers : (start : IsStartKept h o left ops) (x v : ℕ) → Reads h r x v → AnswersBehind h ops k x v
    ended-answers start x v reads = ⊎_elim
        (λ (same : v ≡ initial h x).
        subst (AnswersBehind h ops k x) (sym same)
        (answers-start h ops k x
        (λ i b t below there wrote.
        let behind = start.after i k r b x t at kept (subst (Reads h r x) same reads) wrote there in omega arith)))
        (λ (other : v ≢ initial h x).
        let source = read-source h sources r x v reads other in
        let one = same_read h r source.1.0.0 source.1.0.1 x v source.1.0.3 reads in
        subst (AnswersBehind h ops k x) one.1
        (subst (λ (y : ℕ). AnswersBehind h ops k y source.1.0.1) one.0 (source-answers source.0 source.1.0)))
        (cases_eq v (initial h x))
