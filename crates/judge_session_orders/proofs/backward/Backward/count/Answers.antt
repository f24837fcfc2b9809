use Rattle.std.specs.Prelude.{◌≡◌, ◌≤◌, ◌+◌, ℕ, List, slice_index_or}
use Rattle.std.proofs.Common.{arith, ap, sym, subst, ◌∙◌}
use Rattle.model_history.specs.History.{many_before}
use Rattle.judge_memory.specs.Steps.{many}
use Rattle.judge_session_orders.specs.Tables.{left_counts, left_under}
use Rattle.judge_session_orders.proofs.Counts.{counts-same}
use Rattle.judge_session_orders.proofs.CountSteps.{under-whole}
use Rattle.judge_session_orders.proofs.backward.Backward.count.Goals as goal

pub returns-clause-counts : goal.returns-clause-counts
returns-clause-counts c =
    let h = c.args.index.now.history in
    let ends = c.loop-operation.self.ends.items in
    let within : (t : ℕ) → slice_index_or ends t 0 ≤ many_before h (t + 1) =
    subst (λ (xs : List ℕ). (t : ℕ) → slice_index_or xs t 0 ≤ many_before h (t + 1)) (sym c.loop-operation.invariant.ends)
    c.requires.within in
    let at : c.loop-operation.operation ≡ many h = (let count = c.operations-operation-end.ensures.count in omega arith) in
    counts-same h c.args.index.now.variables (left_under h ends c.loop-operation.operation)
    (λ n. slice_index_or c.loop-operation.self.readers.items n 0)
    (λ x. slice_index_or c.loop-operation.self.writes.items x 0) (left_counts h ends)
    (λ t. ap (λ (n : ℕ). left_under h ends n t) at ∙ under-whole h ends within t) c.loop-operation.invariant.counts
