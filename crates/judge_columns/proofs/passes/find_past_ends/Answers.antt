use Rattle.std.specs.Prelude.{◌<◌, ◌≤◌, ◌+◌, ℕ, List, [], length, slice_index_or}
use Rattle.std.proofs.Common.{arith, sym, ap, ◌∙◌, subst}
use Rattle.std.proofs.lemmas.List.{length-set}
use Rattle.judge_memory.specs.Steps.{IsListedEdge}
use Rattle.judge_memory.proofs.Orders.{listed-of_history}
use Rattle.judge_columns.specs.Columns.{ArePastEndsBefore, IsNextEnd}
use Rattle.judge_columns.proofs.Columns.{column-first, column-whole, column-within}
use Rattle.judge_columns.proofs.PassSteps.{ends-step, place-below}
use Rattle.judge_columns.proofs.passes.find_past_ends.Goals as goal

pub end_for-end-requires-clause-operation : goal.end_for-end-requires-clause-operation
end_for-end-requires-clause-operation c =
    place-below c.args.index.now.history c.args.order.now c.requires.order c.args.session c.loop-operation.operation-index (grind arith)

pub put-requires : goal.put-requires
put-requires c =
    let i : ℕ = c.loop-operation.operation-index in
    let inside = place-below c.args.index.now.history c.args.order.now c.requires.order c.args.session i (grind arith) in
    let size = c.loop-operation.invariant.size in
    omega arith

pub loop-operation-init : goal.loop-operation-init
loop-operation-init c =
    let h = c.args.index.now.history in
    record {
      size = c.requires.size;
      exact = column-first h (IsListedEdge h []) (listed-of_history h []) c.args.order.now c.requires.order c.args.session
          (λ n. slice_index_or c.args.ends.now.items n 0);
    }

pub loop-operation-preserved : goal.loop-operation-preserved
loop-operation-preserved c =
    let h = c.args.index.now.history in
    let t : ℕ = c.args.session in
    let i : ℕ = c.loop-operation.operation-index in
    let end : ℕ = c.end_for-end.result in
    let below : i < length c.args.order.now = grind arith in
    let inside = place-below h c.args.order.now c.requires.order t i below in
    let size = c.loop-operation.invariant.size in
    record {
      size = ap (λ (xs : List ℕ). length xs) c.put.ensures
          ∙ length-set c.loop-operation.ends.items (slice_index_or c.args.order.now i 0) end ∙ size;
      exact = subst (λ (xs : List ℕ). ArePastEndsBefore h t c.args.order.now (i + 1) (λ n. slice_index_or xs n 0)) (sym c.put.ensures)
          (ends-step h c.args.order.now c.requires.order t i below c.loop-operation.ends.items end (omega arith)
          (λ a is_op at. subst (λ (xs : List ℕ). IsNextEnd h t (λ n. slice_index_or xs n 0) a end) c.deref.ensures.value
          (c.end_for-end.ensures a is_op at))
          c.loop-operation.invariant.exact);
    }

pub returns-clause-ends : goal.returns-clause-ends
returns-clause-ends c =
    let h = c.args.index.now.history in
    let whole : length c.args.order.now ≤ c.loop-operation.operation-index = grind arith in
    column-whole h (IsListedEdge h []) (listed-of_history h []) c.args.order.now c.requires.order c.args.session
    (λ n. slice_index_or c.loop-operation.ends.items n 0) c.loop-operation.operation-index whole c.loop-operation.invariant.exact

pub returns-clause-within : goal.returns-clause-within
returns-clause-within c =
    let h = c.args.index.now.history in
    let whole : length c.args.order.now ≤ c.loop-operation.operation-index = grind arith in
    column-within h (IsListedEdge h []) (listed-of_history h []) c.args.order.now c.requires.order c.args.session
    (λ n. slice_index_or c.loop-operation.ends.items n 0) c.loop-operation.operation-index whole c.loop-operation.invariant.exact
