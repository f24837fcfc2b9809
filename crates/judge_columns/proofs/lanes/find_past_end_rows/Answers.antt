use Rattle.std.specs.Prelude.{◌<◌, ◌≤◌, ◌+◌, ℕ, List, [], length, slice_index_or}
use Rattle.std.proofs.Common.{arith, sym, ap, ◌∙◌, subst}
use Rattle.std.proofs.lemmas.List.{length-set}
use Rattle.model_history.specs.History.{many_before, number}
use Rattle.judge_memory.specs.Steps.{IsListedEdge}
use Rattle.judge_memory.proofs.Orders.{listed-of_history}
use Rattle.judge_columns.specs.Columns.{ArePastEndsBefore, IsNextEnd}
use Rattle.judge_columns.specs.Lanes.{in_lane, lane_of}
use Rattle.judge_columns.proofs.Columns.{column-first, column-whole, column-within}
use Rattle.judge_columns.proofs.PassSteps.{next-from, place-below, row-step}
use Rattle.judge_columns.proofs.lanes.find_past_end_rows.Goals as goal

pub end_row-row-requires-clause-operation : goal.end_row-row-requires-clause-operation
end_row-row-requires-clause-operation c =
    place-below c.args.index.now.history c.args.order.now c.requires.order 0 c.loop-operation.operation-index (grind arith)

pub end_row-row-requires-clause-from : goal.end_row-row-requires-clause-from
end_row-row-requires-clause-from c k o p lane at next =
    let h = c.args.index.now.history in
    let t : ℕ = in_lane c.args.sessions k in
    subst (λ (xs : List (List ℕ)). many_before h t ≤ lane_of xs k (number h p)) (sym c.deref.ensures.value)
    (next-from h c.args.order.now c.requires.order t c.loop-operation.operation-index (grind arith)
    (lane_of c.loop-operation.rows.items k) (c.loop-operation.invariant.exact k lane) o p at next)

pub put_row-requires : goal.put_row-requires
put_row-requires c =
    let inside = place-below c.args.index.now.history c.args.order.now c.requires.order 0 c.loop-operation.operation-index (grind arith) in
    let size = c.loop-operation.invariant.size in
    omega arith

pub loop-operation-init : goal.loop-operation-init
loop-operation-init c =
    let h = c.args.index.now.history in
    record {
      size = c.requires.size;
      exact = λ k lane. column-first h (IsListedEdge h []) (listed-of_history h []) c.args.order.now c.requires.order
          (in_lane c.args.sessions k) (lane_of c.args.rows.now.items k);
    }

pub loop-operation-preserved : goal.loop-operation-preserved
loop-operation-preserved c =
    let h = c.args.index.now.history in
    let order : List ℕ = c.args.order.now in
    let i : ℕ = c.loop-operation.operation-index in
    let rows : List (List ℕ) = c.loop-operation.rows.items in
    let row : List ℕ = c.end_row-row.result in
    let below : i < length order = grind arith in
    let inside = place-below h order c.requires.order 0 i below in
    let size = c.loop-operation.invariant.size in
    record {
      size = ap (λ (xs : List (List ℕ)). length xs) c.put_row.ensures ∙ length-set rows (slice_index_or order i 0) row ∙ size;
      exact = λ k lane.
          let t : ℕ = in_lane c.args.sessions k in
          subst (λ (xs : List (List ℕ)). ArePastEndsBefore h t order (i + 1) (lane_of xs k)) (sym c.put_row.ensures)
          (row-step h order c.requires.order t i below rows row k (omega arith)
          (λ a is_op at. subst (λ (xs : List (List ℕ)). IsNextEnd h t (lane_of xs k) a (in_lane row k)) c.deref.ensures.value
          (c.end_row-row.ensures k a lane is_op at))
          (c.loop-operation.invariant.exact k lane));
    }

pub returns-clause-ends : goal.returns-clause-ends
returns-clause-ends c k lane =
    let h = c.args.index.now.history in
    let whole : length c.args.order.now ≤ c.loop-operation.operation-index = grind arith in
    column-whole h (IsListedEdge h []) (listed-of_history h []) c.args.order.now c.requires.order (in_lane c.args.sessions k)
    (lane_of c.loop-operation.rows.items k) c.loop-operation.operation-index whole (c.loop-operation.invariant.exact k lane)

pub returns-clause-within : goal.returns-clause-within
returns-clause-within c k lane =
    let h = c.args.index.now.history in
    let whole : length c.args.order.now ≤ c.loop-operation.operation-index = grind arith in
    column-within h (IsListedEdge h []) (listed-of_history h []) c.args.order.now c.requires.order (in_lane c.args.sessions k)
    (lane_of c.loop-operation.rows.items k) c.loop-operation.operation-index whole (c.loop-operation.invariant.exact k lane)
