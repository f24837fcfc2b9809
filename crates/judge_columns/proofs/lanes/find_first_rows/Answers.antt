use Rattle.std.specs.Prelude.{◌≡◌, ◌<◌, ◌+◌, ◌-◌, ℕ, List, [], length}
use Rattle.std.proofs.Common.{arith, ap, ◌∙◌, subst}
use Rattle.model_history.specs.History.{number}
use Rattle.judge_memory.specs.Steps.{IsListedEdge, many}
use Rattle.judge_memory.proofs.Numbers.{number-all}
use Rattle.judge_memory.proofs.Orders.{listed-of_history}
use Rattle.judge_columns.specs.Columns.{AreFirstsFrom}
use Rattle.judge_columns.specs.Lanes.{in_lane, lane_of}
use Rattle.judge_columns.proofs.Firsts.{firsts-first, firsts-whole}
use Rattle.judge_columns.proofs.PassSteps.{firsts-step, place-below}
use Rattle.judge_columns.proofs.lanes.find_first_rows.Goals as goal

pub loop-i-init : goal.loop-i-init
loop-i-init c =
    let h = c.args.index.now.history in
    record {
      size = c.fill_rows.ensures.size ∙ c.requires.size;
      exact = λ k lane. firsts-first h (IsListedEdge h []) (listed-of_history h []) c.args.order.now c.requires.order
          (in_lane c.args.sessions k) (lane_of c.fill_rows.new.rows.items k)
          (λ o is_op.
          let below : number h o < many h = number-all h o is_op in
          let size = c.requires.size in
          ap (λ (r : List ℕ). in_lane r k) (c.fill_rows.ensures.each (number h o) (omega arith)) ∙ c.ends_of.ensures k lane);
    }

pub lower_rows-requires-clause-operation : goal.lower_rows-requires-clause-operation
lower_rows-requires-clause-operation c =
    place-below c.args.index.now.history c.args.order.now c.requires.order 0 (c.loop-i.i - 1) (grind arith)

pub loop-i-preserved : goal.loop-i-preserved
loop-i-preserved c =
    let h = c.args.index.now.history in
    let order : List ℕ = c.args.order.now in
    let i : ℕ = c.loop-i.i in
    let inside : i - 1 < length order = grind arith in
    let here : i ≡ i - 1 + 1 = grind arith in
    record {
      size = c.lower_rows.ensures.size;
      exact = λ k lane.
          let t : ℕ = in_lane c.args.sessions k in
          let firsts : ℕ → ℕ = lane_of c.loop-i.rows.items k in
          firsts-step h order c.requires.order t (i - 1) inside firsts (lane_of c.lower_rows.new.rows.items k)
          (λ a is_op at. c.lower_rows.ensures.lowered k a lane is_op at)
          (subst (λ (j : ℕ). AreFirstsFrom h t order j firsts) here (c.loop-i.invariant.exact k lane));
    }

pub returns-clause-firsts : goal.returns-clause-firsts
returns-clause-firsts c k lane =
    let h = c.args.index.now.history in
    let order : List ℕ = c.args.order.now in
    let t : ℕ = in_lane c.args.sessions k in
    let firsts : ℕ → ℕ = lane_of c.loop-i.rows.items k in
    let none : c.loop-i.i ≡ 0 = grind arith in
    firsts-whole h (IsListedEdge h []) (listed-of_history h []) order c.requires.order t firsts
    (subst (λ (j : ℕ). AreFirstsFrom h t order j firsts) none (c.loop-i.invariant.exact k lane))
