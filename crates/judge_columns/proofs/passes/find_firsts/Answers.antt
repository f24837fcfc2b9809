use Rattle.std.specs.Prelude.{◌≡◌, ◌<◌, ◌+◌, ◌-◌, ℕ, [], length, slice_index_or}
use Rattle.std.proofs.Common.{arith, ◌∙◌, subst}
use Rattle.model_history.specs.History.{number}
use Rattle.judge_memory.specs.Steps.{IsListedEdge, many}
use Rattle.judge_memory.proofs.Numbers.{number-all}
use Rattle.judge_memory.proofs.Orders.{listed-of_history}
use Rattle.judge_columns.specs.Columns.{AreFirstsFrom}
use Rattle.judge_columns.proofs.Firsts.{firsts-first, firsts-whole}
use Rattle.judge_columns.proofs.PassSteps.{firsts-step, place-below}
use Rattle.judge_columns.proofs.passes.find_firsts.Goals as goal

pub loop-i-init : goal.loop-i-init
loop-i-init c =
    let h = c.args.index.now.history in
    record {
      size = c.fill.ensures.size ∙ c.requires.size;
      exact = firsts-first h (IsListedEdge h []) (listed-of_history h []) c.args.order.now c.requires.order c.args.session
          (λ n. slice_index_or c.fill.new.numbers.items n 0)
          (λ o is_op.
          let below : number h o < many h = number-all h o is_op in
          let size = c.requires.size in
          c.fill.ensures.each (number h o) (omega arith) ∙ c.end.ensures.number);
    }

pub lower_steps-requires-clause-operation : goal.lower_steps-requires-clause-operation
lower_steps-requires-clause-operation c =
    place-below c.args.index.now.history c.args.order.now c.requires.order c.args.session (c.loop-i.i - 1) (grind arith)

pub loop-i-preserved : goal.loop-i-preserved
loop-i-preserved c =
    let h = c.args.index.now.history in
    let inside : c.loop-i.i - 1 < length c.args.order.now = grind arith in
    let here : c.loop-i.i ≡ c.loop-i.i - 1 + 1 = grind arith in
    record {
      size = c.lower_steps.ensures.size;
      exact = firsts-step h c.args.order.now c.requires.order c.args.session (c.loop-i.i - 1) inside
          (λ n. slice_index_or c.loop-i.firsts.items n 0) (λ n. slice_index_or c.lower_steps.new.firsts.items n 0)
          (λ a is_op at. c.lower_steps.ensures.lowered a is_op at)
          (subst (λ (i : ℕ). AreFirstsFrom h c.args.session c.args.order.now i (λ n. slice_index_or c.loop-i.firsts.items n 0)) here
          c.loop-i.invariant.exact);
    }

pub returns-clause-firsts : goal.returns-clause-firsts
returns-clause-firsts c =
    let h = c.args.index.now.history in
    let none : c.loop-i.i ≡ 0 = grind arith in
    firsts-whole h (IsListedEdge h []) (listed-of_history h []) c.args.order.now c.requires.order c.args.session
    (λ n. slice_index_or c.loop-i.firsts.items n 0)
    (subst (λ (i : ℕ). AreFirstsFrom h c.args.session c.args.order.now i (λ n. slice_index_or c.loop-i.firsts.items n 0)) none
    c.loop-i.invariant.exact)
