use Rattle.std.specs.Prelude.{◌≡◌, ◌<◌, ◌+◌, ◌-◌, ℕ, [], length}
use Rattle.std.proofs.Common.{arith, subst, ◌∙◌}
use Rattle.judge_memory.specs.Steps.{IsListedEdge, many}
use Rattle.judge_memory.proofs.Numbers.{number-all}
use Rattle.judge_columns.specs.Words.{AreInFutureFrom, HasBitAt, IsMarked}
use Rattle.judge_columns.proofs.WordPasses.{future-first, future-whole}
use Rattle.judge_columns.proofs.WordSteps.{future-given, marked-first, place-within}
use Rattle.judge_columns.proofs.words.find_by_giving.Goals as goal

pub give-requires-clause-operation : goal.give-requires-clause-operation
give-requires-clause-operation c =
    let h = c.args.index.now.history in
    place-within h (IsListedEdge h []) c.args.order.now c.requires.order (c.loop-i.i - 1) (grind arith) (many h) (number-all h)

pub loop-i-init : goal.loop-i-init
loop-i-init c =
    let h = c.args.index.now.history in
    let words = c.mark.new.words.items in
    record {
      size = c.mark.ensures.size ∙ c.requires.size;
      words = λ k below. future-first h (IsListedEdge h []) c.args.order.now c.requires.order (IsMarked h c.args.writes.now c.args.from k)
          (length c.args.order.now) (omega arith) (λ n. HasBitAt words n k)
          (marked-first h c.args.writes.now c.args.from words c.mark.ensures.marked k below);
    }

pub loop-i-preserved : goal.loop-i-preserved
loop-i-preserved c =
    let h = c.args.index.now.history in
    let inside : c.loop-i.i - 1 < length c.args.order.now = grind arith in
    let here : c.loop-i.i ≡ c.loop-i.i - 1 + 1 = grind arith in
    record {
      size = c.give.ensures.size;
      words = future-given h (IsListedEdge h []) c.args.order.now c.requires.order (c.loop-i.i - 1) inside c.args.writes.now c.args.from
          c.loop-i.future.items c.give.new.words.items c.give.ensures.given
          (subst (λ (i : ℕ). (k : ℕ) → k < 128 → AreInFutureFrom h c.args.order.now (IsMarked h c.args.writes.now c.args.from k) i
          (λ n. HasBitAt c.loop-i.future.items n k)) here c.loop-i.invariant.words);
    }

pub returns-clause-words : goal.returns-clause-words
returns-clause-words c k o below is_op =
    let h = c.args.index.now.history in
    let none : c.loop-i.i ≡ 0 = grind arith in
    future-whole h (IsListedEdge h []) c.args.order.now c.requires.order (IsMarked h c.args.writes.now c.args.from k)
    (λ n. HasBitAt c.loop-i.future.items n k)
    (subst (λ (i : ℕ). AreInFutureFrom h c.args.order.now (IsMarked h c.args.writes.now c.args.from k) i
    (λ n. HasBitAt c.loop-i.future.items n k)) none (c.loop-i.invariant.words k below)) o is_op
