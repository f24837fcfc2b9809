use Rattle.std.specs.Prelude.{◌≤◌, [], length}
use Rattle.std.proofs.Common.{arith, ◌∙◌}
use Rattle.judge_memory.specs.Steps.{IsListedEdge, many}
use Rattle.judge_memory.proofs.Numbers.{number-all}
use Rattle.judge_columns.specs.Words.{HasBitAt, IsMarked}
use Rattle.judge_columns.proofs.WordPasses.{past-first, past-whole}
use Rattle.judge_columns.proofs.WordSteps.{marked-first, past-taken, place-within}
use Rattle.judge_columns.proofs.words.find_past_words.Goals as goal

pub take-requires-clause-operation : goal.take-requires-clause-operation
take-requires-clause-operation c =
    let h = c.args.index.now.history in
    place-within h (IsListedEdge h []) c.args.order.now c.requires.order c.loop-operation.operation-index (grind arith) (many h) (number-all h)

pub loop-operation-init : goal.loop-operation-init
loop-operation-init c =
    let h = c.args.index.now.history in
    let words = c.mark.new.words.items in
    let size = c.requires.size in
    record {
      size = c.mark.ensures.size ∙ size;
      words = λ k below. past-first h (IsListedEdge h []) c.args.order.now c.requires.order (IsMarked h c.args.writes.now c.args.from k)
          (λ n. HasBitAt words n k) (marked-first h c.args.writes.now c.args.from words c.mark.ensures.marked k below);
    }

pub loop-operation-preserved : goal.loop-operation-preserved
loop-operation-preserved c =
    let h = c.args.index.now.history in
    record {
      size = c.take.ensures.size;
      words = past-taken h (IsListedEdge h []) c.args.order.now c.requires.order c.loop-operation.operation-index (grind arith)
          c.args.writes.now c.args.from c.loop-operation.past.items c.take.new.words.items c.take.ensures.taken
          c.loop-operation.invariant.words;
    }

pub returns-clause-words : goal.returns-clause-words
returns-clause-words c k o below is_op =
    let h = c.args.index.now.history in
    let whole : length c.args.order.now ≤ c.loop-operation.operation-index = grind arith in
    past-whole h (IsListedEdge h []) c.args.order.now c.requires.order (IsMarked h c.args.writes.now c.args.from k)
    c.loop-operation.operation-index whole (λ n. HasBitAt c.loop-operation.past.items n k) (c.loop-operation.invariant.words k below) o is_op
