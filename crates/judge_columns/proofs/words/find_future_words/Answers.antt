use Rattle.std.specs.Prelude.{[]}
use Rattle.std.proofs.Common.{refl}
use Rattle.model_history.specs.History.{number}
use Rattle.judge_memory.specs.Steps.{IsListedEdge}
use Rattle.judge_columns.specs.Words.{HasBitAt, IsMarked}
use Rattle.judge_columns.proofs.WordPasses.{future-alone}
use Rattle.judge_columns.proofs.WordSteps.{marked-first}
use Rattle.judge_columns.proofs.words.find_future_words.Goals as goal

pub returns-then-have_no_past-clause-words : goal.returns-then-have_no_past-clause-words
returns-then-have_no_past-clause-words c k o below is_op =
    let h = c.args.index.now.history in
    let words = c.mark.new.words.items in
    future-alone h (IsListedEdge h []) c.args.order.now c.requires.order (IsMarked h c.args.writes.now c.args.from k)
    (λ w p marked. c.have_no_past.ensures c.if-have_no_past.true k (number h w) below marked.1 w p marked.0 refl)
    (λ n. HasBitAt words n k) (marked-first h c.args.writes.now c.args.from words c.mark.ensures.marked k below) o is_op
