use Rattle.std.specs.Prelude.{◌≢◌, ℕ, slice_index_or}
use Rattle.std.proofs.Common.{arith, refl, subst}
use Rattle.order_memory.specs.Relations.{ReadsFrom}
use Rattle.judge_memory.specs.Steps.{IsNext}
use Rattle.judge_columns.specs.Visits.{IsRaisedBy}
use Rattle.judge_columns.proofs.ByNumber.{raised-by}
use Rattle.judge_columns.proofs.Visits.{forward-made}
use Rattle.judge_columns.proofs.passes.end_for.Goals as goal

pub returns : goal.returns
returns c o is_op at =
    let h = c.args.index.now.history in
    let ends : ℕ → ℕ = λ n. slice_index_or c.args.ends.now n 0 in
    let session = c.session_of.ensures.session o is_op at in
    let apart : o.session ≢ c.args.session = grind arith in
    forward-made h c.value_is_indexed.ensures.distinct c.args.session o is_op ends c.raised-before.result c.raised.result c.raised.result
    (record {
      previous = subst (λ (m : ℕ). IsRaisedBy h o (IsNext h) ends m c.raised-before.result) c.start.ensures.number
          (raised-by h (IsNext h) o c.before-2.result ends c.start.result c.raised-before.result (c.before-2.ensures.before o is_op at)
          c.raised-before.ensures);
      source = raised-by h (ReadsFrom h) o c.source.result ends c.raised-before.result c.raised.result
          (c.source.ensures.source o is_op at) c.raised.ensures;
      own = λ same. absurd (apart same);
      other = λ _. refl;
    })
