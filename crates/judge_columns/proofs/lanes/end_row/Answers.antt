use Rattle.std.specs.Prelude.{◌+◌, ℕ}
use Rattle.std.proofs.Common.{ap, arith, sym, ◌∙◌, subst}
use Rattle.order_memory.specs.Relations.{ReadsFrom}
use Rattle.judge_memory.specs.Steps.{IsNext}
use Rattle.judge_columns.specs.Lanes.{in_lane, lane_of}
use Rattle.judge_columns.specs.Visits.{IsRaisedBy}
use Rattle.judge_columns.proofs.ByNumber.{raised-by, taken-by}
use Rattle.judge_columns.proofs.Visits.{forward-made}
use Rattle.judge_columns.proofs.lanes.end_row.Goals as goal

pub returns : goal.returns
returns c k o lane is_op at =
    let h = c.args.index.now.history in
    let t : ℕ = in_lane c.args.sessions k in
    let ends : ℕ → ℕ = lane_of c.args.rows.now k in
    let before : ℕ = in_lane c.row_before-before.result k in
    let read : ℕ = in_lane c.raised_row-read.result k in
    let session = c.session_of-session.ensures.session o is_op at in
    let start = c.requires.starts k lane in
    forward-made h c.value_is_indexed.ensures.distinct t o is_op ends before read (in_lane c.with_own.result k) (record {
      previous = subst (λ (m : ℕ). IsRaisedBy h o (IsNext h) ends m before) start
          (taken-by h (IsNext h) o c.before-2.result ends (in_lane c.args.starts k) before (c.before-2.ensures.before o is_op at)
          (c.row_before-before.ensures k lane) (λ p next. (let low = c.requires.from k o p lane at next in omega arith)));
      source = raised-by h (ReadsFrom h) o c.source.result ends before read (c.source.ensures.source o is_op at)
          (c.raised_row-read.ensures k lane);
      own = λ same. c.with_own.ensures.own k lane (session ∙ same) ∙ c.number_after.ensures ∙ ap (λ (n : ℕ). n + 1) (sym at);
      other = λ apart. c.with_own.ensures.other k lane (λ same. apart (sym session ∙ same));
    })
