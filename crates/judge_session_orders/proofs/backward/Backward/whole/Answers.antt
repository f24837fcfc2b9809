use Rattle.std.specs.Prelude.{slice_index_or}
use Rattle.std.proofs.Common.{arith}
use Rattle.judge_session_orders.proofs.Counts.{counts-zero}
use Rattle.judge_session_orders.proofs.backward.Backward.whole.Goals as goal

pub count-requires-clause-none : goal.count-requires-clause-none
count-requires-clause-none c =
    let made = c.leave_all.new.self in
    counts-zero c.args.index.now.history c.args.index.now.variables (λ t. 0) (λ n. slice_index_or made.readers.items n 0)
    (λ x. slice_index_or made.writes.items x 0) (λ t is_open. omega arith)
    (λ n. let up_to = c.leave_all.ensures.zero.readers n in omega arith) (λ x. let up_to = c.leave_all.ensures.zero.writes x in omega arith)
