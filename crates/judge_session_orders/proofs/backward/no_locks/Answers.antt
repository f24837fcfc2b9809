use Rattle.std.specs.Prelude.{ℕ, List, Option, None, slice_index_or, length}
use Rattle.std.proofs.Common.{arith, ap, length-append, ◌∙◌}
use Rattle.judge_session_orders.proofs.Locks.{none-push}
use Rattle.judge_session_orders.proofs.backward.no_locks.Goals as goal

pub loop-variable-preserved : goal.loop-variable-preserved
loop-variable-preserved c =
    let items = c.in_ok-push.ensures.items in
    let size = ap (λ (es : List (Option ℕ)). length es) items in
    record {
      size = omega (arith, length-append {A = Option ℕ});
      none = λ x. ap (λ (es : List (Option ℕ)). slice_index_or es x None) items ∙ none-push c.loop-variable.locks.items
          c.loop-variable.invariant.none x;
    }
