use Rattle.std.specs.Prelude.{◌≡◌, ◌+◌, ℕ, max, slice_index_or}
use Rattle.std.proofs.Common.{arith, subst, ap, ◌∙◌}
use Rattle.std.proofs.lemmas.List.{get_or_read}
use Rattle.model_history.specs.declared.op_id.OpId.{OpId}
use Rattle.model_history.specs.History.{number}
use Rattle.judge_session_orders.specs.Backward.{IsLeft}
use Rattle.judge_session_orders.specs.Tables.{left_counts}
use Rattle.judge_session_orders.proofs.PastLaws.{ends-raised}
use Rattle.judge_session_orders.proofs.pasts.leave_source.Goals as goal

pub returns-then-edge-index-clause-raised : goal.returns-then-edge-index-clause-raised
returns-then-edge-index-clause-raised c b is_edge =
    let h = c.args._index.now.history in
    let ends = c.args.ends.now.items in
    let after = c.raise.new.numbers.items in
    let source = is_edge.source in
    let w : OpId = source.0 in
    let session = is_edge.session in
    let here = ap (λ (s : ℕ). slice_index_or ends s 0) session in
    let test = c.if-edge-index.true in
    let read = get_or_read ends _ _ c.requires.below c.index.ensures 0 in
    let named = is_edge.read in
    let is_left : IsLeft (left_counts h ends) b = omega arith in
    let raised : slice_index_or after w.session 0 ≡ max (slice_index_or ends w.session 0) (number h w + 1) =
    subst (λ (n : ℕ). slice_index_or after w.session 0 ≡ max (slice_index_or ends w.session 0) n) source.2
    (subst (λ (s : ℕ). slice_index_or after s 0 ≡ max (slice_index_or ends s 0) c.args.edge.now.end) source.3 c.raise.ensures.raised) in
    ends-raised h c.requires.distinct b w ends after is_left source.1 raised
    (λ t apart. c.raise.ensures.others t (λ same. apart (same ∙ source.3)))
