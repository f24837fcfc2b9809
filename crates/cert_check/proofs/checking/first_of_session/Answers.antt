use Rattle.cert_check.specs.Certificates.{IsExplainedPiece}
use Rattle.order_causal.specs.Orders.{op}
use Rattle.std.proofs.lemmas.Bool.{cases_lt}
use Rattle.std.specs.Prelude.{Some}
use Rattle.std.proofs.Common.{arith, ◌≡◌, ◌<◌, ◌≤◌, ℕ, refl, sym, subst, ⊎_elim, ◌∙◌}
use Rattle.cert_check.proofs.checking.first_of_session.Goals as goal

pub is_explained-requires-clause-is_op : goal.is_explained-requires-clause-is_op
is_explained-requires-clause-is_op g c = λ _ _.
    let below = c.loop-index-test.true in
    let count = c.len-index-end.ensures.count in
    rw (c.at-op.ensures, c.loop-index.invariant.0, ← c.history-h.ensures) (omega arith)

pub loop-index-init : goal.loop-index-init
loop-index-init g c = (refl, λ certificate is i below. absurd (omega arith))

pub loop-index-preserved : goal.loop-index-preserved
loop-index-preserved g c =
    let answer = g.O.SeqObject.answer in
    let s = c.args.session in
    let n = c.loop-index.index in
    let same = c.is_explained.ensures.same in (
      same ∙ c.loop-index.invariant.0,
      λ certificate is i below.
          let was = subst (λ file. file.2 ≡ Some certificate) same is in
          subst (λ file. IsExplainedPiece answer file.0 certificate (op s i)) (sym same) (⊎_elim
          (λ (old : i < n). c.loop-index.invariant.1 certificate was i old)
          (λ (last : n ≤ i).
          let here : n ≡ i = omega arith in
          subst (λ (k : ℕ). IsExplainedPiece answer c.loop-index.checker.0 certificate (op s k)) here
          (rw c.at-op.ensures at ((c.in_ok-is_explained.ensures.exact certificate was).0 c.if-not-branch.false)))
          (cases_lt i n)),
    )
