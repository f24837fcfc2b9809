use Rattle.std.proofs.Common.{◌≡◌, ◌≢◌, ◌+◌, ◌-◌, ◌<◌, ℕ, take, arith, subst, sym, ◌∙◌}
use Rattle.std.specs.Prelude.{IsTrue}
use Rattle.std.proofs.lemmas.Bool.{both_ways}
use Rattle.order_causal.specs.Orders.{only}
use Rattle.order_causal.specs.Schedules.{placed}
use Rattle.model_history.specs.declared.op_id.OpId.{OpId}
use Rattle.cert_check.specs.Steps.Namings.{AreCountsAt}
use Rattle.cert_check.proofs.NamingSteps.{named_before}
use Rattle.cert_check.proofs.Pasts.{only-itself}
use Rattle.cert_check.proofs.naming.Naming.back_to.Goals as goal

pub loop-place-preserved : goal.loop-place-preserved
loop-place-preserved c =
    let k = c.loop-place.place - 1 in
    let above = c.loop-place-test.true in
    let most = c.loop-place.invariant.0 in
    let list = c.args.list.now in
    let o = c.args.op in
    let again : c.loop-place.place ≡ k + 1 = omega arith in
    let apart : c.back.result ≢ o = λ same. both_ways c.eq.result c.if-eq.false
    (c.eq.ensures ∙ subst (λ (x : OpId). IsTrue (only o x)) (sym same) (only-itself o)) in (
      omega arith,
      subst (λ (n : ℕ). AreCountsAt list k n c.back.new.self.counts.items) c.loop-place.invariant.1.width c.back.ensures.counts,
      named_before list k c.back.result o c.back.ensures.named apart
          (subst (λ (n : ℕ). o.index < placed (take n list) o.session) again c.loop-place.invariant.2),
    )
