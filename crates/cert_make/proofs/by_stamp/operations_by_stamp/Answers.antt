use Rattle.cert_make.specs.ByStamp.{Stamped, stamped_before, stamped_in}
use Rattle.cert_make.specs.Advice.{advice_in}
use Rattle.model_history.specs.History.{session}
use Rattle.std.proofs.Common.{◌≡◌, ℕ, suc, ◌+◌, ◌++◌, List, ap, arith, length, sym, ◌∙◌}
use Rattle.cert_make.proofs.by_stamp.operations_by_stamp.Goals as goal

pub loop-session-init : goal.loop-session-init
loop-session-init g c = c.new-ops.ensures.items

pub loop-session-preserved : goal.loop-session-preserved
loop-session-preserved g c =
    let h = c.args.h.now in
    let advice = c.args.advice.now in
    let s = c.loop-session.session in
    let next : s + 1 ≡ suc s = omega arith in
    c.in_ok-push_stamped.ensures ∙ ap (λ (xs : List Stamped). xs ++ stamped_in (advice_in h advice s) s (length (session h s))) c.loop-session.invariant
    ∙ sym (ap (λ (n : ℕ). stamped_before h advice n) next)
