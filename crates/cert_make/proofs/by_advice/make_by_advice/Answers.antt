use Rattle.std.proofs.Common.{ℕ, List, length, ap, sym, subst, ◌∙◌}
use Rattle.std.specs.Prelude.{◌≡◌}
use Rattle.model_history.specs.History.{session}
use Rattle.order_causal.specs.Schedules.{placed}
use Rattle.cert_make.specs.ByStamp.{sessions_of}
use Rattle.cert_make.proofs.StampedSessions.{stamped_times}
use Rattle.cert_make.proofs.by_advice.make_by_advice.Goals as goal

pub returns-clause-shape : goal.returns-clause-shape
returns-clause-shape g c =
    let list = c.of.ensures ∙ c.in_ok-list-in-Ccv.ensures ∙ ap sessions_of c.deref-in-Ccv.ensures.value in (
      c.in_ok-vectors.ensures.shape,
      λ s. subst (λ (list : List ℕ). placed list s ≡ length (session c.args.h.now s)) (sym list)
          (stamped_times c.args.h.now c.args.advice.now c.in_ok-ops.ops.items c.in_ok-ops.ensures s),
    )
