use Rattle.std.proofs.Common.{◌∙◌, ap, ◌++◌, ◌∷◌, []}
use Rattle.order_memory.proofs.IndexedLaws.{ListsIfAnySoFar-push}
use Rattle.order_memory.proofs.found_sources.found_sources.Goals as goal

pub loop-session-preserved : goal.loop-session-preserved
loop-session-preserved c =
    ListsIfAnySoFar-push c.args.h.now c.loop-session.session c.loop-session.sources _ c.in_ok-of_session.of_session.items
    c.loop-session.invariant c.in_ok-of_session.ensures (c.in_ok-push.ensures.ok ∙ ap (λ es. c.loop-session.sources ++ es ∷ []) c.deref.ensures.value)
