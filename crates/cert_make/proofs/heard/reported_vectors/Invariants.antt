use Rattle.std.proofs.Common.{IfOk}
use Rattle.order_causal.specs.BySession.{AreMadeBy}
use Rattle.order_causal.specs.Steps.Gathered.{AreListsOf}
use Rattle.cert_make.specs.Advice.{IsToldVector}
use Rattle.cert_make.proofs.heard.reported_vectors.Given as goal

-- the sessions so far have the vectors that were reported
abbrev pub invariant-loop-session : goal.invariant-loop-session
invariant-loop-session g l =
    AreMadeBy {E = Unit} (λ s made. IfOk made (AreListsOf l.h (IsToldVector l.h l.advice) s)) l.session l.vectors
