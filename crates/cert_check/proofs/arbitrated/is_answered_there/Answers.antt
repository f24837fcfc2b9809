use Rattle.std.proofs.Common.{not, refl, ap, ◌∙◌}
use Rattle.cert_check.proofs.ReplaySteps.{unknown_return}
use Rattle.cert_check.proofs.arbitrated.is_answered_there.Goals as goal

pub returns-then-is_none : goal.returns-then-is_none
returns-then-is_none g c = (
  (λ _ call r known. absurd (unknown_return c.args.h.now c.args.op c.ret.result c.ret.ensures (c.is_none.ensures ∙ ap not c.if-is_none.true) c.args.op refl call r known)),
  λ _. refl,
)
