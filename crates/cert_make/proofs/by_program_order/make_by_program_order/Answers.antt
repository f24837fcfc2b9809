use Rattle.std.proofs.Common.{ℕ, List, length, sym, subst, ◌∙◌}
use Rattle.std.specs.Prelude.{◌≡◌}
use Rattle.model_history.specs.History.{session}
use Rattle.order_causal.specs.Schedules.{placed}
use Rattle.cert_make.proofs.InTurn.{in_turn-all}
use Rattle.cert_make.proofs.by_program_order.make_by_program_order.Goals as goal

pub returns-in_ok-list-in-Ccv-clause-shape : goal.returns-in_ok-list-in-Ccv-clause-shape
returns-in_ok-list-in-Ccv-clause-shape g c = (
  c.in_ok-vectors.ensures.shape,
  λ s. subst (λ (list : List ℕ). placed list s ≡ length (session c.args.h.now s)) (sym (c.of.ensures ∙ c.in_ok-list-in-Ccv.ensures)) (in_turn-all c.args.h.now s),
)
