use Rattle.std.proofs.Common.{List, ℕ, subst}
use Rattle.order_causal.specs.Topological.{IsTally}
use Rattle.order_causal.proofs.TakenBack.{pop-below}
use Rattle.order_causal.proofs.topological.Walk.take_back.Goals as goal

pub bounds-self-inside-session : goal.bounds-self-inside-session
bounds-self-inside-session c =
    pop-below 16 c.pop.new.self.items c.self.inside.placed c.in-Some.session
    (subst (λ (xs : List ℕ). IsTally 16 xs c.self.inside.placed) c.in-Some.ensures.items c.self.invariant)
