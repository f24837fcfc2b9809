use Rattle.order_causal.proofs.OrdersLaws.{session-of_history}
use Rattle.order_causal.proofs.VectorsLaws.{HasListOf-of_history}
use Rattle.std.proofs.Common.{◌<◌, ◌≤◌, ℕ, List, arith, get_or, inl, inr, refl, ⊎_elim, subst, subst₂, sym, zero}
use Rattle.std.specs.Prelude.{slice_index}
use Rattle.std.proofs.lemmas.Bool.{cases_lt}
use Rattle.model_history.specs.History.{Precedes}
use Rattle.order_memory.specs.Steps.GrowthSteps.{NoReads}
use Rattle.order_causal.specs.Vectors.{IsCounted}
use Rattle.order_memory.proofs.GrowthLaws.{within-then}
use Rattle.order_memory.proofs.GrowingSteps.{past-more}
use Rattle.order_memory.proofs.Raises.{grows-rises}
use Rattle.order_memory.proofs.growing_order.GrowingOrder.add_past.Goals as goal

pub returns-then-is_at_most-clause-within : goal.returns-then-is_at_most-clause-within
returns-then-is_at_most-clause-within c =
    record { grows = record { growing = c.requires.growing; steps = zero; made = refl }; past = refl }

pub returns-then-is_at_most-clause-past : goal.returns-then-is_at_most-clause-past
returns-then-is_at_most-clause-past c =
    subst₂ (λ (xs ys : List ℕ). (z : ℕ) → get_or xs z 0 ≤ get_or ys z 0) c.get.ensures c.get-2.ensures
    (c.is_at_most.ensures.0 c.if-is_at_most.true)

pub loop-session-init : goal.loop-session-init
loop-session-init c = record {
  within = record { grows = record { growing = c.requires.growing; steps = zero; made = refl }; past = refl };
  past = λ z below. absurd (omega arith);
}

pub raise_from-requires-clause-held : goal.raise_from-requires-clause-held
raise_from-requires-clause-held c =
    let value = c.count-count.ensures in
    let held = c.loop-session.invariant.within.grows.growing.counts.held c.args.before c.in-Some.session c.requires.before in
    omega arith

pub loop-session-preserved : goal.loop-session-preserved
loop-session-preserved c =
    let h = c.args.h.now in
    let at = c.loop-session.self in
    let within = c.loop-session.invariant.within in
    let value = c.count-count.ensures in
    let is_in = subst (λ (es : List ℕ). c.args.op.index < slice_index es c.args.op.session) (sym within.past) c.requires.is_in in
    let cause = ⊎_elim
    (λ (counted : IsCounted c.args.self.now.counts c.args.op c.args.before).
    let rises = grows-rises h ⊥ NoReads c.args.self.now at within.grows c.args.op c.args.before.session in
    let now : IsCounted at.counts c.args.op c.args.before = omega arith in
    inl now)
    (λ (precedes : Precedes c.args.before c.args.op). inr precedes)
    c.requires.cause in
    let grows = rw c.place-index.ensures at (rw c.session_place.ensures at c.in_ok-raise_from.ensures.within) in
    let raised = rw c.place-index.ensures at (rw c.session_place.ensures at c.in_ok-raise_from.ensures.raised) in
    record {
      within = within-then h NoReads c.args.self.now at c.raise_from.new.self within
          (grows NoReads (λ _. (cause, omega arith)));
      past = past-more at.counts c.raise_from.new.self.counts (slice_index at.past.items c.args.op.session) c.in-Some.session c.count-count.result c.args.op c.args.before
          raised is_in value
          (λ z below. ⊎_elim
          (λ (old : z < c.loop-session.from). c.loop-session.invariant.past z old)
          (λ (later : c.loop-session.from ≤ z). c.in-Some.ensures.2 z later below)
          (cases_lt z c.loop-session.from));
    }

pub returns-clause-past : goal.returns-clause-past
returns-clause-past c = λ z. ⊎_elim
    (λ (old : z < c.loop-session.from). c.loop-session.invariant.past z old)
    (λ (later : c.loop-session.from ≤ z). c.in_default.ensures z later)
    (cases_lt z c.loop-session.from)

pub get-requires-clause-session : goal.get-requires-clause-session
get-requires-clause-session c = (HasListOf-of_history c.args.h.now c.args.self.now.counts c.args.before c.requires.growing.counts.vectors.one_each c.requires.before).session

pub get-requires-clause-index : goal.get-requires-clause-index
get-requires-clause-index c = (HasListOf-of_history c.args.h.now c.args.self.now.counts c.args.before c.requires.growing.counts.vectors.one_each c.requires.before).index

pub get-requires-2-clause-session : goal.get-requires-2-clause-session
get-requires-2-clause-session c = (HasListOf-of_history c.args.h.now c.args.self.now.counts c.args.op c.requires.growing.counts.vectors.one_each c.requires.is_op).session

pub get-requires-2-clause-index : goal.get-requires-2-clause-index
get-requires-2-clause-index c = (HasListOf-of_history c.args.h.now c.args.self.now.counts c.args.op c.requires.growing.counts.vectors.one_each c.requires.is_op).index

pub next_more-requires-clause-growing : goal.next_more-requires-clause-growing
next_more-requires-clause-growing c = c.loop-session.invariant.within.grows.growing

pub count-count-requires-clause-growing : goal.count-count-requires-clause-growing
count-count-requires-clause-growing c = c.loop-session.invariant.within.grows.growing

pub count-count-requires-clause-exists : goal.count-count-requires-clause-exists
count-count-requires-clause-exists c = c.in-Some.ensures.1

pub raise_from-requires-clause-growing : goal.raise_from-requires-clause-growing
raise_from-requires-clause-growing c = c.loop-session.invariant.within.grows.growing

pub raise_from-requires-clause-session : goal.raise_from-requires-clause-session
raise_from-requires-clause-session c = rw c.session_place.ensures (session-of_history c.args.h.now c.args.op c.requires.is_op)

pub raise_from-requires-clause-inside : goal.raise_from-requires-clause-inside
raise_from-requires-clause-inside c = let is_op = c.requires.is_op in rw c.place-index.ensures (rw c.session_place.ensures (omega arith))

pub raise_from-requires-clause-other : goal.raise_from-requires-clause-other
raise_from-requires-clause-other c = c.in-Some.ensures.1

pub overflow_add-from : goal.overflow_add-from
overflow_add-from c = let inside = c.in-Some.ensures.1 in let few = c.requires.growing.few in omega arith

pub loop-session-smaller : goal.loop-session-smaller
loop-session-smaller c = let up = c.in-Some.ensures.0 in let inside = c.in-Some.ensures.1 in omega arith

pub returns-clause-within : goal.returns-clause-within
returns-clause-within c = c.loop-session.invariant.within
