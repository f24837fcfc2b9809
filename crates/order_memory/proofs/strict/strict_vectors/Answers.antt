use Rattle.std.proofs.Common.{◌≡◌, ◌≤◌, ℕ, length, arith, subst, sym, ⊎_elim}
use Rattle.std.specs.Prelude.{◌≢◌}
use Rattle.std.proofs.lemmas.Bool.{cases_eq}
use Rattle.order_causal.specs.Vectors.{Counts}
use Rattle.model_history.specs.History.{session}
use Rattle.order_memory.specs.Steps.GrowingOrders.{AreHeldVectors}
use Rattle.order_memory.proofs.StrictVectors.{all-short, strict-all, strict-none}
use Rattle.order_memory.proofs.strict.strict_vectors.Goals as goal

pub loop-session-init : goal.loop-session-init
loop-session-init c = record {
  held = subst (λ (v : Counts). AreHeldVectors c.args.h.now v) (sym c.in_ok-strict.ensures) c.requires;
  strict = strict-none c.args.h.now c.args.vectors.now c.in_ok-strict.strict c.in_ok-strict.ensures;
  short = λ s below. absurd (omega arith);
}

pub loop-session-preserved : goal.loop-session-preserved
loop-session-preserved c = record {
  held = c.leave_out_own.ensures.held;
  strict = c.leave_out_own.ensures.strict c.args.vectors.now c.loop-session.invariant.strict;
  short = λ s below. ⊎_elim
      (λ (last : s ≡ c.loop-session.session). subst (λ (t : ℕ). length (session c.args.h.now t) ≤ 256) (sym last) c.leave_out_own.ensures.short)
      (λ (apart : s ≢ c.loop-session.session). c.loop-session.invariant.short s (omega arith))
      (cases_eq s c.loop-session.session);
}

pub returns-clause-strict : goal.returns-clause-strict
returns-clause-strict c =
    let ended = c.loop-session-test.false in
    let count = c.sessions-session-end.ensures.count in
    strict-all c.args.h.now c.args.vectors.now c.loop-session.strict c.loop-session.session (omega arith) c.loop-session.invariant.strict

pub returns-clause-short : goal.returns-clause-short
returns-clause-short c =
    let ended : c.loop-session.session ≡ length c.args.h.now.1 = omega arith in
    all-short c.args.h.now c.loop-session.session ended c.loop-session.invariant.short
