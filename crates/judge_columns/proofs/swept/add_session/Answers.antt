use Rattle.std.specs.Prelude.{◌≡◌, ℕ, List, Some, slice_get}
use Rattle.std.proofs.Common.{subst, sym}
use Rattle.judge_columns.proofs.Shared.{pushed-cases, pushed-last, pushed-old}
use Rattle.judge_columns.proofs.swept.add_session.Goals as goal

pub returns-in_ok-push-clause-added : goal.returns-in_ok-push-clause-added
returns-in_ok-push-clause-added c =
    subst (λ (xs : List ℕ). (k : ℕ) × (slice_get xs k ≡ Some c.args.session)) (sym c.in_ok-push.ensures.items)
    (pushed-last c.args.sessions.now.items c.args.session)

pub returns-in_ok-push-clause-others : goal.returns-in_ok-push-clause-others
returns-in_ok-push-clause-others c = λ k t at.
    pushed-cases c.args.sessions.now.items c.args.session k t (subst (λ (xs : List ℕ). slice_get xs k ≡ Some t) c.in_ok-push.ensures.items at)

pub returns-in_ok-push-clause-kept : goal.returns-in_ok-push-clause-kept
returns-in_ok-push-clause-kept c = λ k t at.
    subst (λ (xs : List ℕ). slice_get xs k ≡ Some t) (sym c.in_ok-push.ensures.items)
    (pushed-old c.args.sessions.now.items c.args.session k t at)
