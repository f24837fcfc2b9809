use Rattle.std.proofs.Common.{◌≡◌, ◌⊎◌, ℕ, subst}
use Rattle.std.specs.Prelude.{IsTrue, false, Some}
use Rattle.log_events.specs.declared.event.Ending.TheVariants.{Failed, Lost}
use Rattle.log_choices.proofs.ForcedPasses.{gone-past, not-gone}
use Rattle.log_choices.proofs.ForcedPasts.{IsRaised}
use Rattle.log_choices.proofs.forced_pass.go_past.Goals as goal

pub returns-then-not-is_lost_or_failed : goal.returns-then-not-is_lost_or_failed
returns-then-not-is_lost_or_failed c =
    let a = c.args.call.now in
    let old = c.args.past.now in
    let new = c.raise.new.past in
    let stays : a.ending ≡ Some Lost ⊎ a.ending ≡ Some Failed → ⊥ = λ ended.
    let wrong : IsTrue false = subst IsTrue c.if-not-is_lost_or_failed.true (c.is_lost_or_failed.ensures.1 ended) in absurd cc in
    let raised = subst (λ (n : ℕ). IsRaised old new n a.place) c.client.ensures
    (subst (λ (n : ℕ). IsRaised old new c.client.result n) c.place.ensures c.raise.ensures) in
    gone-past c.args.timed.now.in_time c.args.timed.now.log.now a old new c.requires.call stays raised c.requires.here

pub returns-else-not-is_lost_or_failed : goal.returns-else-not-is_lost_or_failed
returns-else-not-is_lost_or_failed c =
    not-gone c.args.timed.now.in_time c.args.timed.now.log.now c.args.call.now c.args.past.now (c.is_lost_or_failed.ensures.0 c.if-not-is_lost_or_failed.false) c.requires.later
