use Rattle.std.proofs.Common.{◌≢◌, subst, ℕ}
use Rattle.std.proofs.lemmas.List.Elements.{All-contains}
use Rattle.log_choices.specs.Forced.{Comes}
use Rattle.log_choices.specs.ForcedSteps.{IsReplacing}
use Rattle.log_choices.proofs.Excluding.{by-replacing}
use Rattle.log_choices.proofs.forced_plan.Plan.reason.Goals as goal

pub returns-clause-reason : goal.returns-clause-reason
returns-clause-reason c =
    let es = c.args.timed.now.log.now in let in_time = c.args.timed.now.in_time in
    let p = c.args.delete.place in
    let b = c.in_ok-place.place in
    let writes = c.args.self.now.writes.items in
    let (n, w, there, at, place, other, comes) = c.in_ok-place.ensures in
    let replacing = All-contains (IsReplacing in_time es writes c.args.read.key c.args.read.place) c.args.replacing.now n c.requires.replacing there in
    let is = c.in_ok-write.ensures.1 in
    by-replacing in_time es c.args.read writes c.requires.plan.writes p n b replacing w at place
    (subst (λ (m : ℕ). b ≢ m) is other) (subst (λ (m : ℕ). Comes in_time es m b) is comes)
