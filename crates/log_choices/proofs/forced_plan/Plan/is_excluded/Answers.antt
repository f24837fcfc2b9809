use Rattle.std.proofs.Common.{subst, ℕ}
use Rattle.std.proofs.lemmas.List.Elements.{All-contains}
use Rattle.log_choices.specs.Choices.{BeginsKeptDelete}
use Rattle.log_choices.specs.declared.forced_kept.Delete.{Delete}
use Rattle.log_choices.proofs.Excluding.{reason-excludes}
use Rattle.log_choices.proofs.forced_plan.Plan.is_excluded.Goals as goal

pub returns-in-Some-clause-excluded : goal.returns-in-Some-clause-excluded
returns-in-Some-clause-excluded c =
    let es = c.args.timed.now.log.now in
    let d = c.args.delete in
    let listed = All-contains (λ (e : Delete). BeginsKeptDelete es e.key e.place) c.args.self.now.deletes.items d c.requires.plan.deletes.listed c.requires.listed in
    let kept = subst (λ (x : ℕ). BeginsKeptDelete es x d.place) c.requires.key listed in
    λ _. reason-excludes c.args.timed.now.in_time es c.args.read c.requires.read d.place kept _ c.in-Some.ensures.reason
