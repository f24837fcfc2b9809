use Rattle.std.proofs.Common.{◌≡◌, subst, List}
use Rattle.std.specs.Prelude.{Some, slice_get}
use Rattle.log_choices.specs.ForcedSteps.{IsKeptWrite}
use Rattle.log_choices.specs.declared.forced_kept.Kept.{Kept}
use Rattle.log_choices.proofs.ForcedCalls.{all-at, get-at}
use Rattle.log_choices.proofs.forced_plan.Plan.replaces.Goals as goal

pub returns-then-write-read : goal.returns-then-write-read
returns-then-write-read c =
    let es = c.args.timed.now.log.now in let in_time = c.args.timed.now.in_time in
    let found = c.in-Some.write.now in
    let within = get-at c.deref.result.now c.args.number found c.in-Some.ensures.lookup.3.0 c.in-Some.ensures.lookup.1 in
    let at = subst (λ (l : List Kept). slice_get l c.args.number ≡ Some found) c.deref.ensures.value within in
    let kept = all-at (IsKeptWrite in_time es) c.args.self.now.writes.items c.args.number found c.requires.plan.writes at in
    λ yes. (found, at, c.if-write-read.true, c.precedes.ensures in_time es c.args.read.place kept c.requires.past yes)
