use Rattle.std.proofs.Common.{◌+◌, ℕ, sym, subst, List}
use Rattle.std.proofs.lemmas.List.Elements.{All-contains}
use Rattle.log_choices.specs.ChoiceTables.{seen_of}
use Rattle.log_choices.specs.Forced.{Comes}
use Rattle.log_choices.specs.ForcedSteps.{AreFoundBelow, IsKeptWrite, IsLeftWith}
use Rattle.log_choices.specs.declared.seen.Seen.{Seen}
use Rattle.log_choices.proofs.ForcedPasses.{found-pushed, seen-comes}
use Rattle.log_choices.proofs.forced_pass.put_seen.Goals as goal

pub returns-in-Some-clause-past : goal.returns-in-Some-clause-past
returns-in-Some-clause-past c =
    let es = c.args.timed.now.log.now in let in_time = c.args.timed.now.in_time in
    let r = c.args.read.place in
    let w = c.in-Some.write.now in
    let comes = seen-comes in_time es r c.in-Delete.place (subst (λ (s : Seen). IsLeftWith in_time es r (seen_of s)) c.in-Delete.is c.requires.seen) in
    let kept = All-contains (IsKeptWrite in_time es) c.args.plan.now.writes.items w c.requires.plan.writes c.in-Some.ensures.0 in
    c.follow.ensures in_time es r kept (subst (λ (n : ℕ). Comes in_time es n r) (sym c.in-Some.ensures.1) comes) c.requires.past

pub returns-in-Some-clause-found : goal.returns-in-Some-clause-found
returns-in-Some-clause-found c =
    let es = c.args.timed.now.log.now in let in_time = c.args.timed.now.in_time in
    let r = c.args.read.place in
    subst (λ (t : List (ℕ × Seen)). AreFoundBelow in_time es (r + 1) t) (sym c.in_ok-push.ensures.ok)
    (found-pushed in_time es c.args.found.now.seen r c.args.seen c.requires.found c.requires.seen)

pub returns-in_default-clause-found : goal.returns-in_default-clause-found
returns-in_default-clause-found c =
    let es = c.args.timed.now.log.now in let in_time = c.args.timed.now.in_time in
    let r = c.args.read.place in
    subst (λ (t : List (ℕ × Seen)). AreFoundBelow in_time es (r + 1) t) (sym c.in_ok-push.ensures.ok)
    (found-pushed in_time es c.args.found.now.seen r c.args.seen c.requires.found c.requires.seen)
