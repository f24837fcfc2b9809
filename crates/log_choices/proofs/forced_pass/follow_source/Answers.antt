use Rattle.std.proofs.lemmas.List.Elements.{All-contains}
use Rattle.log_choices.specs.ForcedSteps.{IsKeptWrite}
use Rattle.log_choices.proofs.ForcedPasses.{source-comes}
use Rattle.log_choices.proofs.forced_pass.follow_source.Goals as goal

pub returns-in-Some : goal.returns-in-Some
returns-in-Some c =
    let es = c.args.timed.now.log.now in let in_time = c.args.timed.now.in_time in
    let a = c.args.call.now in
    let w = c.in-Some.write.now in
    let (there, key, value) = c.in-Some.ensures in
    let kept = All-contains (IsKeptWrite in_time es) c.args.plan.now.writes.items w c.requires.plan.writes there in
    c.follow.ensures in_time es a.place kept
    (source-comes in_time es w kept a c.requires.call c.args.key c.args.value c.requires.read c.requires.got key value) c.requires.past
