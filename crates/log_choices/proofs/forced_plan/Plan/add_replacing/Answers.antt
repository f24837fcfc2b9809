use Rattle.std.proofs.Common.{ℕ}
use Rattle.std.proofs.lemmas.List.Elements.{All-push}
use Rattle.log_choices.specs.ForcedSteps.{IsReplacing}
use Rattle.log_choices.proofs.forced_plan.Plan.add_replacing.Goals as goal

pub returns-in_ok-push : goal.returns-in_ok-push
returns-in_ok-push c =
    let P : ℕ → Type 0 = IsReplacing c.args.timed.now.in_time c.args.timed.now.log.now c.args.self.now.writes.items c.args.read.key c.args.read.place in
    rw c.in_ok-push.ensures.items (All-push P c.args.numbers.now.items c.in-Some.number c.requires.numbers (c.replaces.ensures c.if-replaces.true))
