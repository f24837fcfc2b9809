use Rattle.std.proofs.Common.{ℕ, sym, subst}
use Rattle.std.specs.Prelude.{All}
use Rattle.log_choices.specs.ForcedSteps.{IsReplacing}
use Rattle.log_choices.proofs.forced_plan.Plan.lacking_read.Goals as goal

pub exclusions-requires-clause-deletes : goal.exclusions-requires-clause-deletes
exclusions-requires-clause-deletes c = λ d there. (c.deletes_of-deletes.ensures d).0 there

pub exclusions-requires-clause-replacing : goal.exclusions-requires-clause-replacing
exclusions-requires-clause-replacing c =
    let P : ℕ → Type 0 = IsReplacing c.args.timed.now.in_time c.args.timed.now.log.now c.args.self.now.writes.items c.args.read.key c.args.read.place in
    subst (All P) (sym c.deref.ensures.value) c.in_ok-replacing.ensures
