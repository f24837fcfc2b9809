use Rattle.std.proofs.Common.{◌≢◌, ◌∙◌, length, get_or, sym, arith}
use Rattle.std.proofs.lemmas.Bool.{eqb-false}
use Rattle.log_choices.specs.ForcedSteps.{IsKeptWrite}
use Rattle.log_choices.proofs.ForcedCalls.{all-at}
use Rattle.log_choices.proofs.ForcedLooks.{start-out}
use Rattle.log_choices.proofs.forced_plan.Plan.is_start_left.Goals as goal

pub returns-then-not-is_empty-clause-out : goal.returns-then-not-is_empty-clause-out
returns-then-not-is_empty-clause-out c =
    let es = c.args.timed.now.log.now in let in_time = c.args.timed.now.in_time in
    let numbers = c.args.replacing.now in
    let full : length numbers ≢ 0 = eqb-false (length numbers) 0 (sym c.is_empty.ensures ∙ c.if-not-is_empty.true) in
    let n = get_or numbers 0 0 in
    λ _ p kept _. let (w, at, key, comes) = c.requires.replacing 0 0 (omega arith) in
    start-out in_time es c.args.read c.requires.read w p kept (all-at (IsKeptWrite in_time es) c.args.self.now.writes.items n w c.requires.plan.writes at) key comes
