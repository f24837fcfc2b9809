use Rattle.std.proofs.Common.{◌≡◌, ◌≢◌, ◌∙◌, length, get_or, sym, subst, List, arith}
use Rattle.std.specs.Prelude.{Some, slice_get}
use Rattle.std.proofs.lemmas.Bool.{eqb-false}
use Rattle.log_choices.specs.declared.forced_kept.Kept.{Kept}
use Rattle.log_choices.proofs.ForcedCalls.{get-at}
use Rattle.log_choices.proofs.Excluding.{start-by-replacing}
use Rattle.log_choices.proofs.forced_plan.Plan.start_exclusion.Goals as goal

pub returns : goal.returns
returns c =
    let numbers = c.args.replacing.now in
    let full : length numbers ≢ 0 = eqb-false (length numbers) 0 (sym c.is_empty.ensures ∙ c.if-is_empty.false) in
    let n = get_or numbers 0 0 in
    let w = c.in_ok-write.write.now in
    let within = get-at c.deref.result.now n w c.in_ok-write.ensures.lookup.3.0 c.in_ok-write.ensures.lookup.1 in
    let at = subst (λ (l : List Kept). slice_get l n ≡ Some w) c.deref.ensures.value within in
    start-by-replacing c.args.timed.now.in_time c.args.timed.now.log.now c.args.read c.args.self.now.writes.items c.requires.plan.writes n c.requires.read
    (c.requires.replacing 0 0 (omega arith)) w at
