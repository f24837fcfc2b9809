use Rattle.std.proofs.Common.{◌≡◌, ◌<◌, ◌∙◌, ℕ, length, ap, sym, subst, List, arith}
use Rattle.std.proofs.lemmas.List.Elements.{All-set}
use Rattle.std.proofs.lemmas.Option.{same_Some}
use Rattle.log_choices.specs.ForcedSteps.{IsKeptWrite, IsPast}
use Rattle.log_choices.specs.declared.forced_kept.Kept.{Kept}
use Rattle.log_choices.proofs.ForcedCalls.{all-at, get-at}
use Rattle.log_choices.proofs.ForcedPasses.{kept-renewed}
use Rattle.log_choices.proofs.forced_pass.keep.Goals as goal

pub returns-in_ok-renew-clause-plan : goal.returns-in_ok-renew-clause-plan
returns-in_ok-renew-clause-plan c =
    let es = c.args.timed.now.log.now in let in_time = c.args.timed.now.in_time in
    let writes = c.args.plan.now.writes.items in
    let n = c.number_at-number.result in
    let w = c.index_mut.result.now in
    let v = c.renew.new.write in
    let (is, items) = c.in_ok-renew.ensures in
    let inside : n < length writes = omega arith in
    let at = get-at writes n w inside c.index_mut.ensures.value in
    let same : w ≡ c.index.result.now = same_Some _ _ (sym at ∙ get-at writes n c.index.result.now inside c.index.ensures) in
    let place : w.place ≡ c.args.call.now.place =
    ap (λ (k : Kept). k.place) same ∙ c.if-index-place.true ∙ c.place-then-number-len.ensures in
    let past = subst (λ (l : List ℕ). IsPast in_time es l w.place) (sym items) (subst (IsPast in_time es c.args.past.now) (sym place) c.requires.past) in
    let kept = kept-renewed in_time es w v (all-at (IsKeptWrite in_time es) writes n w c.requires.plan.writes at) is past in
    record { writes = All-set (IsKeptWrite in_time es) writes n v kept c.requires.plan.writes; deletes = c.requires.plan.deletes }
