use Rattle.std.proofs.Common.{◌≡◌, get_or, refl, subst, sym, List, ℕ}
use Rattle.std.specs.Prelude.{Some, slice_get}
use Rattle.std.proofs.lemmas.List.Elements.{Contains-get_or}
use Rattle.log_choices.specs.ForcedSteps.{IsKeptWrite, IsPast}
use Rattle.log_choices.specs.declared.forced_kept.Kept.{Kept}
use Rattle.log_choices.proofs.ForcedCalls.{all-at, get-at}
use Rattle.log_choices.proofs.forced_plan.Plan.replaced_by.Goals as goal

pub returns-in-loop-number : goal.returns-in-loop-number
returns-in-loop-number c =
    let es = c.args.timed.now.log.now in let in_time = c.args.timed.now.in_time in
    let number = get_or c.args.by.now c.loop-number.number-index 0 in
    let other = c.in-Some.other.now in
    let within = get-at c.deref.result.now number other c.in-Some.ensures.lookup.3.0 c.in-Some.ensures.lookup.1 in
    let at = subst (λ (l : List Kept). slice_get l number ≡ Some other) c.deref.ensures.value within in
    let kept = all-at (IsKeptWrite in_time es) c.args.self.now.writes.items number other c.requires.plan.writes at in
    let past = subst (λ (l : List ℕ). IsPast in_time es l other.place) (sym c.deref-in-loop-number.ensures.value) kept.past in (
      number,
      other,
      Contains-get_or c.args.by.now c.loop-number.number-index 0 c.loop-number-test.true,
      at,
      refl,
      c.if-other-write.true,
      c.precedes.ensures in_time es other.place c.requires.write past c.if-precedes.true,
    )
