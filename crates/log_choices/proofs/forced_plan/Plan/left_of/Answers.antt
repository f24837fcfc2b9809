use Rattle.std.proofs.Common.{◌≡◌, ◌+◌, ◌-◌, ◌<◌, ℕ, List, ◌∷◌, drop, get_or, length, ap, sym, subst, ◌∙◌, arith}
use Rattle.std.proofs.lemmas.List.{drop_more}
use Rattle.std.proofs.lemmas.List.Elements.{Contains-get_or}
use Rattle.log_choices.specs.ForcedSteps.{IsLeft}
use Rattle.log_choices.specs.declared.forced_kept.Delete.{Delete}
use Rattle.log_choices.proofs.ForcedLooks.{left-one, left-out}
use Rattle.log_choices.proofs.forced_plan.Plan.left_of.Goals as goal

abbrev none : Delete
none = record { key = 0; place = 0 }

-- one element before those that come from a place on
before : (deletes : List Delete) (m : ℕ) → 0 < m → m - 1 < length deletes
    → drop (m - 1) deletes ≡ get_or deletes (m - 1) none ∷ drop m deletes
before deletes m positive within =
    let same : (m - 1) + 1 ≡ m = omega arith in
    drop_more deletes (m - 1) none within ∙ ap (λ (n : ℕ). get_or deletes (m - 1) none ∷ drop n deletes) same

pub is_excluded-requires-clause-listed : goal.is_excluded-requires-clause-listed
is_excluded-requires-clause-listed c =
    let bound = c.loop-number.auto.number in
    let test = c.loop-number-test.true in
    (c.requires.deletes (get_or c.args.deletes.now (c.loop-number.number - 1) none)
    (Contains-get_or c.args.deletes.now (c.loop-number.number - 1) none (omega arith))).0

pub is_excluded-requires-clause-key : goal.is_excluded-requires-clause-key
is_excluded-requires-clause-key c =
    let bound = c.loop-number.auto.number in
    let test = c.loop-number-test.true in
    (c.requires.deletes (get_or c.args.deletes.now (c.loop-number.number - 1) none)
    (Contains-get_or c.args.deletes.now (c.loop-number.number - 1) none (omega arith))).1

pub loop-number-preserved-in-NoneLeft : goal.loop-number-preserved-in-NoneLeft
loop-number-preserved-in-NoneLeft c =
    let in_time = c.args.timed.now.in_time in
    let es = c.args.timed.now.log.now in
    let r = c.args.read.place in
    let j = c.args.read.end in
    let deletes = c.args.deletes.now in
    let m = c.loop-number.number in
    let bound = c.loop-number.auto.number in
    let test = c.loop-number-test.true in
    rw (before deletes m (omega arith) (omega arith))
    (left-one in_time es r j (drop m deletes) (get_or deletes (m - 1) none)
    (subst (IsLeft in_time es r j (drop m deletes)) c.in-NoneLeft.is c.loop-number.invariant)
    (c.is_excluded.ensures.possible c.if-not-is_excluded.true))

pub loop-number-preserved : goal.loop-number-preserved
loop-number-preserved c =
    let in_time = c.args.timed.now.in_time in
    let es = c.args.timed.now.log.now in
    let r = c.args.read.place in
    let j = c.args.read.end in
    let deletes = c.args.deletes.now in
    let m = c.loop-number.number in
    let bound = c.loop-number.auto.number in
    let test = c.loop-number-test.true in
    subst (λ (l : List Delete). IsLeft in_time es r j l c.loop-number.left) (sym (before deletes m (omega arith) (omega arith)))
    (left-out in_time es r j (drop m deletes) (get_or deletes (m - 1) none) c.loop-number.left c.loop-number.invariant
    (c.is_excluded.ensures.excluded c.if-not-is_excluded.false))
