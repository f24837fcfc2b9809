use Rattle.std.proofs.Common.{◌<◌, ◌∙◌, length, get_or, sym, subst, ℕ, arith}
use Rattle.std.proofs.lemmas.List.Elements.{Contains-get_or}
use Rattle.std.specs.Prelude.{All}
use Rattle.std.proofs.lemmas.Bool.{eqb-false}
use Rattle.log_choices.specs.ForcedSteps.{IsLook, IsReplacing}
use Rattle.log_choices.specs.declared.forced_kept.Delete.{Delete}
use Rattle.log_choices.proofs.ForcedFound.{look-is}
use Rattle.log_choices.proofs.forced_plan.Plan.look.Goals as goal

abbrev none : Delete
none = record { key = 0; place = 0 }

pub left_of-left-requires-clause-deletes : goal.left_of-left-requires-clause-deletes
left_of-left-requires-clause-deletes c = λ d there. (c.deletes_of-deletes.ensures d).0 there

pub left_of-left-requires-clause-replacing : goal.left_of-left-requires-clause-replacing
left_of-left-requires-clause-replacing c =
    let P : ℕ → Type 0 = IsReplacing c.args.timed.now.in_time c.args.timed.now.log.now c.args.self.now.writes.items c.args.read.key c.args.read.place in
    subst (All P) (sym c.deref.ensures.value) c.in_ok-replacing.ensures

pub is_start_left-is_start_left-requires-clause-replacing : goal.is_start_left-is_start_left-requires-clause-replacing
is_start_left-is_start_left-requires-clause-replacing c =
    let P : ℕ → Type 0 = IsReplacing c.args.timed.now.in_time c.args.timed.now.log.now c.args.self.now.writes.items c.args.read.key c.args.read.place in
    subst (All P) (sym c.deref-2.ensures.value) c.in_ok-replacing.ensures

pub returns : goal.returns
returns c =
    let es = c.args.timed.now.log.now in let in_time = c.args.timed.now.in_time in
    let part = c.deletes_of-deletes.result.now in
    let full = eqb-false (length part) 0 (sym c.is_empty.ensures ∙ c.if-is_empty.false) in
    let nonempty : 0 < length part = omega arith in
    let found = look-is in_time es c.args.read c.requires.read c.args.self.now.deletes.items part c.requires.plan.deletes
    c.deletes_of-deletes.ensures (get_or part 0 none) (Contains-get_or part 0 none nonempty) c.first_possible-first.result c.first_possible-first.ensures
    c.left_of-left.result
    c.is_start_left-is_start_left.result c.left_of-left.ensures c.is_start_left-is_start_left.ensures.left
    c.is_start_left-is_start_left.ensures.out in
    subst (IsLook in_time es c.args.read.place) (sym c.look_of.ensures) found
