use Rattle.std.proofs.Common.{get_or, sym, subst, List}
use Rattle.std.specs.Prelude.{All}
use Rattle.std.proofs.lemmas.List.Elements.{All-push, Contains-get_or}
use Rattle.log_choices.specs.Exclusions.{IsExclusion}
use Rattle.log_choices.specs.declared.exclusions.Exclusion.{Exclusion}
use Rattle.log_choices.specs.declared.forced_kept.Delete.{Delete}
use Rattle.log_choices.proofs.Excluding.{excluded-by, none-excluded}
use Rattle.log_choices.proofs.forced_plan.Plan.exclusions.Goals as goal
use Rattle.log_choices.proofs.forced_plan.Plan.exclusions.Goals.{in-Some+in_ok-push, in_default, in-Some-reason+in_ok-push-2, in_default-reason}

abbrev none : Delete
none = record { key = 0; place = 0 }

pub loop-delete-init : goal.loop-delete-init
loop-delete-init c =
    let P : Exclusion → Type 0 = IsExclusion c.args.timed.now.in_time c.args.timed.now.log.now c.args.read.place in
    let empty = subst (λ (l : List Exclusion). All P l) (sym c.new-found.ensures.items)
    (none-excluded c.args.timed.now.in_time c.args.timed.now.log.now c.args.read.place) in
    elim c.match-start_exclusion.branch [
      | in-Some+in_ok-push w ↦ rw (w.found-is, w.in_ok-push.ensures.items) (All-push P c.new-found.result.items w.in-Some.exclusion empty w.in-Some.ensures)
      | in_default w ↦ rw w.found-is empty
    ]

pub reason-requires-clause-listed : goal.reason-requires-clause-listed
reason-requires-clause-listed c =
    let i = c.loop-delete.delete-index in
    (c.requires.deletes (get_or c.args.deletes.now i none) (Contains-get_or c.args.deletes.now i none c.loop-delete-test.true)).0

pub reason-requires-clause-key : goal.reason-requires-clause-key
reason-requires-clause-key c =
    let i = c.loop-delete.delete-index in
    (c.requires.deletes (get_or c.args.deletes.now i none) (Contains-get_or c.args.deletes.now i none c.loop-delete-test.true)).1

pub loop-delete-preserved : goal.loop-delete-preserved
loop-delete-preserved c =
    let es = c.args.timed.now.log.now in let in_time = c.args.timed.now.in_time in
    let read = c.args.read in
    let P : Exclusion → Type 0 = IsExclusion in_time es read.place in
    let d = get_or c.args.deletes.now c.loop-delete.delete-index none in
    elim c.match-reason.branch [
      | in-Some-reason+in_ok-push-2 w ↦
          rw (w.found-is, w.in_ok-push-2.ensures.items)
          (All-push P c.loop-delete.found.items _ c.loop-delete.invariant
          (excluded-by in_time es read c.requires.read d.place w.in-Some-reason.reason w.in-Some-reason.ensures.reason))
      | in_default-reason w ↦ rw w.found-is c.loop-delete.invariant
    ]
