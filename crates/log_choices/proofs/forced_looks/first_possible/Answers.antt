use Rattle.std.proofs.Common.{◌≤◌, ℕ, subst, take}
use Rattle.std.specs.Prelude.{All, Bool, IsTrue}
use Rattle.std.proofs.lemmas.List.{take_all, take_more}
use Rattle.std.proofs.lemmas.List.Elements.{All-push}
use Rattle.log_choices.specs.declared.forced_kept.Delete.{Delete}
use Rattle.log_choices.proofs.forced_looks.first_possible.Goals as goal

abbrev none : Delete
none = record { key = 0; place = 0 }

-- a delete begins after a place, in the order of time
abbrev IsLate : Bool → ℕ → Delete → Type 0
IsLate in_time j d = IsTrue in_time × (j ≤ d.place)

pub loop-delete-preserved : goal.loop-delete-preserved
loop-delete-preserved c =
    let deletes = c.args.deletes.now in
    let i = c.loop-delete.delete-index in
    let late = IsLate c.args.timed.now.in_time c.args.read.end in
    rw (take_more deletes i none c.loop-delete-test.true)
    (All-push late (take i deletes) _ c.loop-delete.invariant (c.is_possible.ensures.late c.if-is_possible.false))

pub returns : goal.returns
returns c =
    let late = IsLate c.args.timed.now.in_time c.args.read.end in
    subst (All late) (take_all c.loop-delete.delete-index c.args.deletes.now c.loop-delete-test.false) c.loop-delete.invariant
