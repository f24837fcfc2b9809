use Rattle.std.proofs.lemmas.List.Elements.{All-push}
use Rattle.log_choices.specs.ForcedSteps.{IsKeptWrite}
use Rattle.log_choices.proofs.forced_kept.kept_writes.Goals as goal
use Rattle.log_choices.proofs.forced_kept.kept_writes.Goals.{in-Some+in_ok-push, in_default}

pub loop-call-preserved : goal.loop-call-preserved
loop-call-preserved c = elim c.match-kept_write.branch [
  | in-Some+in_ok-push w ↦
      rw (w.writes-is, w.in_ok-push.ensures.items)
      (λ in_time. All-push (IsKeptWrite in_time c.args.log.now) c.loop-call.writes.items w.in-Some.write (c.loop-call.invariant in_time)
      (w.in-Some.ensures in_time))
  | in_default w ↦ rw w.writes-is c.loop-call.invariant
]
