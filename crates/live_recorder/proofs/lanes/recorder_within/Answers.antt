use Rattle.std.proofs.Common.{◌≤◌, refl, subst, sym, ◌∙◌}
use Rattle.std.specs.Arc.{arc_value}
use Rattle.model_history.specs.declared.limits.TheConstants.{MAX_SESSIONS}
use Rattle.live_recorder.specs.Recorders.{IsRecorder}
use Rattle.live_recorder.proofs.Telling.{length_map}
use Rattle.live_recorder.proofs.lanes.recorder_within.Goals as goal

pub of-requires : goal.of-requires
of-requires g c = record {
  start = c.requires.start;
  few = subst (λ n. n ≤ MAX_SESSIONS) (sym c.in_ok-lanes.ensures.many) c.requires.few;
}

pub returns : goal.returns
returns g c =
    subst (λ lanes. IsRecorder c.args.k c.args.cap c.args.start lanes c.in_ok-lanes.sessions.items)
    (sym (c.in_ok-lanes-2.ensures.ok ∙ c.of.ensures))
    (record {
      starts = refl;
      many = length_map arc_value c.in_ok-lanes.lanes.items ∙ c.in_ok-lanes.ensures.many;
      each = c.in_ok-lanes.ensures.lanes;
    })
