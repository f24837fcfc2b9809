use Rattle.std.proofs.Common.{◌≡◌, length, subst, sym}
use Rattle.std.specs.Prelude.{None}
use Rattle.live_simulation.specs.LaneReplies.{begin_refusal}
use Rattle.live_simulation.specs.Steps.Recordings.{lane_of}
use Rattle.live_simulation.proofs.Kept.{call_closed, either}
use Rattle.live_simulation.proofs.recording.Recording.push_call.Goals as goal

pub invariant_of-self : goal.invariant_of-self
invariant_of-self g c =
    call_closed g.O.SeqObject.is_start g.O.SeqObject.matches record { start = c.self.inside.start; lanes = c.self.inside.lanes.items; plans = c.self.inside.plans.items } c.self.invariant c.args.s c.args.call
    c.index_mut.result.now c.push_call.new.self
    (subst (λ w. begin_refusal (length w.lanes) c.args.s (lane_of w c.args.s).0 (lane_of w c.args.s).1 ≡ None) (sym c.self.view_is) c.requires)
    c.index_mut.ensures.value (either c.push_call.result c.push_call.ensures.begun c.push_call.ensures.refused)
