use Rattle.std.proofs.Common.{◌≡◌, length, subst, sym}
use Rattle.std.specs.Prelude.{None}
use Rattle.live_simulation.specs.LaneReplies.{end_refusal}
use Rattle.live_simulation.specs.Steps.Recordings.{lane_of}
use Rattle.live_simulation.proofs.Kept.{return_closed, either}
use Rattle.live_simulation.proofs.recording.Recording.push_return.Goals as goal

pub invariant_of-self : goal.invariant_of-self
invariant_of-self g c =
    return_closed g.O.SeqObject.is_start g.O.SeqObject.matches record { start = c.self.inside.start; lanes = c.self.inside.lanes.items; plans = c.self.inside.plans.items } c.self.invariant c.args.s c.args.ret
    c.index_mut.result.now c.push_return.new.self
    (subst (λ w. end_refusal (length w.lanes) c.args.s (lane_of w c.args.s).0 (lane_of w c.args.s).1 g.O.SeqObject.matches c.args.ret ≡ None) (sym c.self.view_is) c.requires)
    c.index_mut.ensures.value (either c.push_return.result c.push_return.ensures.ended c.push_return.ensures.refused)
