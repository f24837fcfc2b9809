use Rattle.std.proofs.Common.{length, ap, ◌∙◌}
use Rattle.std.specs.Prelude.{option_map}
use Rattle.std.specs.Arc.{arc_value}
use Rattle.live_recorder.specs.Lanes.{known, operations}
use Rattle.live_recorder.specs.Sessions.{begun}
use Rattle.live_recorder.proofs.Telling.{tells_many}
use Rattle.live_recorder.proofs.session.Session.called.Goals as goal

pub returns : goal.returns
returns g c =
    let values = begun (operations c.self.inside.returns.list) (option_map (λ p. p.call) c.self.inside.pending) in
    c.len.ensures ∙ (tells_many known (arc_value c.self.inside.lane).calls c.self.inside.calls.list values c.self.invariant.called ∙ ap (λ s. length (begun s.done s.pending)) c.self.view_is)
