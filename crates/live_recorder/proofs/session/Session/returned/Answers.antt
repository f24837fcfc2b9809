use Rattle.std.proofs.Common.{length, ap, ◌∙◌}
use Rattle.std.specs.Arc.{arc_value}
use Rattle.live_recorder.specs.Lanes.{operation, operations}
use Rattle.live_recorder.proofs.Telling.{tells_many}
use Rattle.live_recorder.proofs.session.Session.returned.Goals as goal

pub returns : goal.returns
returns g c =
    let list = c.self.inside.returns.list in
    c.len.ensures ∙ (tells_many operation (arc_value c.self.inside.lane).returns list (operations list) c.self.invariant.returned ∙ ap (λ s. length s.done) c.self.view_is)
