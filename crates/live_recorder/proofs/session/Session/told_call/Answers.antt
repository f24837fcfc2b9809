use Rattle.std.proofs.Common.{◌<◌, length, ap, sym, ◌∙◌, subst}
use Rattle.std.specs.Prelude.{option_map, slice_get}
use Rattle.std.specs.Arc.{arc_value}
use Rattle.live_recorder.specs.Lanes.{known, operations}
use Rattle.live_recorder.specs.Sessions.{begun}
use Rattle.live_recorder.proofs.Telling.{tells_many, tells_cell, tells_value}
use Rattle.live_recorder.proofs.session.Session.told_call.Goals as goal

pub told-requires : goal.told-requires
told-requires g c =
    let values = begun (operations c.self.inside.returns.list) (option_map (λ p. p.call) c.self.inside.pending) in
    let many = tells_many known (arc_value c.self.inside.lane).calls c.self.inside.calls.list values c.self.invariant.called in
    subst (λ n. c.args.at < n) (ap (λ s. length (begun s.done s.pending)) (sym c.self.view_is) ∙ sym many) c.requires

pub returns : goal.returns
returns g c =
    let values = begun (operations c.self.inside.returns.list) (option_map (λ p. p.call) c.self.inside.pending) in
    let list = c.self.inside.calls.list in
    record {
      cell = ap (λ s. slice_get s.cells.calls c.args.at) (sym c.self.view_is) ∙ tells_cell known (arc_value c.self.inside.lane).calls list values c.self.invariant.called c.args.at (c.told.result.cell, c.told.result.known) c.told.ensures;
      call = tells_value known (arc_value c.self.inside.lane).calls list values c.self.invariant.called c.args.at (c.told.result.cell, c.told.result.known) c.told.ensures ∙ ap (λ s. slice_get (begun s.done s.pending) c.args.at) c.self.view_is;
    }
