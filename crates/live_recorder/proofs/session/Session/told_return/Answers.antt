use Rattle.std.proofs.Common.{◌<◌, length, ap, sym, ◌∙◌, subst}
use Rattle.std.specs.Prelude.{slice_get}
use Rattle.std.specs.Arc.{arc_value}
use Rattle.live_recorder.specs.Lanes.{operation, operations}
use Rattle.live_recorder.proofs.Telling.{tells_many, tells_cell, tells_value}
use Rattle.live_recorder.proofs.session.Session.told_return.Goals as goal

pub told-requires : goal.told-requires
told-requires g c =
    let many = tells_many operation (arc_value c.self.inside.lane).returns c.self.inside.returns.list (operations c.self.inside.returns.list) c.self.invariant.returned in
    subst (λ n. c.args.at < n) (ap (λ s. length s.done) (sym c.self.view_is) ∙ sym many) c.requires

pub returns : goal.returns
returns g c =
    let list = c.self.inside.returns.list in
    record {
      cell = ap (λ s. slice_get s.cells.returns c.args.at) (sym c.self.view_is) ∙ tells_cell operation (arc_value c.self.inside.lane).returns list (operations list) c.self.invariant.returned c.args.at (c.told.result.cell, c.told.result.known) c.told.ensures;
      operation = tells_value operation (arc_value c.self.inside.lane).returns list (operations list) c.self.invariant.returned c.args.at (c.told.result.cell, c.told.result.known) c.told.ensures ∙ ap (λ s. slice_get s.done c.args.at) c.self.view_is;
    }
