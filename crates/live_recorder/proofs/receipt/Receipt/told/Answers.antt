use Rattle.std.proofs.Common.{◌<◌, length, ap, sym, ◌∙◌, subst}
use Rattle.std.specs.Prelude.{slice_get}
use Rattle.live_recorder.proofs.Telling.{cell_told, operation_told, told_many}
use Rattle.live_recorder.proofs.receipt.Receipt.told.Goals as goal

pub told-requires : goal.told-requires
told-requires g c =
    let many = told_many c.self.inside.notes.list c.self.invariant.shows in
    subst (λ n. c.args.at < n) (ap (λ r. length r.operations) (sym c.self.view_is) ∙ sym many) c.requires

pub returns : goal.returns
returns g c = record {
  cell = ap (λ r. slice_get r.cells c.args.at) (sym c.self.view_is) ∙ cell_told c.self.inside.notes.list c.args.at (c.told.result.cell, c.told.result.known) c.told.ensures;
  operation = operation_told c.self.inside.notes.list c.args.at (c.told.result.cell, c.told.result.known) c.told.ensures c.self.invariant.shows ∙ ap (λ r. slice_get r.operations c.args.at) c.self.view_is;
}
