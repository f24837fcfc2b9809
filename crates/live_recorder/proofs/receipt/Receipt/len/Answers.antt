use Rattle.std.proofs.Common.{length, ap, sym, ◌∙◌}
use Rattle.live_recorder.proofs.Telling.{length_map, told_many}
use Rattle.live_recorder.proofs.receipt.Receipt.len.Goals as goal

pub returns : goal.returns
returns g c = record {
  operations = c.len.ensures ∙ (told_many c.self.inside.notes.list c.self.invariant.shows ∙ ap (λ r. length r.operations) c.self.view_is);
  cells = c.len.ensures ∙ (sym (length_map (λ n. n.0) c.self.inside.notes.list) ∙ ap (λ r. length r.cells) c.self.view_is);
}
