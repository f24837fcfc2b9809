use Rattle.std.proofs.Common.{ap, sym, ◌∙◌}
use Rattle.std.specs.Prelude.{Some}
use Rattle.live_seals.proofs.finding.find_call.Goals as goal

pub returns : goal.returns
returns g c = (
  c.call_note-note.ensures.cell ∙ ap Some (sym c.in_ok-_call.ensures.cell ∙ ap (λ p. p.0) (sym c.of.ensures)),
  (c.in_ok-_call._call.now, ap (λ p. p.1) c.of.ensures ∙ c.in_ok-_call.ensures.value.0),
)
