use Rattle.std.proofs.Common.{ap, sym, ◌∙◌}
use Rattle.std.specs.Prelude.{Some}
use Rattle.live_seals.proofs.TableLemmas.{shown_reply}
use Rattle.live_seals.proofs.finding.find_return.Goals as goal

pub returns-in-Some : goal.returns-in-Some
returns-in-Some g c = (
  c.return_note-note.ensures.cell ∙ ap Some (sym c.in_ok-record.ensures.cell ∙ ap (λ p. p.0) (sym c.of.ensures)),
  shown_reply c.of.result.1 c.in_ok-record.record.now _ (ap (λ p. p.1) c.of.ensures ∙ c.in_ok-record.ensures.value.0) (sym c.in-Some.is ∙ c.reply.ensures.reply),
)
