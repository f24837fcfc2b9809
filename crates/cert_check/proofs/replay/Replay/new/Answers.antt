use Rattle.std.proofs.Common.{[], subst}
use Rattle.cert_check.proofs.replay.Replay.new.Goals as goal

pub returns : goal.returns
returns g c = λ list. record {
  counting = c.in_ok-naming.ensures list;
  state = subst (λ start. g.O.SeqObject.stands c.in_ok-object.object start []) c.start.ensures.start c.in_ok-object.ensures;
}
