use Rattle.cert_check.proofs.Complete.{met-certified, certified-met}
use Rattle.cert_check.proofs.Ranges.{explained-in_range}
use Rattle.cert_check.proofs.laws.met_exactly_where_certified.Goals as goal

pub returns : goal.returns
returns g c = λ h criterion limits. (
  λ meets.
      let made = met-certified g.O.SeqObject.answer h criterion meets in
      (made.0, explained-in_range h g.O.SeqObject.is_start g.O.SeqObject.matches limits g.O.SeqObject.answer made.0 made.1.1 made.1.2, made.1),
  λ certified. certified-met g.O.SeqObject.answer h criterion certified.0 certified.2,
)
