use Rattle.cert_check.proofs.Sound.{explained-meets}
use Rattle.cert_check.proofs.laws.explained_certificates_show_their_criterion.Goals as goal

pub returns : goal.returns
returns g c = λ h certificate. explained-meets g.O.SeqObject.answer h certificate
