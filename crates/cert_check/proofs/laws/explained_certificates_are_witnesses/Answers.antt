use Rattle.cert_check.proofs.Sound.{explained-witness}
use Rattle.cert_check.proofs.laws.explained_certificates_are_witnesses.Goals as goal

pub returns : goal.returns
returns g c = λ h certificate. explained-witness g.O.SeqObject.answer h certificate
