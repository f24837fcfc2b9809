use Rattle.cert_subhistories.proofs.KeyedParts.{part_at_keys-meets}
use Rattle.cert_subhistories.proofs.laws.parts_at_keys_meet_what_the_whole_meets.Goals as goal

pub returns : goal.returns
returns g c = λ h keys. part_at_keys-meets g.O.SeqObject.plain_start g.O.SeqObject.answer keys h
