use Rattle.cert_subhistories.proofs.SourceParts.{part_with_sources-meets}
use Rattle.cert_subhistories.proofs.laws.parts_with_their_sources_meet_what_the_whole_meets.Goals as goal

pub returns : goal.returns
returns c = λ h kept criterion distinct keeps. part_with_sources-meets h kept distinct keeps criterion
