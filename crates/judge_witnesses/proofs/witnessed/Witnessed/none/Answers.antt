use Rattle.judge_witnesses.proofs.NoWitnesses.{none-witnessed}
use Rattle.judge_witnesses.proofs.witnessed.Witnessed.none.Goals as goal

pub returns : goal.returns
returns c = none-witnessed
