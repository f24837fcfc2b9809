use Rattle.judge_witnesses.proofs.RenamedMeets.{meets-renamed}
use Rattle.judge_witnesses.proofs.laws.renamed_histories_meet_what_they_were_renamed_from.Goals as goal

pub returns : goal.returns
returns c = meets-renamed
