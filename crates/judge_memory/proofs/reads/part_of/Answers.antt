use Rattle.judge_memory.proofs.PartsLaws.{part-write}
use Rattle.judge_memory.proofs.reads.part_of.Goals as goal

pub returns-in-Write-default : goal.returns-in-Write-default
returns-in-Write-default c = λ o at. part-write c.args.h.now o _ _ at _ c.in-Write-default.is-0
