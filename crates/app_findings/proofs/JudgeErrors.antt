-- By a number of workers that may be, a judgement fails for want of memory alone.
use Rattle.std.proofs.Common.{◌≡◌, ℕ, refl}
use Rattle.cert_check.specs.declared.desk_error.DeskError.{DeskError}
use Rattle.cert_check.specs.declared.desk_error.DeskError.TheVariants.{Memory, ShapeMismatch, BadWorkers, Full, NotThatPattern, Doubled, Stranger, NoSuch}
use Rattle.app_judging.specs.Judgements.{IsJudgeError}
use Rattle.judge_workers.specs.Workers.{AreWorkers}

pub memory_alone : (workers : ℕ) (e : DeskError) → AreWorkers workers → IsJudgeError workers e → e ≡ Memory
memory_alone workers Memory may error = refl
memory_alone workers BadWorkers may error = absurd (error may)
memory_alone workers ShapeMismatch may error = absurd error
memory_alone workers Full may error = absurd error
memory_alone workers NotThatPattern may error = absurd error
memory_alone workers Doubled may error = absurd error
memory_alone workers Stranger may error = absurd error
memory_alone workers NoSuch may error = absurd error
