use Rattle.std.proofs.Common.{refl}
use Rattle.judge_columns.proofs.Bits.{some-bit}
use Rattle.judge_columns.proofs.words.has_some.Goals as goal

pub returns-else-word-eq0 : goal.returns-else-word-eq0
returns-else-word-eq0 c = ((λ yes. some-bit c.args.word c.if-word-eq0.false c.ranges.word.fits), λ some. refl)
