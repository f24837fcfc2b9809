use Rattle.judge_columns.proofs.Bits.{and-not}
use Rattle.judge_columns.proofs.words.without.Goals as goal

pub returns : goal.returns
returns c k = and-not c.args.a c.args.b k c.ranges.b.fits
