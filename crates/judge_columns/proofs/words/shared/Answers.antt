use Rattle.judge_columns.proofs.Bits.{and-both}
use Rattle.judge_columns.proofs.words.shared.Goals as goal

pub returns : goal.returns
returns c = and-both c.args.a c.args.b
