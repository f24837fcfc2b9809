use Rattle.std.proofs.Common.{arith}
use Rattle.json_bounded.proofs.Stopping.{nothing_whole}
use Rattle.json_bounded.proofs.read.read_whole.Goals as goal

pub returns-in_default-clause-refused : goal.returns-in_default-clause-refused
returns-in_default-clause-refused g c = nothing_whole c.args.text.now (grind arith)
