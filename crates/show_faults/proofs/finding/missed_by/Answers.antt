use Rattle.std.proofs.Common.{arith}
use Rattle.show_faults.proofs.FoundParts.{missed-none, missed-some, missed-within}
use Rattle.show_faults.proofs.finding.missed_by.Goals as goal

pub operation_of-requires : goal.operation_of-requires
operation_of-requires c =
    missed-within c.args.index.now.history c.args.missed.now c.requires.missed c.args.operation c.requires.operation (omega arith)

pub returns-then-after-eq0 : goal.returns-then-after-eq0
returns-then-after-eq0 c o is_op at =
    missed-none c.args.index.now.history c.args.missed.now c.requires.missed o is_op c.args.operation at (omega arith)

pub returns : goal.returns
returns c o is_op at =
    missed-some c.args.index.now.history c.args.missed.now c.requires.missed o is_op c.args.operation at (omega arith)
    c.operation_of.result c.operation_of.ensures
