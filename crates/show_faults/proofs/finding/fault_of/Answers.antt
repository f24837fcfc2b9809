use Rattle.show_faults.proofs.FoundParts.{found-read, found-start}
use Rattle.show_faults.proofs.finding.fault_of.Goals as goal

pub returns-in-Some : goal.returns-in-Some
returns-in-Some c o is_op at =
    let source = c.in-Some.ensures.source o is_op at in
    found-read c.args.index.now.history o c.value_is_indexed.ensures.distinct c.operation_of-read.result c.operation_of.result
    c.in_ok-write.write source.0 (c.operation_of-read.ensures o is_op at) (c.operation_of.ensures source.0 source.1 source.3) source.2
    (c.in_ok-write.ensures o is_op at)

pub returns-in-None : goal.returns-in-None
returns-in-None c o is_op at =
    found-start c.args.index.now.history o c.operation_of-read.result c.in_ok-write.write (c.operation_of-read.ensures o is_op at)
    (c.in-None.ensures.source o is_op at) (c.in_ok-write.ensures o is_op at)
