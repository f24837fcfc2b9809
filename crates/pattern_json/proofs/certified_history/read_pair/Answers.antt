use Rattle.pattern_json.proofs.PairReading.{pair_there}
use Rattle.pattern_json.proofs.certified_history.read_pair.Goals as goal

pub returns-in-Ok-true-clause-read : goal.returns-in-Ok-true-clause-read
returns-in-Ok-true-clause-read c =
    let read = rw c.in-Ok-true.field-0-test at c.in-Ok-true.ensures.read in
    rw (c.pair_of-pair.ensures) (pair_there c.args.text.now read.0 c.gather_text-gathered.new.gathered read.1 read.2)
