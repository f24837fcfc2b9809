use Rattle.std.specs.Prelude.{[]}
use Rattle.show_faults.proofs.counts.SessionFaults.of.Goals as goal

pub returns-clause-counts : goal.returns-clause-counts
returns-clause-counts c = c.add.ensures [] c.none-counts.ensures
