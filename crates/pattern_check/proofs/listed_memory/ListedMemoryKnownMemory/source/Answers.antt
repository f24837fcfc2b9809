use Rattle.pattern_check.proofs.Distinct.{reads-from_listed}
use Rattle.pattern_check.proofs.listed_memory.ListedMemoryKnownMemory.source.Goals as goal

pub returns : goal.returns
returns c =
    rw (← c.self.view_is) (reads-from_listed c.self.inside.history.now c.self.invariant.differentiated c.args.read c.found_source.result c.found_source.ensures)
