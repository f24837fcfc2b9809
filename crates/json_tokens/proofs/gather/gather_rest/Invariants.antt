use Rattle.std.proofs.Common.{length}
use Rattle.json_tokens.proofs.Gathering.{IsGathering}
use Rattle.json_tokens.proofs.gather.gather_rest.Given as goal

abbrev pub invariant-elements : goal.invariant-elements
invariant-elements g l = IsGathering g.G.Gather.is_of g.G.Gather.refuses l.depth l.initial.reader l.reader l.gathered

abbrev pub decreases-elements : goal.decreases-elements
decreases-elements g l = length l.reader
