use Rattle.pattern_search.specs.Steps.Drafts.{AreWritten}
use Rattle.pattern_search.proofs.search.derivations.write_raise.Given as goal

-- the lines of the raises so far are written
abbrev pub invariant-loop-at : goal.invariant-loop-at
invariant-loop-at l = AreWritten l.order l.op l.reasons l.needed.items l.at l.draft l.written.items
