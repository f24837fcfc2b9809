use Rattle.std.specs.Prelude.{◌≡◌, ◌≤◌, length}
use Rattle.show_faults.specs.Found.{IsTallyBelow}
use Rattle.show_faults.proofs.finding.tally.Given as goal

abbrev pub invariant-loop-operation : goal.invariant-loop-operation
invariant-loop-operation g l = record {
  sessions : l.faults.sessions ≡ length l.index.history.1;
  cycle : l.faults.has_cycle ≡ l.has_cycle;
  few_broken : length l.faults.broken.listed.items ≤ l.most;
  tally : IsTallyBelow l.index.history l.operation l.most l.faults.listed.items l.faults.counts l.faults.by_session.items;
}
