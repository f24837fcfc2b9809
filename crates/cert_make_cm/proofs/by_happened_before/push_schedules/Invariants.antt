use Rattle.std.proofs.Common.{◌≡◌, Some}
use Rattle.order_causal.specs.Steps.Gathered.{AreGatheredUpTo}
use Rattle.order_memory.specs.Steps.HappenedBefores.{IsMade, session_of, taken_of, most_of, vectors_of}
use Rattle.cert_make_cm.specs.ByTurns.{TakesTurns}
use Rattle.cert_make_cm.specs.Steps.Started.{AreStarted}
use Rattle.cert_make_cm.proofs.by_happened_before.push_schedules.Given as goal

-- the operations so far are taken in and have their schedules
abbrev pub invariant-loop-index : goal.invariant-loop-index
invariant-loop-index l = record {
  so_far : AreGatheredUpTo l.order (TakesTurns l.order) l.session l.index l.schedules;
  made : IsMade l.order l.happened;
  session : session_of l.happened ≡ l.session;
  taken : taken_of l.happened ≡ l.index;
  most : most_of l.happened ≡ Some 100000;
  started : AreStarted (vectors_of l.happened) l.session l.index l.turns.walk l.turns.starts.items;
}
