use Rattle.std.proofs.Common.{◌≡◌, ◌+◌, ◌++◌, ◌<◌, ◌≤◌, ℕ, length}
use Rattle.std.specs.Prelude.{map, true}
use Rattle.live_seals.specs.Steps.Tables.{has_note, no_advice}
use Rattle.live_seals.specs.Steps.Sealing.{AreCallsRead}
use Rattle.live_seals.proofs.sealing_lane.seal_calls.Given as goal

abbrev pub invariant-loop-i : goal.invariant-loop-i
invariant-loop-i g l = record {
  many : length l.fn.operations.items + length l.notes.list ≡ l.i;
  read : AreCallsRead l.lane l.fn.operations.items l.notes.list l.operations.items;
  advised : l.advice.items ≡ l.fn.advice.items ++ map no_advice l.notes.list;
  found : (i : ℕ) → length l.fn.operations.items ≤ i → i < l.i → has_note l.table.calls i ≡ true;
}
