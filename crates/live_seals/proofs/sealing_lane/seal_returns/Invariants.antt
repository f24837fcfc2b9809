use Rattle.std.proofs.Common.{◌≡◌, ◌++◌, ◌<◌, ◌≤◌, ℕ, length}
use Rattle.std.specs.Prelude.{map, true}
use Rattle.live_seals.specs.Steps.Tables.{advice_shown, has_note}
use Rattle.live_seals.specs.Steps.Sealing.{AreReturnsRead}
use Rattle.live_seals.proofs.sealing_lane.seal_returns.Given as goal

abbrev pub invariant-loop-i : goal.invariant-loop-i
invariant-loop-i g l = record {
  many : length l.notes.list ≡ l.i;
  read : AreReturnsRead g.O.Recorded.fitting l.lane l.notes.list l.operations.items;
  advised : l.advice.items ≡ l.fn.advice.items ++ map advice_shown l.notes.list;
  found : (i : ℕ) → l.best.count ≤ i → i < l.i → has_note l.table.returns i ≡ true;
}
