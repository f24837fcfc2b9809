use Rattle.std.specs.Prelude.{◌≡◌, ◌≤◌, ◌+◌, length, take}
use Rattle.order_causal.specs.Orders.{op}
use Rattle.order_memory.specs.Steps.Written.{ListsWritesBefore}
use Rattle.order_memory.proofs.placed_writes.place_session.Given as goal

-- the writes so far are listed
abbrev pub invariant-loop-index : goal.invariant-loop-index
invariant-loop-index l = record {
  places : length l.places ≡ length l.fn.places;
  within : l.count ≤ l.before + l.index;
  listed : ListsWritesBefore l.h (op l.session l.index) (take l.count l.places);
}
