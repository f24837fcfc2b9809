use Rattle.std.specs.Prelude.{◌≡◌, ◌≤◌, ◌*◌, length, take}
use Rattle.order_causal.specs.Orders.{op}
use Rattle.order_memory.specs.Steps.Written.{ListsWritesBefore}
use Rattle.order_memory.proofs.placed_writes.place_writes.Given as goal

-- the writes of the sessions so far are listed
abbrev pub invariant-loop-session : goal.invariant-loop-session
invariant-loop-session l = record {
  room : length l.places ≡ 4096;
  within : l.count ≤ 256 * l.session;
  listed : ListsWritesBefore l.h (op l.session 0) (take l.count l.places);
}
