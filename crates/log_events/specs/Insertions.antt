-- Histories that have an operation more than another, or a fork more.
use Rattle.std.specs.Prelude.{◌≡◌, ◌≢◌, ℕ, ◌≤◌, Some, None, length, insert}
use Rattle.model_objects.specs.declared.register.RegisterCall.TheVariants.{Write}
use Rattle.model_objects.specs.declared.register.RegisterRet.TheVariants.{Done, Value}
use Rattle.model_history.specs.declared.op_id.OpId.{OpId}
use Rattle.model_history.specs.History.{session, entry}
use Rattle.order_memory.specs.Memory.{MemoryHistory, Reads}
use Rattle.log_events.specs.Histories.{Operation, write, read}

-- the session s of whole has one operation more than that of h, at the place i, and all else is the same
pub record IsInserted (h whole : MemoryHistory) (s i : ℕ) (e : Operation) : Type 0 where
  pub start : whole.0 ≡ h.0
  pub inside : i ≤ length (session h s)
  pub here : session whole s ≡ insert (session h s) i e
  pub others : (t : ℕ) → t ≢ s → session whole t ≡ session h t

-- no known read of the history returns what the operation writes
abbrev pub IsUnread : MemoryHistory → Operation → Type 0
IsUnread h e = (r : OpId) (x v : ℕ) → Reads h r x v → e.0 ≢ record { key = x; call = Write v }

-- no operation of the history names the variable m
pub record IsFresh (h : MemoryHistory) (m : ℕ) : Type 0 where
  pub unused : (a : OpId) (e : Operation) → entry h a ≡ Some e → e.0.key ≢ m

-- whole is h with a fork: at the place i of the session s a mark m is written, and a session t of its own reads the mark and then
-- writes v to x, with an unknown return
pub record IsForked (h whole : MemoryHistory) (s i t m x v : ℕ) : Type 0 where
  pub marked : MemoryHistory
  pub joined : MemoryHistory
  pub apart : s ≢ t
  pub alone : length (session h t) ≡ 0
  pub mark_written : IsInserted h marked s i (write m 1 (Some Done))
  pub mark_read : IsInserted marked joined t 0 (read m (Some (Value 1)))
  pub value_written : IsInserted joined whole t 1 (write x v None)
