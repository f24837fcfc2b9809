-- The shape of the history of a log.
use Rattle.std.specs.Prelude.{◌≡◌, ◌≢◌, ℕ, ◌<◌, ◌^◌, true, List, All, Option, Some, None, slice_get}
use Rattle.model_objects.specs.Register.{matches}
use Rattle.model_objects.specs.Table.{IsRising}
use Rattle.model_objects.specs.declared.register.RegisterRet.{RegisterRet}
use Rattle.model_history.specs.declared.op_id.OpId.{OpId}
use Rattle.model_history.specs.History.{Precedes, session, entry}
use Rattle.order_memory.specs.Memory.{MemoryCall, MemoryHistory}
use Rattle.log_events.specs.declared.event.ClientCall.{ClientCall}
use Rattle.log_events.specs.declared.event.ClientCall.TheVariants.{WriteTo, ReadOf, DeleteOf}
use Rattle.log_events.specs.declared.event.Event.{Event}
use Rattle.log_events.specs.declared.event.Event.TheVariants.{Starts, Begins}
use Rattle.log_events.specs.Events.{IsAt}

-- the start has keys that rise, each with a value that is not 0; each known return fits its call; and in each session the known
-- returns come first
pub record IsShaped (h : MemoryHistory) : Type 0 where
  pub rising : IsRising h.0
  pub not_plain : All (λ entry. entry.1 ≢ 0) h.0
  pub fitting : (o : OpId) (c : MemoryCall) (r : RegisterRet) → entry h o ≡ Some (c, Some r) → matches c.call r ≡ true
  pub known_first : (a b : OpId) (c d : MemoryCall) (r : RegisterRet) → Precedes a b → entry h a ≡ Some (c, None)
      → ¬ (entry h b ≡ Some (d, Some r))

-- the key that a call names
abbrev pub called_key : ClientCall → ℕ
called_key (WriteTo x v) = x
called_key (ReadOf x) = x
called_key (DeleteOf x) = x

-- the keys that the events name are below 2^31
pub record NamesSmallKeys (es : List Event) : Type 0 where
  pub starts : (i x v : ℕ) → IsAt es i (Starts x v) → x < 2 ^ 31
  pub calls : (i client : ℕ) (call : ClientCall) → IsAt es i (Begins client call) → called_key call < 2 ^ 31

-- the keys of a history, in its start and in its operations, are below 2^32
pub record HasSmallKeys (h : MemoryHistory) : Type 0 where
  pub start : All (λ entry. entry.0 < 2 ^ 32) h.0
  pub calls : (s i : ℕ) (c : MemoryCall) (known : Option RegisterRet) → slice_get (session h s) i ≡ Some (c, known) → c.key < 2 ^ 32
