-- A fork whose value no known read returns may be left out, and so may a read whose return is unknown.
use Rattle.std.proofs.Common.{◌≡◌, ℕ, ap, sym, ◌∙◌, inl, inr, ⊎_elim}
use Rattle.std.specs.Prelude.{◌≢◌, ◌⊎◌, Some, None}
use Rattle.std.proofs.lemmas.Option.{same_Some}
use Rattle.model_objects.specs.declared.register.RegisterCall.TheVariants.{Write, Read}
use Rattle.model_objects.specs.declared.register.RegisterRet.TheVariants.{Done, Value}
use Rattle.model_history.specs.declared.op_id.OpId.{OpId}
use Rattle.model_history.specs.History.{entry}
use Rattle.order_causal.specs.Orders.{op}
use Rattle.order_causal.proofs.Items.{cases-op}
use Rattle.order_memory.specs.Memory.{MemoryCall, MemoryHistory, memory_answer, Reads}
use Rattle.cert_check.specs.declared.criterion.Criterion.{Criterion}
use Rattle.cert_check.specs.Criteria.{Meets}
use Rattle.log_events.specs.Histories.{Operation, write, read}
use Rattle.log_events.specs.Insertions.{IsInserted, IsUnread, IsFresh, IsForked}
use Rattle.log_events.proofs.CallOperations.{write-not_read}
use Rattle.log_events.proofs.InsertedOperations.{old_place, entry-inserted, entry-old_place}
use Rattle.log_events.proofs.UnreadOperations.{unread-left_out}

-- a known read of the longer history is the new operation, or is in the shorter one
reads-from : (h whole : MemoryHistory) (s i : ℕ) (e : Operation) → IsInserted h whole s i e → (r : OpId) (y u : ℕ) → Reads whole r y u
    → (e ≡ read y (Some (Value u))) ⊎ ((a : OpId) × Reads h a y u)
reads-from h whole s i e more r y u reads = ⊎_elim
    (λ (same : r ≡ op s i). inl (same_Some _ _ (sym (entry-inserted h whole s i e more) ∙ ap (entry whole) (sym same) ∙ reads)))
    (λ (apart : r ≢ op s i). inr (old_place s i r, entry-old_place h whole s i e more r apart ∙ reads))
    (cases-op r (op s i))

-- a fork is left out operation by operation: its write, then its read, and then the write of the mark
pub fork-left_out : (h whole : MemoryHistory) (s i t m x v : ℕ) → IsForked h whole s i t m x v → IsFresh h m → x ≢ m → IsUnread h (write x v None)
    → (criterion : Criterion) → Meets memory_answer whole criterion → Meets memory_answer h criterion
fork-left_out h whole s i t m x v forked fresh other unread criterion met =
    unread-left_out h forked.marked s i (write m 1 (Some Done)) forked.mark_written mark_unread criterion
    (unread-left_out forked.marked forked.joined t 0 (read m (Some (Value 1))) forked.mark_read read_unread criterion
    (unread-left_out forked.joined whole t 1 (write x v None) forked.value_written value_unread criterion met))
  where
    mark_unread : IsUnread forked.marked (write m 1 (Some Done))
    mark_unread r y u reads same = ⊎_elim
        (λ (new : write m 1 (Some Done) ≡ read y (Some (Value u))). write-not_read _ _ _ _ _ new)
        (λ (earlier : (a : OpId) × Reads h a y u). fresh.unused earlier.0 (read y (Some (Value u))) earlier.1 (sym (ap (λ (c : MemoryCall). c.key) same)))
        (reads-from h forked.marked s i (write m 1 (Some Done)) forked.mark_written r y u reads)

    read_unread : IsUnread forked.joined (read m (Some (Value 1)))
    read_unread r y u reads same = let call : Read ≡ Write u = ap (λ (c : MemoryCall). c.call) same in absurd cc

    value_unread : IsUnread whole (write x v None)
    value_unread r y u reads same = ⊎_elim
        (λ (new : write x v None ≡ read y (Some (Value u))). write-not_read _ _ _ _ _ new)
        (λ (first : (a : OpId) × Reads forked.joined a y u). ⊎_elim
        (λ (new : read m (Some (Value 1)) ≡ read y (Some (Value u))).
        other (ap (λ (c : MemoryCall). c.key) same ∙ sym (ap (λ (e : Operation). e.0.key) new)))
        (λ (second : (a : OpId) × Reads forked.marked a y u). ⊎_elim
        (λ (new : write m 1 (Some Done) ≡ read y (Some (Value u))). write-not_read _ _ _ _ _ new)
        (λ (earlier : (a : OpId) × Reads h a y u). unread earlier.0 y u earlier.1 same)
        (reads-from h forked.marked s i (write m 1 (Some Done)) forked.mark_written second.0 y u second.1))
        (reads-from forked.marked forked.joined t 0 (read m (Some (Value 1))) forked.mark_read first.0 y u first.1))
        (reads-from forked.joined whole t 1 (write x v None) forked.value_written r y u reads)

-- nobody reads what a read writes
pub open_read-left_out : (h whole : MemoryHistory) (s i x : ℕ) → IsInserted h whole s i (read x None)
    → (criterion : Criterion) → Meets memory_answer whole criterion → Meets memory_answer h criterion
open_read-left_out h whole s i x more = unread-left_out h whole s i (read x None) more
    (λ r y u reads same. let call : Read ≡ Write u = ap (λ (c : MemoryCall). c.call) same in absurd cc)
