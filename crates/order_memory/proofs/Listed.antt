-- Lists of writes, gathered operation by operation.
use Rattle.std.proofs.Common.{◌≡◌, ℕ, ◌+◌, ◌<◌, ◌≤◌, List, [], ◌∷◌, ◌++◌, length, get_or, ap, sym, ◌∙◌, subst}
use Rattle.std.specs.Prelude.{Option, Some, option_map, slice_get, IsPermutation}
use Rattle.std.proofs.lemmas.Option.{slice_get-get_or, same_Some}
use Rattle.std.proofs.lemmas.List.Sorted.{Contains-permutation, IsPermutation-sym}
use Rattle.model_history.specs.declared.op_id.OpId.{OpId}
use Rattle.model_history.specs.History.{IsOp, session, entry}
use Rattle.order_memory.specs.declared.writes.Write.{Write as WriteEntry}
use Rattle.model_objects.specs.declared.register.RegisterCall.TheVariants.{Write}
use Rattle.model_objects.specs.declared.register.RegisterRet.{RegisterRet}
use Rattle.order_memory.specs.Memory.{MemoryCall, MemoryHistory, Writes}
use Rattle.order_memory.proofs.MemoryLaws.{same_written, write-of_history}
use Rattle.order_causal.specs.Orders.{op}
use Rattle.order_memory.proofs.ListedLaws.{listed-item, listed-none, listed-session, listed-end}
use Rattle.order_memory.specs.Steps.Written.{ListsWrites, ListsWritesBefore}

module _ (h : MemoryHistory) where
  -- the entry of a write
  abbrev pub entry_of : ℕ → ℕ → ℕ → ℕ → WriteEntry
  entry_of s i x v = record { op = op s i; key = x; value = v }

  -- a write has one entry
  one_entry : (s i x v : ℕ) → Writes h (op s i) x v → (w : WriteEntry) → Writes h w.op w.key w.value → w.op ≡ op s i → entry_of s i x v ≡ w
  one_entry s i x v this w wrote here =
      let same = same_written h (op s i) x v w.key w.value this (subst (λ (b : OpId). Writes h b w.key w.value) here wrote) in
      λ j. record { op = sym here j; key = same.0 j; value = same.1 j }

  -- one write more
  pub ListsWritesBefore-write : (s i x v : ℕ) (writes : List WriteEntry) → Writes h (op s i) x v → ListsWritesBefore h (op s i) writes
      → ListsWritesBefore h (op s (i + 1)) (writes ++ entry_of s i x v ∷ [])
  ListsWritesBefore-write s i x v writes this before =
      listed-item _ _ s i (entry_of s i x v) writes this (one_entry s i x v this) before

  -- one operation more that is no write
  pub ListsWritesBefore-other : (s i : ℕ) (writes : List WriteEntry) → ((x v : ℕ) → Writes h (op s i) x v → ⊥) → ListsWritesBefore h (op s i) writes
      → ListsWritesBefore h (op s (i + 1)) writes
  ListsWritesBefore-other s i writes no_write before =
      listed-none _ _ s i writes (λ w wrote here. no_write w.key w.value (subst (λ (b : OpId). Writes h b w.key w.value) here wrote)) before

  of_history : (w : WriteEntry) → Writes h w.op w.key w.value → IsOp h w.op
  of_history w wrote = write-of_history h w.op w.key w.value wrote

  -- the end of a session
  pub ListsWritesBefore-session : (s i : ℕ) (writes : List WriteEntry) → length (session h s) ≤ i → ListsWritesBefore h (op s i) writes
      → ListsWritesBefore h (op (s + 1) 0) writes
  ListsWritesBefore-session s i writes ended before = listed-session _ _ h of_history s i writes ended before

  -- the end of the last session
  pub ListsWrites-end : (s : ℕ) (writes : List WriteEntry) → length h.1 ≤ s → ListsWritesBefore h (op s 0) writes → ListsWrites h writes
  ListsWrites-end s writes ended before = record {
    each = λ a y u wrote. listed-end _ _ h of_history s writes ended before (record { op = a; key = y; value = u }) wrote;
    no_other = before.no_other;
  }

  pub ListsWrites-permutation : (before after : List WriteEntry) → IsPermutation before after → ListsWrites h before → ListsWrites h after
  ListsWrites-permutation before after moved lists = record {
    each = λ a y u wrote. Contains-permutation before after _ moved (lists.each a y u wrote);
    no_other = λ w inside. lists.no_other w (Contains-permutation after before w (IsPermutation-sym before after moved) inside);
  }

  module _ (es : List (MemoryCall × Option RegisterRet)) (s i : ℕ) (d : MemoryCall × Option RegisterRet)
      (read : es ≡ session h s) (below : i < length es) where
    entry-read : entry h (op s i) ≡ Some (get_or es i d)
    entry-read = ap (λ (xs : List (MemoryCall × Option RegisterRet)). slice_get xs i) (sym read) ∙ slice_get-get_or es i d below

    -- a write that stands in a session
    pub Writes-read : (v : ℕ) → (get_or es i d).0.call ≡ Write v → Writes h (op s i) (get_or es i d).0.key v
    Writes-read v e = ap (option_map (λ (p : MemoryCall × Option RegisterRet). p.0)) entry-read
        ∙ (λ j. Some (record { key = (get_or es i d).0.key; call = e j }))

    -- another call that stands in a session
    pub no_write-read : ((v : ℕ) → (get_or es i d).0.call ≡ Write v → ⊥) → (x v : ℕ) → Writes h (op s i) x v → ⊥
    no_write-read other x v writes =
        let same = same_Some _ _ (sym (ap (option_map (λ (p : MemoryCall × Option RegisterRet). p.0)) entry-read) ∙ writes) in
        other v (ap (λ (c : MemoryCall). c.call) same)
