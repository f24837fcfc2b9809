-- What is known of an operation, by its call and its return.
use Rattle.std.specs.Prelude.{◌≡◌, ℕ, ◌+◌, ◌<◌, List, Option, Some, length, option_map, slice_index_or}
use Rattle.std.proofs.Common.{arith, ap, refl, ◌∙◌}
use Rattle.model_objects.specs.declared.register.RegisterCall.TheVariants.{Write}
use Rattle.model_objects.specs.declared.register.RegisterRet.{RegisterRet}
use Rattle.model_history.specs.declared.op_id.OpId.{OpId}
use Rattle.model_history.specs.History.{IsOp, entry, many_before, number}
use Rattle.order_causal.proofs.OrdersLaws.{session-of_history}
use Rattle.order_memory.specs.declared.writes.Write.{Write as WriteEntry}
use Rattle.order_memory.specs.Memory.{MemoryCall, MemoryHistory, initial, Reads}
use Rattle.order_memory.specs.Steps.Written.{LacksWrite}
use Rattle.order_memory.proofs.MemoryLaws.{write-of_history}
use Rattle.judge_memory.specs.Steps.{many}
use Rattle.judge_memory.proofs.Numbers.{number-all, number-below}
use Rattle.judge_memory.specs.declared.part.Part.TheVariants as parts
use Rattle.judge_memory.specs.Lists.{ListsStarts}
use Rattle.judge_memory.specs.Parts.{IsPart}
use Rattle.judge_memory.specs.Writes.{IsWriter, ListsSortedWrites}

module _ (h : MemoryHistory) (o : OpId) where
  pub part-write : (c : MemoryCall) (r : Option RegisterRet) → entry h o ≡ Some (c, r) → (v : ℕ) → c.call ≡ Write v → IsPart h o parts.Write
  part-write c r at v is = (
    c.key,
    v,
    ap (option_map (λ (e : MemoryCall × Option RegisterRet). e.0)) at ∙ (λ j. Some (record { key = c.key; call = is j })),
  )

  module _ (x v : ℕ) (reads : Reads h o x v) (writes : List WriteEntry) (lists : ListsSortedWrites h writes)
      (apart : v ≡ initial h x → ⊥) where
    pub part-thin_air : LacksWrite writes x v → IsPart h o parts.ThinAirRead
    part-thin_air none =
        (x, v, reads, apart, λ w wrote. none (record { op = w; key = x; value = v }) (lists.lists.each w x v wrote) refl refl)

    pub part-sourced : (w : OpId) (n : ℕ) → IsWriter writes x v w → number h w ≡ n → IsPart h o (parts.SourcedRead n)
    part-sourced w n written at = (w, (x, v, lists.lists.no_other _ written, reads, apart), at)

  -- a source has the number of an operation
  pub source-below : (n : ℕ) → IsPart h o (parts.SourcedRead n) → n < many h
  source-below n (w, from, at) =
      let below = number-all h w (write-of_history h w from.0 from.1 from.2) in
      omega arith

module _ (h : MemoryHistory) (writes : List WriteEntry) (lists : ListsSortedWrites h writes) (x v : ℕ) (w : OpId)
    (written : IsWriter writes x v w) where
  -- the writer is an operation of the history
  pub writer-of_history : IsOp h w
  writer-of_history = write-of_history h w x v (lists.lists.no_other _ written)

  module _ (starts : List ℕ) (numbers : ListsStarts h (length h.1) starts) (s i : ℕ) (of_session : s ≡ w.session) (at : i ≡ w.index) where
    pub writer-session : s + 1 < length starts
    writer-session =
        let below = session-of_history h w writer-of_history in
        let count = numbers.count in
        omega arith

    -- its number is that of the first operation of its session and its index
    pub writer-number : number h w ≡ slice_index_or starts s 0 + i
    writer-number =
        let below = session-of_history h w writer-of_history in
        let same = ap (many_before h) of_session in
        let start = numbers.start s (omega arith) in
        omega arith

    pub writer-below : slice_index_or starts s 0 + i < slice_index_or starts (s + 1) 0
    writer-below =
        let below = session-of_history h w writer-of_history in
        let inside = number-below h w writer-of_history in
        let next = ap (λ (t : ℕ). many_before h (t + 1)) of_session in
        let end = numbers.start (s + 1) (omega arith) in
        let number = writer-number in
        omega arith
