-- What a search of the happened-before relation of an operation finds, and what it excludes.
use Rattle.std.proofs.Common.{◌≡◌, ℕ, ◌+◌, ◌<◌, ◌≤◌, List, length, inl, inr, ⊎_elim, refl, arith, ap, sym, ◌∙◌, subst, eq-or-lt_of_le}
use Rattle.std.specs.Prelude.{Contains, IsTrue, None, Option, Some, false, is_some, slice_get}
use Rattle.std.proofs.lemmas.Option.{slice_get-get_or}
use Rattle.std.proofs.lemmas.Bool.{cases_lt}
use Rattle.std.proofs.lemmas.List.{get_or_past}
use Rattle.model_history.specs.declared.op_id.OpId.{OpId}
use Rattle.model_history.specs.History.{IsOp}
use Rattle.order_memory.specs.declared.growing_order.Raise.{Raise}
use Rattle.order_memory.specs.declared.known_reads.KnownRead.{KnownRead}
use Rattle.order_memory.specs.Memory.{MemoryHistory, initial, Writes, Reads, IsDifferentiated}
use Rattle.order_causal.specs.Orders.{op, program_past}
use Rattle.order_memory.specs.Relations.{CO, HB, IsPast}
use Rattle.order_memory.specs.SourceOrder.{LacksSource, SourceOrder}
use Rattle.order_memory.specs.Steps.Indexed.{HasNoWriteBefore, IsKnownRead, IsLastWriteBefore, IsSourceIfAny, IsSourcePast, ListsReads}
use Rattle.order_causal.specs.Vectors.{Counts, count, list_of}
use Rattle.order_memory.proofs.FirstWrites.{CO-by_sources, CO-from_sources}
use Rattle.order_memory.proofs.HappenedBeforeLaws.{HB-inside, past-of_history, past-program}
use Rattle.order_memory.proofs.IndexedLaws.{if_any-source, if_any-unique}
use Rattle.order_memory.proofs.MemoryLaws.{same_read}
use Rattle.order_causal.proofs.OrdersLaws.{same_op, session-of_history}
use Rattle.pattern_search.specs.Steps.Relations.{HasNoStart, IsRelation, IsStartOverwritten, IsWriteHappened}

-- where an element of a list is
at-place : {X : Type 0} (xs : List X) (x : X) → (inside : Contains xs x) → slice_get xs inside.0 ≡ Some x
at-place xs x inside = slice_get-get_or xs inside.0 x inside.1 ∙ ap (λ y. Some y) inside.2

-- what is not there is nothing
pub none-from : {X : Type 0} (e : Option X) → is_some e ≡ false → e ≡ None
none-from None absent = refl
none-from (Some x) absent = absurd cc

module _ (h : MemoryHistory) (relation : OpId × Counts × List Raise) (is : IsRelation h relation) where
  abbrev o : OpId
  o = relation.0

  abbrev v : Counts
  v = relation.1

  module _ (k : KnownRead) (kept : IsTrue (program_past o k.op)) where
    read-past : IsPast h o k.op
    read-past = past-program h o k.op is.is_op kept

    happened-counted : (w : OpId) → IsWriteHappened h o k w → w.index < count v k.op w.session
    happened-counted w found = (is.counts.exact w k.op read-past).1 found.before

    -- the last write of a session is found
    pub happened-found : (s : ℕ) (w : OpId) → k.source ≡ None → IsLastWriteBefore h k.key (op s (count v k.op s)) w → IsWriteHappened h o k w
    happened-found s w initially last = record {
      initially = initially;
      value = last.value;
      writes = last.writes;
      kept = kept;
      before = (is.counts.exact w k.op read-past).0 (subst (λ (t : ℕ). w.index < count v k.op t) (sym last.session) last.before);
    }

    -- one session more that has no such write
    pub happened-more : (s : ℕ) → ((w : OpId) → w.session < s → ¬ IsWriteHappened h o k w) → HasNoWriteBefore h k.key (op s (count v k.op s))
        → (w : OpId) → w.session < s + 1 → ¬ IsWriteHappened h o k w
    happened-more s none here w below found = ⊎_elim
        (λ (same : w.session ≡ s).
        here w.index found.value (subst (λ (t : ℕ). w.index < count v k.op t) same (happened-counted w found))
        (subst (λ (x : OpId). Writes h x k.key found.value) (same_op w (op s w.index) same refl) found.writes))
        (λ (earlier : w.session < s). none w earlier found)
        (let up_to : w.session ≤ s = omega arith in eq-or-lt_of_le up_to)

    pub happened-ended : (n : ℕ) → length h.1 ≤ n → ((w : OpId) → w.session < n → ¬ IsWriteHappened h o k w) → (w : OpId) → ¬ IsWriteHappened h o k w
    happened-ended n ended none w found = ⊎_elim
        (λ (below : w.session < length h.1). none w (omega arith) found)
        (λ (past : length h.1 ≤ w.session).
        let size = is.counts.held.vectors.counts k.op (past-of_history h o k.op is.is_op read-past) in
        let nothing : count v k.op w.session ≡ 0 = get_or_past (list_of v k.op) w.session 0 (omega arith) in
        let counted = happened-counted w found in
        absurd (omega arith))
        (cases_lt w.session (length h.1))

  -- a read without a source that has such a write before it
  pub happened-start : ¬ LacksSource h → (k : KnownRead) → IsKnownRead h k → (w : OpId) → IsWriteHappened h o k w → IsStartOverwritten h o w k.op
  happened-start present k known w found =
      let source : IsSourceIfAny h k.op None = subst (λ (e : Option OpId). IsSourceIfAny h k.op e) found.initially known.source in
      let value = if_any-source h present k.op None source k.key known.value known.reads in
      (k.key, found.value, found.writes, subst (λ (u : ℕ). Reads h k.op k.key u) value known.reads, found.kept, found.before)

  -- where no known read has such a write, no read of an initial value has one
  pub no-happened : (reads : List KnownRead) → ListsReads h reads
      → ((i : ℕ) (k : KnownRead) (w : OpId) → slice_get reads i ≡ Some k → ¬ IsWriteHappened h o k w) → HasNoStart h o
  no-happened reads lists none w r (x, u, writes, reads_initial, kept, before) =
      let entry = lists.each r x (initial h x) reads_initial in
      let k = entry.0 in
      let known = lists.no_other k entry.1 in
      let here : Reads h r k.key known.value = subst (λ (p : OpId). Reads h p k.key known.value) entry.2 known.reads in
      let same = same_read h r x (initial h x) k.key known.value reads_initial here in
      let no_source : IsSourceIfAny h k.op None = λ a from.
      let there : Reads h r from.0 from.1 = subst (λ (p : OpId). Reads h p from.0 from.1) entry.2 from.3 in
      let also = same_read h r x (initial h x) from.0 from.1 reads_initial there in
      from.4 (sym also.1 ∙ ap (initial h) also.0) in
      none entry.1.0 k w (at-place reads k entry.1) (record {
        initially = if_any-unique h k.op k.source None known.source no_source;
        value = u;
        writes = subst (λ (y : ℕ). Writes h w y u) same.0 writes;
        kept = subst (λ (p : OpId). IsTrue (program_past o p)) (sym entry.2) kept;
        before = subst (λ (p : OpId). HB h o w p) (sym entry.2) before;
      })

  module _ (distinct : IsDifferentiated h) where
    -- an operation of the past whose vector counts it is before itself, and no other operation is
    pub itself-happened : (a : OpId) → IsSourcePast h o a → a.index < count v a a.session → HB h o a a
    itself-happened a past counted =
        let in_past : IsPast h o a = ⊎_elim
        (λ (same : a ≡ o). inl same)
        (λ (before : SourceOrder h a o). inr (CO-from_sources h a o before))
        past.1 in
        (is.counts.exact a a in_past).0 counted

    pub happened-itself : (a : OpId) → HB h o a a → IsSourcePast h o a × (a.index < count v a a.session)
    happened-itself a before =
        let in_past = (HB-inside h is.causal is.order distinct o is.is_op a a before).0 in (
          (
            is.is_op,
            ⊎_elim
                (λ (same : a ≡ o). inl same)
                (λ (leads : CO h a o). inr (CO-by_sources h distinct a o leads))
                in_past,
          ),
          (is.counts.exact a a in_past).1 before,
        )

    -- only operations of the history are before themselves
    pub itself-of_history : (a : OpId) → HB h o a a → IsOp h a
    itself-of_history a before = past-of_history h o a is.is_op (HB-inside h is.causal is.order distinct o is.is_op a a before).0

    pub itself-session : (a : OpId) → HB h o a a → a.session < length h.1
    itself-session a before = session-of_history h a (itself-of_history a before)
