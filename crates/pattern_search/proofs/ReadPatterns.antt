-- What a search for known reads that come too late finds, and what it excludes.
use Rattle.std.proofs.Common.{◌≡◌, ℕ, ◌+◌, ◌<◌, ◌≤◌, List, length, inl, inr, ⊎_elim, refl, arith, ap, sym, ◌∙◌, subst, eq-or-lt_of_le}
use Rattle.std.specs.Prelude.{◌≢◌, Option, Some, None, slice_get}
use Rattle.std.proofs.lemmas.Option.{same_Some}
use Rattle.model_history.specs.declared.op_id.OpId.{OpId}
use Rattle.model_history.specs.History.{IsOp}
use Rattle.order_memory.specs.declared.known_reads.KnownRead.{KnownRead}
use Rattle.order_memory.specs.Memory.{MemoryHistory, initial, Writes, Reads, IsDifferentiated}
use Rattle.order_causal.specs.Orders.{op}
use Rattle.order_memory.specs.OverwrittenReads.{HasOverwrittenRead, HasOverwrittenStart}
use Rattle.order_memory.specs.Relations.{ReadsFrom}
use Rattle.order_memory.specs.SourceOrder.{IsSourceEdge, LacksSource, SourceOrder}
use Rattle.order_memory.specs.Steps.Indexed.{HasNoWriteOfPast, IsKnownRead, IsLastWriteOfPast, IsSourceIfAny, IsSourcePast, ListsReads}
use Rattle.order_memory.proofs.CausalOrders.{later-of_history}
use Rattle.order_memory.proofs.Elements.{at-listed}
use Rattle.order_memory.proofs.FirstWrites.{CO-by_sources, distinct-source}
use Rattle.order_memory.proofs.GrowingOrdersLaws.{SourceOrder-of_history}
use Rattle.order_memory.proofs.IndexedLaws.{if_any-source, if_any-unique}
use Rattle.order_memory.proofs.MemoryLaws.{same_read, same_written, write-or_read}
use Rattle.order_causal.proofs.OrdersLaws.{same_op, session-of_history}
use Rattle.order_causal.proofs.PathsLaws.{leads-last}
use Rattle.pattern_check.specs.Paths.{GoesFrom}
use Rattle.pattern_check.specs.Patterns.{ArePathsToOverwrittenRead, IsPathToInitialRead}
use Rattle.pattern_search.specs.Steps.Routes.{AreWritesBefore, IsWriteBefore}

module _ (h : MemoryHistory) where
  -- what comes before an operation is in its past
  pub past-from_before : (a b : OpId) → SourceOrder h a b → IsSourcePast h b a
  past-from_before a b before = (later-of_history h a b before, inr before)

  -- what comes before an operation, by its session and its index
  past-at : (s : ℕ) (w o : OpId) → w.session ≡ s → SourceOrder h w o → IsSourcePast h o (op s w.index)
  past-at s w o same before = (
    later-of_history h w o before,
    inr (subst (λ (x : OpId). SourceOrder h x o) (same_op w (op s w.index) same refl) before),
  )

  write-at : (s x v : ℕ) (w : OpId) → w.session ≡ s → Writes h w x v → Writes h (op s w.index) x v
  write-at s x v w same wrote = subst (λ (a : OpId). Writes h a x v) (same_op w (op s w.index) same refl) wrote

  module _ (k : KnownRead) (known : IsKnownRead h k) where
    last-before_read : (s : ℕ) (w : OpId) → IsLastWriteOfPast h k.key s k.op w → SourceOrder h w k.op
    last-before_read s w last = ⊎_elim
        (λ (same : w ≡ k.op). absurd (write-or_read h w k.op k.key last.value k.key known.value last.writes known.reads same))
        (λ (before : SourceOrder h w k.op). before)
        last.past.1

    -- the last write of a session is found
    pub write-found : (s : ℕ) (w : OpId) → k.source ≡ None → IsLastWriteOfPast h k.key s k.op w → IsWriteBefore h k w
    write-found s w initially last = record {
      initially = initially;
      value = last.value;
      writes = last.writes;
      before = last-before_read s w last;
    }

    pub pair-found : (s : ℕ) (a w : OpId) → k.source ≡ Some a → a ≢ w → SourceOrder h a w → IsLastWriteOfPast h k.key s k.op w → AreWritesBefore h k a w
    pair-found s a w source apart behind last = record {
      source = source;
      apart = apart;
      value = last.value;
      writes = last.writes;
      behind = behind;
      before = last-before_read s w last;
    }

  module _ (k : KnownRead) where
    last-of_history : (s : ℕ) (w : OpId) → IsLastWriteOfPast h k.key s k.op w → IsOp h w
    last-of_history s w last = ⊎_elim
        (λ (same : w ≡ k.op). subst (λ (x : OpId). IsOp h x) (sym same) last.past.0)
        (λ (before : SourceOrder h w k.op). SourceOrder-of_history h w k.op before)
        last.past.1

    -- one session more that has no such write
    pub write-more : (s : ℕ) → ((w : OpId) → w.session < s → ¬ IsWriteBefore h k w) → HasNoWriteOfPast h k.key s k.op
        → (w : OpId) → w.session < s + 1 → ¬ IsWriteBefore h k w
    write-more s none here w below found = ⊎_elim
        (λ (same : w.session ≡ s). here w.index found.value (past-at s w k.op same found.before) (write-at s k.key found.value w same found.writes))
        (λ (earlier : w.session < s). none w earlier found)
        (let up_to : w.session ≤ s = omega arith in eq-or-lt_of_le up_to)

    pub write-ended : (n : ℕ) → length h.1 ≤ n → ((w : OpId) → w.session < n → ¬ IsWriteBefore h k w) → (w : OpId) → ¬ IsWriteBefore h k w
    write-ended n ended none w found =
        let below = session-of_history h w (SourceOrder-of_history h w k.op found.before) in
        none w (omega arith) found

    pub pair-more : (s : ℕ) → ((a b : OpId) → b.session < s → ¬ AreWritesBefore h k a b) → HasNoWriteOfPast h k.key s k.op
        → (a b : OpId) → b.session < s + 1 → ¬ AreWritesBefore h k a b
    pair-more s none here a b below found = ⊎_elim
        (λ (same : b.session ≡ s). here b.index found.value (past-at s b k.op same found.before) (write-at s k.key found.value b same found.writes))
        (λ (earlier : b.session < s). none a b earlier found)
        (let up_to : b.session ≤ s = omega arith in eq-or-lt_of_le up_to)

    -- one session more of which the last write does not come behind the source
    pub pair-last : (s : ℕ) (e w : OpId) → ((a b : OpId) → b.session < s → ¬ AreWritesBefore h k a b) → k.source ≡ Some e
        → IsLastWriteOfPast h k.key s k.op w → ¬ SourceOrder h e w
        → (a b : OpId) → b.session < s + 1 → ¬ AreWritesBefore h k a b
    pair-last s e w none source last not_behind a b below found = ⊎_elim
        (λ (same : b.session ≡ s).
        let is : a ≡ e = same_Some a e (sym found.source ∙ source) in
        let behind : SourceOrder h e b = subst (λ (x : OpId). SourceOrder h x b) is found.behind in
        let up_to = last.last b.index found.value (past-at s b k.op same found.before) (write-at s k.key found.value b same found.writes) in
        let sessions : b.session ≡ w.session = same ∙ sym last.session in
        ⊎_elim
        (λ (here : b.index ≡ w.index). not_behind (subst (λ (x : OpId). SourceOrder h e x) (same_op b w sessions here) behind))
        (λ (before : b.index < w.index). not_behind (leads-last (IsSourceEdge h) e b w behind (inl ((sessions, before), last-of_history s w last))))
        (eq-or-lt_of_le up_to))
        (λ (earlier : b.session < s). none a b earlier found)
        (let up_to : b.session ≤ s = omega arith in eq-or-lt_of_le up_to)

    pub pair-ended : (n : ℕ) → length h.1 ≤ n → ((a b : OpId) → b.session < n → ¬ AreWritesBefore h k a b) → (a b : OpId) → ¬ AreWritesBefore h k a b
    pair-ended n ended none a b found =
        let below = session-of_history h b (SourceOrder-of_history h b k.op found.before) in
        none a b (omega arith) found

  -- where no source is missing, a read without one read the initial value
  initial-read : ¬ LacksSource h → (k : KnownRead) (known : IsKnownRead h k) → k.source ≡ None → Reads h k.op k.key (initial h k.key)
  initial-read present k known none =
      let source : IsSourceIfAny h k.op None = subst (λ (e : Option OpId). IsSourceIfAny h k.op e) none known.source in
      let is = if_any-source h present k.op None source k.key known.value known.reads in
      subst (λ (v : ℕ). Reads h k.op k.key v) is known.reads

  -- a path from such a write
  pub start-found : ¬ LacksSource h → (k : KnownRead) → IsKnownRead h k → (w : OpId) → IsWriteBefore h k w → (path : List OpId) → GoesFrom h path w k.op
      → IsPathToInitialRead h path
  start-found present k known w found path goes =
      (w, k.op, k.key, found.value, found.writes, initial-read present k known found.initially, goes)

  pub source-of : (k : KnownRead) → IsKnownRead h k → (a : OpId) → k.source ≡ Some a → ReadsFrom h a k.op
  source-of k known a is =
      let source : IsSourceIfAny h k.op (Some a) = subst (λ (e : Option OpId). IsSourceIfAny h k.op e) is known.source in source.0

  -- paths from a source to such a write and on to its read
  pub read-found : (k : KnownRead) → IsKnownRead h k → (a b : OpId) → AreWritesBefore h k a b → (above below : List OpId)
      → GoesFrom h above a b → GoesFrom h below b k.op → ArePathsToOverwrittenRead h above below
  read-found k known a b found above below goes_above goes_below =
      let reads = source-of k known a found.source in
      let same = same_read h k.op k.key known.value reads.0 reads.1 known.reads reads.3 in
      let wrote : Writes h a k.key reads.1 = subst (λ (x : ℕ). Writes h a x reads.1) (sym same.0) reads.2 in
      (a, b, k.op, reads, (found.apart, (k.key, reads.1, found.value, wrote, found.writes)), goes_above, goes_below)

  module _ (reads : List KnownRead) (lists : ListsReads h reads) (distinct : IsDifferentiated h) where
    -- where no known read has such a write, none comes too late for the initial value
    pub no-start : ((i : ℕ) (k : KnownRead) (w : OpId) → slice_get reads i ≡ Some k → ¬ IsWriteBefore h k w) → ¬ HasOverwrittenStart h
    no-start none start =
        let r = start.1 in
        let entry = lists.each r start.2 (initial h start.2) start.5 in
        let k = entry.0 in
        let known = lists.no_other k entry.1 in
        let here : Reads h r k.key known.value = subst (λ (o : OpId). Reads h o k.key known.value) entry.2 known.reads in
        let same = same_read h r start.2 (initial h start.2) k.key known.value start.5 here in
        let no_source : IsSourceIfAny h k.op None = λ u from.
        let there : Reads h r from.0 from.1 = subst (λ (o : OpId). Reads h o from.0 from.1) entry.2 from.3 in
        let also = same_read h r start.2 (initial h start.2) from.0 from.1 start.5 there in
        from.4 (sym also.1 ∙ ap (initial h) also.0) in
        none entry.1.0 k start.0 (at-listed reads k entry.1) (record {
          initially = if_any-unique h k.op k.source None known.source no_source;
          value = start.3;
          writes = subst (λ (x : ℕ). Writes h start.0 x start.3) same.0 start.4;
          before = subst (λ (o : OpId). SourceOrder h start.0 o) (sym entry.2) (CO-by_sources h distinct start.0 r start.6);
        })

    -- and none for what it read
    pub no-read : ((i : ℕ) (k : KnownRead) (a b : OpId) → slice_get reads i ≡ Some k → ¬ AreWritesBefore h k a b) → ¬ HasOverwrittenRead h
    no-read none read =
        let a = read.0 in
        let b = read.1 in
        let r = read.2 in
        let from = read.3 in
        let entry = lists.each r from.0 from.1 from.3 in
        let k = entry.0 in
        let known = lists.no_other k entry.1 in
        let here : Reads h r k.key known.value = subst (λ (o : OpId). Reads h o k.key known.value) entry.2 known.reads in
        let same = same_read h r from.0 from.1 k.key known.value from.3 here in
        let rivals = read.4 in
        let wrote = same_written h a from.0 from.1 rivals.1.0 rivals.1.1 from.2 rivals.1.3 in
        let key : rivals.1.0 ≡ k.key = sym wrote.0 ∙ same.0 in
        let source : IsSourceIfAny h k.op (Some a) = subst (λ (o : OpId). IsSourceIfAny h o (Some a)) (sym entry.2) (distinct-source h distinct a r from) in
        none entry.1.0 k a b (at-listed reads k entry.1) (record {
          source = if_any-unique h k.op k.source (Some a) known.source source;
          apart = rivals.0;
          value = rivals.1.2;
          writes = subst (λ (x : ℕ). Writes h b x rivals.1.2) key rivals.1.4;
          behind = CO-by_sources h distinct a b read.5;
          before = subst (λ (o : OpId). SourceOrder h b o) (sym entry.2) (CO-by_sources h distinct b r read.6);
        })
