-- The sources of a memory history: the first writes of what was read.
use Rattle.std.specs.Prelude.{◌≡◌, ◌⊎◌, ◌↔◌, ℕ, ◌<◌, ◌≤◌, List, [], length, Option, Some, None, slice_get}
use Rattle.std.proofs.Common.{arith, get_or, sym, ap, subst, subst₂, ◌∙◌, inl, inr, ⊎_elim}
use Rattle.std.proofs.lemmas.Bool.{cases_lt, cases_order}
use Rattle.std.proofs.lemmas.List.{get_or_past}
use Rattle.std.proofs.lemmas.Option.{slice_get-get_or, slice_get_within}
use Rattle.model_history.specs.declared.op_id.OpId.{OpId}
use Rattle.model_history.specs.History.{IsOp, Precedes, session}
use Rattle.order_memory.specs.declared.writes.Write.{Write}
use Rattle.order_memory.specs.Memory.{MemoryHistory, initial, Writes, Reads, IsDifferentiated}
use Rattle.order_memory.proofs.MemoryLaws.{same_read, write-of_history, read-of_history}
use Rattle.order_causal.specs.Orders.{IsEarlier}
use Rattle.order_causal.proofs.OrdersLaws.{same_op}
use Rattle.order_memory.specs.Relations.{ReadsFrom, IsEdge, CO}
use Rattle.order_causal.proofs.PathsLaws.{leads-wider}
use Rattle.order_memory.proofs.RelationsLaws.{CO-of_history}
use Rattle.order_memory.specs.SourceOrder.{LacksSource, CountsCO, CountsSourceOrder, IsSource, IsSourceEdge, SourceOrder, IsSourceOf}
use Rattle.order_memory.proofs.ListedSources.{ListsSources}
use Rattle.order_memory.specs.Sources.{Sources, HasSource, AreListed, IsStep, Comes, IsUnfinished, AreVectorsSoFar}
use Rattle.order_causal.specs.Vectors.{IsListed, Counts, IsCounted}
use Rattle.order_memory.specs.Steps.Written.{ListsWrites, IsLeastWrite}
use Rattle.order_causal.proofs.PushedLaws.{listed-length}

module _ (h : MemoryHistory) where
  module _ (writes : List Write) (lists : ListsWrites h writes) (r : OpId) (x v : ℕ) (reads : Reads h r x v) where
    -- the least write of what was read is its source
    pub source-written : (v ≡ initial h x → ⊥) → (w : OpId) → IsLeastWrite writes x v w → IsSource h w r
    source-written apart w least = (
      (x, v, lists.no_other _ least.writes_it, reads, apart),
      λ u from.
          let same = same_read h r x v from.0 from.1 reads from.3 in
          least.least (record { op = u; key = from.0; value = from.1 }) (lists.each u from.0 from.1 from.2) (sym same.0) (sym same.1),
    )

  -- a read has one source
  pub source-unique : (u w r : OpId) → IsSource h u r → IsSource h w r → u ≡ w
  source-unique u w r first second =
      let not_first = second.1 u first.0 in
      let not_second = first.1 w second.0 in
      ⊎_elim
      (λ (same : u.session ≡ w.session). ⊎_elim
      (λ (here : u.index ≡ w.index). same_op u w same here)
      (λ (apart : (u.index < w.index) ⊎ (w.index < u.index)). ⊎_elim
      (λ (before : u.index < w.index). absurd (not_first (inr (same, before))))
      (λ (behind : w.index < u.index). absurd (not_second (inr (sym same, behind))))
      apart)
      (cases_order u.index w.index))
      (λ (apart : (u.session < w.session) ⊎ (w.session < u.session)). ⊎_elim
      (λ (before : u.session < w.session). absurd (not_first (inl before)))
      (λ (behind : w.session < u.session). absurd (not_second (inl behind)))
      apart)
      (cases_order u.session w.session)

  -- where values are distinct, what may be read from is the source
  pub distinct-source : IsDifferentiated h → (w r : OpId) → ReadsFrom h w r → IsSource h w r
  distinct-source distinct w r reads = (
    reads,
    λ u other earlier.
        let same = same_read h r reads.0 reads.1 other.0 other.1 reads.3 other.3 in
        let wrote : Writes h u reads.0 reads.1 = rw (same.0, same.1) other.2 in
        let one = distinct.once u w reads.0 reads.1 wrote reads.2 in
        let turned = subst (λ (o : OpId). IsEarlier u o) (sym one) earlier in
        ⊎_elim
        (λ (less : u.session < u.session). let none = less in omega arith)
        (λ (less : (u.session ≡ u.session) × (u.index < u.index)). let none = less.1 in omega arith)
        turned,
  )

  -- there the order by sources is CO
  pub CO-from_sources : (a b : OpId) → SourceOrder h a b → CO h a b
  CO-from_sources = leads-wider (IsSourceEdge h) (IsEdge h) (λ a b edge. ⊎_elim
      (λ (before : Precedes a b × IsOp h b). inl before)
      (λ (source : IsSource h a b). inr source.0)
      edge)

  pub CO-by_sources : IsDifferentiated h → (a b : OpId) → CO h a b → SourceOrder h a b
  CO-by_sources distinct = leads-wider (IsEdge h) (IsSourceEdge h) (λ a b edge. ⊎_elim
      (λ (before : Precedes a b × IsOp h b). inl before)
      (λ (reads : ReadsFrom h a b). inr (distinct-source distinct a b reads))
      edge)

  -- and vectors of it count CO
  pub counts-past : IsDifferentiated h → (v : Counts) → CountsSourceOrder h v → CountsCO h v
  counts-past distinct v counts o a is_op =
      let exact = counts.counted o a is_op in (
        (λ counted. ⊎_elim
            (λ (same : a ≡ o). inl same)
            (λ (comes : SourceOrder h a o). inr (CO-from_sources a o comes))
            (exact.0 counted)),
        λ past. exact.1 (⊎_elim
            (λ (same : a ≡ o). inl same)
            (λ (comes : CO h a o). inr (CO-by_sources distinct a o comes))
            past),
      )

  module _ (sources : Sources) (lists : ListsSources h sources) where
    pub sources-length : (s : ℕ) → length (get_or sources s []) ≡ length (session h s)
    sources-length s = ⊎_elim
        (λ (inside : s < length h.1). (lists.each s inside).count)
        (λ (past : length h.1 ≤ s).
        let here = get_or_past sources s [] (let same = lists.sessions in omega arith) in
        let there = get_or_past h.1 s [] past in
        ap (λ (xs : List (Option OpId)). length xs) here ∙ sym (ap (λ (xs : _). length xs) there))
        (cases_lt s (length h.1))

    entry-source : (r : OpId) (e : Option OpId) → slice_get (get_or sources r.session []) r.index ≡ Some e → IsSourceOf h r e
    entry-source r e at =
        let inside : r.session < length h.1 =
        let below = listed-length sources r.session r.index (slice_get_within _ r.index e at) in
        let same = lists.sessions in omega arith in
        (lists.each r.session inside).each r.index e at

    pub source-listed : (r w : OpId) → HasSource sources r w → IsSource h w r
    source-listed r w has = entry-source r (Some w) has

    read-entry : (r : OpId) (x v : ℕ) → Reads h r x v → (v ≡ initial h x → ⊥) → (w : OpId) × HasSource sources r w × IsSource h w r
    read-entry r x v reads apart =
        let is_op = read-of_history h r x v reads in
        let below : r.index < length (get_or sources r.session []) = let same = sources-length r.session in omega arith in
        let at = slice_get-get_or (get_or sources r.session []) r.index None below in
        elim (get_or (get_or sources r.session []) r.index None)
        as (λ e. slice_get (get_or sources r.session []) r.index ≡ Some e → (w : OpId) × HasSource sources r w × IsSource h w r) [
          | None ↦ λ here. absurd (apart (entry-source r None here x v reads))
          | Some w ↦ λ here. (w, here, source-listed r w here)
        ] at

    pub listed-source : (w r : OpId) → IsSource h w r → HasSource sources r w
    listed-source w r source =
        let entry = read-entry r source.0.0 source.0.1 source.0.3 source.0.4 in
        subst (λ (o : OpId). HasSource sources r o) (source-unique entry.0 w r entry.2 source) entry.1

    pub sources-present : ¬ LacksSource h
    sources-present lacks =
        let entry = read-entry lacks.0 lacks.1 lacks.2 lacks.3 lacks.4 in
        let reads = entry.2.0 in
        let same = same_read h lacks.0 lacks.1 lacks.2 reads.0 reads.1 lacks.3 reads.3 in
        lacks.5 entry.0 (subst₂ (λ (x v : ℕ). Writes h entry.0 x v) (sym same.0) (sym same.1) reads.2)

    pub sources-exist : AreListed sources
    sources-exist o w has =
        let from = (source-listed o w has).0 in
        let is_op = write-of_history h w from.0 from.1 from.2 in
        let same = sources-length w.session in
        omega arith

    pub order-from_steps : (a b : OpId) → Comes sources a b → SourceOrder h a b
    order-from_steps = leads-wider (IsStep sources) (IsSourceEdge h) (λ a b edge. ⊎_elim
        (λ (before : Precedes a b × IsListed sources b). inl (before.0, (let same = sources-length b.session in let below = before.1 in omega arith)))
        (λ (has : HasSource sources b a). inr (source-listed b a has))
        edge)

    steps-from_order : (a b : OpId) → SourceOrder h a b → Comes sources a b
    steps-from_order = leads-wider (IsSourceEdge h) (IsStep sources) (λ a b edge. ⊎_elim
        (λ (before : Precedes a b × IsOp h b). inl (before.0, (let same = sources-length b.session in let below = before.1 in omega arith)))
        (λ (source : IsSource h a b). inr (listed-source a b source))
        edge)

    module _ (v : Counts) (so_far : AreVectorsSoFar sources v) (finished : (s : ℕ) → ¬ IsUnfinished sources v s) where
      vector-there : (o : OpId) → IsOp h o → IsListed v o
      vector-there o is_op = ⊎_elim
          (λ (there : IsListed v o). there)
          (λ (past : length (get_or v o.session []) ≤ o.index).
          absurd (finished o.session (let same = sources-length o.session in omega arith)))
          (cases_lt o.index (length (get_or v o.session [])))

      pub counts-exact : (o a : OpId) → IsOp h o → IsCounted v o a ↔ ((a ≡ o) ⊎ SourceOrder h a o)
      counts-exact o a is_op =
          let exact = so_far.exact o a (vector-there o is_op) in (
            (λ counted. ⊎_elim
                (λ (same : a ≡ o). inl same)
                (λ (comes : Comes sources a o). inr (order-from_steps a o comes))
                (exact.0 counted)),
            λ before. exact.1 (⊎_elim
                (λ (same : a ≡ o). inl same)
                (λ (comes : SourceOrder h a o). inr (steps-from_order a o comes))
                before),
          )

      -- what comes before an operation is of the history, so an operation that comes before itself is
      pub order-acyclic : (a : OpId) → ¬ SourceOrder h a a
      order-acyclic a comes =
          let is_op = (CO-of_history h a a (CO-from_sources a a comes)).1 in
          so_far.acyclic a (vector-there a is_op) (steps-from_order a a comes)

      vector-count : (s : ℕ) → length (get_or v s []) ≡ length (session h s)
      vector-count s =
          let same = sources-length s in
          let within = so_far.within s in
          ⊎_elim
          (λ (less : length (get_or v s []) < length (get_or sources s [])). absurd (finished s less))
          (λ (all : length (get_or sources s []) ≤ length (get_or v s [])). omega arith)
          (cases_lt (length (get_or v s [])) (length (get_or sources s [])))

      -- the vectors are those of the order
      pub counts-order : CountsSourceOrder h v
      counts-order = record {
        vectors = record {
          one_each = record {
            sessions = let made = so_far.sessions in let listed = lists.sessions in omega arith;
            operations = vector-count;
          };
          counts = λ o is_op. let made = so_far.counts o (vector-there o is_op) in let listed = lists.sessions in omega arith;
        };
        sources = sources-present;
        acyclic = order-acyclic;
        counted = counts-exact;
      }
