-- What has to come before operations because of reads, added read by read.
use Rattle.std.specs.Prelude.{◌≡◌, ◌≢◌, ◌⊎◌, ◌↔◌, ℕ, ◌+◌, ◌<◌, ◌≤◌, max, List, length, Option, Some, None, MatchOption, slice_get}
use Rattle.std.proofs.Common.{arith, sym, ap, subst, ◌∙◌, inl, inr, ⊎_elim, refl}
use Rattle.std.proofs.lemmas.Bool.{cases_eq, cases_lt}
use Rattle.std.proofs.lemmas.Option.{same_Some, slice_get_within}
use Rattle.model_history.specs.declared.op_id.OpId.{OpId}
use Rattle.order_memory.specs.declared.known_reads.KnownRead.{KnownRead}
use Rattle.order_memory.specs.Memory.{MemoryHistory, Writes}
use Rattle.order_causal.specs.Orders.{op}
use Rattle.order_memory.specs.Relations.{ReadsFrom}
use Rattle.order_memory.specs.SourceOrder.{IsSource, SourceOrder}
use Rattle.order_memory.specs.Steps.Conflicts.{AddsWaits, IsWriteInPast, IsDue, IsDueTo, IsUpToWrite}
use Rattle.order_memory.specs.Steps.Indexed.{HasNoWriteOfPast, IsKnownRead, IsLastWriteOfPast, IsSourceIfAny, IsSourcePast, ListsReads}
use Rattle.order_causal.specs.Steps.Waiting.{AddsWait}
use Rattle.order_causal.specs.Vectors.{Counts, count, IsCounted, IsListed}
use Rattle.order_causal.specs.Waits.{AreAlike, AreWaitsFor}
use Rattle.order_causal.proofs.Items.{cases-op}
use Rattle.order_memory.proofs.Elements.{at-listed}
use Rattle.order_memory.proofs.FirstWrites.{source-unique}
use Rattle.order_memory.proofs.MemoryLaws.{read-of_history, write-of_history, same_read, write-or_read}
use Rattle.order_causal.proofs.OrdersLaws.{same_op, session-of_history}
use Rattle.order_causal.proofs.WaitsLaws.{alike-trans, waits_for-more, waits_for-none, waits_for-same}

-- counts only rise
abbrev Rises : Counts → Counts → Type 0
Rises before after = (p : OpId) (s : ℕ) → count before p s ≤ count after p s

adds-rises : (o a : OpId) (before after : Counts) → AddsWait o a before after → Rises before after
adds-rises o a before after adds p s = ⊎_elim
    (λ (same : count after p s ≡ count before p s). omega arith)
    (λ (new : (p ≡ o) × (s ≡ a.session)).
    let here : count before o a.session ≤ count after o a.session = let raised = adds.raised in omega arith in
    subst (λ (q : OpId). count before q s ≤ count after q s) (sym new.0)
    (subst (λ (t : ℕ). count before o t ≤ count after o t) (sym new.1) here))
    (adds.others p s)

module _ (more : ℕ → ℕ → Type 0) (o : OpId) (old : Counts) where
  -- the counts of o of the sessions before t are raised
  pub record AreRaisedBelow (t : ℕ) (waits : Counts) : Type 0 where
    pub alike : AreAlike waits old
    pub raised : (s i : ℕ) → s < t → (i < count waits o s) ↔ ((i < count old o s) ⊎ more s i)
    pub kept : (s : ℕ) → t ≤ s → count waits o s ≡ count old o s
    pub others : (p : OpId) (s : ℕ) → p ≢ o → count waits p s ≡ count old p s

  pub raised-none : AreRaisedBelow 0 old
  raised-none = record {
    alike = record { sessions = refl; operations = λ s. refl };
    raised = λ s i below. absurd (omega arith);
    kept = λ s above. refl;
    others = λ p s apart. refl;
  }

  module _ (t : ℕ) (before : Counts) (so_far : AreRaisedBelow t before) where
    here-raised : (n m : ℕ) → ((i : ℕ) → (i < n) ↔ more t i) → ((i : ℕ) → (i < m) ↔ ((i < count old o t) ⊎ (i < n)))
        → (s i : ℕ) → s ≡ t → (i < m) ↔ ((i < count old o s) ⊎ more s i)
    here-raised n m end is s i same = subst (λ (r : ℕ). (i < m) ↔ ((i < count old o r) ⊎ more r i)) (sym same) (
      (λ below. ⊎_elim
          (λ (a : i < count old o t). inl a)
          (λ (b : i < n). inr ((end i).0 b))
          ((is i).0 below)),
      λ either. (is i).1 (⊎_elim
          (λ (a : i < count old o t). inl a)
          (λ (b : more t i). inr ((end i).1 b))
          either),
    )

    -- of the session t there are none
    pub raised-other : ((i : ℕ) → ¬ more t i) → AreRaisedBelow (t + 1) before
    raised-other none = record {
      alike = so_far.alike;
      raised = λ s i up_to. ⊎_elim
          (λ (same : s ≡ t).
          let kept = so_far.kept t (omega arith) in
          let here = here-raised 0 (count old o t) (λ j. ((λ below. absurd (omega arith)), λ is. absurd (none j is)))
          (λ j. ((λ a. inl a), λ either. ⊎_elim (λ (a : j < count old o t). a) (λ (b : j < 0). absurd (omega arith)) either)) s i same in
          subst (λ (m : ℕ). (i < m) ↔ ((i < count old o s) ⊎ more s i))
          (sym kept ∙ ap (λ (r : ℕ). count before o r) (sym same)) here)
          (λ (apart : s ≢ t). so_far.raised s i (omega arith))
          (cases_eq s t);
      kept = λ s above. so_far.kept s (omega arith);
      others = so_far.others;
    }

    -- or the last of them is waited for
    pub raised-last : (w : OpId) → w.session ≡ t → ((i : ℕ) → (i < w.index + 1) ↔ more t i) → (after : Counts) → AddsWait o w before after
        → AreRaisedBelow (t + 1) after
    raised-last w here_session end after adds =
        let same_session : (s : ℕ) → s ≢ t → count after o s ≡ count before o s = λ s apart. ⊎_elim
        (λ (same : count after o s ≡ count before o s). same)
        (λ (new : (o ≡ o) × (s ≡ w.session)). absurd (apart (new.1 ∙ here_session)))
        (adds.others o s) in
        let larger : count after o t ≡ max (count before o t) (w.index + 1) =
        subst (λ (r : ℕ). count after o r ≡ max (count before o r) (w.index + 1)) here_session adds.raised in
        let kept_t = so_far.kept t (omega arith) in
        record {
          alike = alike-trans after before old adds.alike so_far.alike;
          raised = λ s i up_to. ⊎_elim
              (λ (same : s ≡ t).
              let here = here-raised (w.index + 1) (count after o t) end (λ j. (
                (λ below. ⊎_elim
                    (λ (a : j < w.index + 1). inr a)
                    (λ (b : w.index + 1 ≤ j). inl (omega arith))
                    (cases_lt j (w.index + 1))),
                λ either. ⊎_elim (λ (a : j < count old o t). omega arith) (λ (b : j < w.index + 1). omega arith) either,
              )) s i same in
              subst (λ (m : ℕ). (i < m) ↔ ((i < count old o s) ⊎ more s i)) (ap (λ (r : ℕ). count after o r) (sym same)) here)
              (λ (apart : s ≢ t).
              let as_before = so_far.raised s i (omega arith) in
              subst (λ (m : ℕ). (i < m) ↔ ((i < count old o s) ⊎ more s i)) (sym (same_session s apart)) as_before)
              (cases_eq s t);
          kept = λ s above. same_session s (omega arith) ∙ so_far.kept s (omega arith);
          others = λ p s apart. ⊎_elim
              (λ (same : count after p s ≡ count before p s). same ∙ so_far.others p s apart)
              (λ (new : (p ≡ o) × (s ≡ w.session)). absurd (apart new.0))
              (adds.others p s);
        }

  -- all counts are raised
  pub raised-all : (t : ℕ) (waits : Counts) → ((s i : ℕ) → more s i → s < t) → AreRaisedBelow t waits → AddsWaits more o old waits
  raised-all t waits inside so_far = record {
    alike = so_far.alike;
    raised = λ s i. ⊎_elim
        (λ (below : s < t). so_far.raised s i below)
        (λ (past : t ≤ s).
        let kept = so_far.kept s past in (
          (λ under. inl (omega arith)),
          λ either. ⊎_elim
              (λ (a : i < count old o s). omega arith)
              (λ (b : more s i). let below = inside s i b in absurd (omega arith))
              either,
        ))
        (cases_lt s t);
    others = so_far.others;
  }

module _ (h : MemoryHistory) where
  -- the operations up to the last write of a variable in the past of an operation, and where there is none
  pub last-up_to : (x s : ℕ) (r w : OpId) → IsLastWriteOfPast h x s r w → (i : ℕ) → (i < w.index + 1) ↔ IsUpToWrite h x r s i
  last-up_to x s r w last i =
      let this : w ≡ op s w.index = same_op w (op s w.index) last.session refl in (
        (λ below. (
          w.index,
          last.value,
          omega arith,
          subst (λ (a : OpId). IsSourcePast h r a) this last.past,
          subst (λ (a : OpId). Writes h a x last.value) this last.writes,
        )),
        λ up_to. let most = last.last up_to.0 up_to.1 up_to.3 up_to.4 in let above = up_to.2 in omega arith,
      )

  pub none-up_to : (x s : ℕ) (r : OpId) → HasNoWriteOfPast h x s r → (i : ℕ) → ¬ IsUpToWrite h x r s i
  none-up_to x s r none i up_to = none up_to.0 up_to.1 up_to.3 up_to.4

  pub none-found : (x s : ℕ) (r : OpId) (found : Option OpId) → MatchOption found (HasNoWriteOfPast h x s r) (IsLastWriteOfPast h x s r)
      → ((w : OpId) → found ≡ Some w → ⊥) → HasNoWriteOfPast h x s r
  none-found x s r None none other = none
  none-found x s r (Some w) last other = absurd (other w refl)

  pub up_to-session : (x : ℕ) (r : OpId) (s i : ℕ) → IsUpToWrite h x r s i → s < length h.1
  up_to-session x r s i up_to = session-of_history h (op s up_to.0) (write-of_history h (op s up_to.0) x up_to.1 up_to.4)

  none-from : (r : OpId) (e : Option OpId) → IsSourceIfAny h r e → ((w : OpId) → e ≡ Some w → ⊥) → (w : OpId) → ¬ ReadsFrom h w r
  none-from r None none other = none
  none-from r (Some w) source other = absurd (other w refl)

  -- the source of a known read
  pub known-source : (k : KnownRead) → IsKnownRead h k → (w : OpId) → k.source ≡ Some w → IsSource h w k.op
  known-source k known w is = subst (λ (e : Option OpId). IsSourceIfAny h k.op e) is known.source

  -- a known read without a source reads from no write
  pub unsourced : (k : KnownRead) → IsKnownRead h k → ((w : OpId) → k.source ≡ Some w → ⊥) → (w : OpId) → ¬ ReadsFrom h w k.op
  unsourced k known = none-from k.op k.source known.source

  module _ (waits : Counts) (alike : AreAlike waits h.1) (k : KnownRead) (known : IsKnownRead h k) where
    -- a known read and its source can wait
    pub read-listed : IsListed waits k.op
    read-listed = let is_op = read-of_history h k.op k.key known.value known.reads in let same = alike.operations k.op.session in omega arith

    pub source-listed : (w : OpId) → k.source ≡ Some w → IsListed waits w
    source-listed w is =
        let from = (known-source k known w is).0 in
        let is_op = write-of_history h w from.0 from.1 from.2 in
        let same = alike.operations w.session in
        omega arith

  -- a read that is due to another operation, or another operation to it, reads from a write
  due-read : (r a o : OpId) → IsDueTo h r a o → (w : OpId) × ReadsFrom h w r
  due-read r a o = ⊎_elim
      (λ (is : IsSource h a r × (o ≡ r)). (a, is.0.0))
      (λ (is : IsSource h o r × IsWriteInPast h r a). (o, is.0.0))

  module _ (reads : List KnownRead) where
    -- by one of the first n reads a has to come before o
    abbrev pub IsDueBelow : ℕ → OpId → OpId → Type 0
    IsDueBelow n a o = (i : ℕ) × (k : KnownRead) × (i < n) × (slice_get reads i ≡ Some k) × IsDueTo h k.op a o

    pub due-none : (waits : Counts) → ((o : OpId) (s : ℕ) → count waits o s ≡ 0) → AreWaitsFor (IsDueBelow 0) waits
    due-none waits zero = waits_for-none (IsDueBelow 0) waits zero (λ a o is. let below = is.2 in absurd (omega arith))

    module _ (n : ℕ) (k : KnownRead) (at : slice_get reads n ≡ Some k) (before : Counts) (so_far : AreWaitsFor (IsDueBelow n) before) where
      kept : (a o : OpId) → IsDueBelow n a o → IsDueBelow (n + 1) a o
      kept a o is = let below = is.2 in (is.0, is.1, omega arith, is.3, is.4)

      new : (a o : OpId) → IsDueTo h k.op a o → IsDueBelow (n + 1) a o
      new a o is = (n, k, omega arith, at, is)

      either : (a o : OpId) → IsDueBelow (n + 1) a o → IsDueBelow n a o ⊎ IsDueTo h k.op a o
      either a o is =
          let up_to = is.2 in
          ⊎_elim
          (λ (below : is.0 < n). inl (is.0, is.1, below, is.3, is.4))
          (λ (past : n ≤ is.0).
          let here : is.0 ≡ n = omega arith in
          inr (subst (λ (m : KnownRead). IsDueTo h m.op a o) (same_Some is.1 k (sym is.3 ∙ ap (slice_get reads) here ∙ at)) is.4))
          (cases_lt is.0 n)

      -- a read more that reads from no write
      pub due-other : ((w : OpId) → ¬ ReadsFrom h w k.op) → AreWaitsFor (IsDueBelow (n + 1)) before
      due-other none = waits_for-same (IsDueBelow n) (IsDueBelow (n + 1)) before kept
          (λ a o is. ⊎_elim
          (λ (old : IsDueBelow n a o). old)
          (λ (due : IsDueTo h k.op a o). let read = due-read k.op a o due in absurd (none read.0 read.1))
          (either a o is))
          so_far

      module _ (known : IsKnownRead h k) (w : OpId) (source : IsSource h w k.op) (between after : Counts) (adds : AddsWait k.op w before between)
          (adds_writes : AddsWaits (IsUpToWrite h k.key k.op) w between after) where
        writes-rises : Rises between after
        writes-rises p t = ⊎_elim
            (λ (same : p ≡ w).
            let here : count between w t ≤ count after w t = ⊎_elim
            (λ (less : count after w t < count between w t).
            let again = (adds_writes.raised t (count after w t)).1 (inl less) in absurd (omega arith))
            (λ (up_to : count between w t ≤ count after w t). up_to)
            (cases_lt (count after w t) (count between w t)) in
            subst (λ (q : OpId). count between q t ≤ count after q t) (sym same) here)
            (λ (apart : p ≢ w). let same = adds_writes.others p t apart in omega arith)
            (cases-op p w)

        due-each : (a o : OpId) → IsDueBelow (n + 1) a o → IsCounted after o a
        due-each a o is = ⊎_elim
            (λ (old : IsDueBelow n a o).
            let counted = so_far.each a o old in
            let first = adds-rises k.op w before between adds o a.session in
            let second = writes-rises o a.session in
            omega arith)
            (λ (here : IsDueTo h k.op a o). ⊎_elim
            (λ (due : IsSource h a k.op × (o ≡ k.op)).
            let same : a ≡ w = source-unique h a w k.op due.0 source in
            let second = writes-rises k.op w.session in
            let raised = adds.raised in
            let counted : w.index < count after k.op w.session = omega arith in
            subst (λ (q : OpId). IsCounted after q a) (sym due.1) (subst (λ (b : OpId). IsCounted after k.op b) (sym same) counted))
            (λ (due : IsSource h o k.op × IsWriteInPast h k.op a).
            let same : o ≡ w = source-unique h o w k.op due.0 source in
            let wrote = due.1 in
            let key : wrote.x ≡ k.key = (same_read h k.op wrote.x wrote.y k.key known.value wrote.reads known.reads).0 in
            let written : Writes h a k.key wrote.u = subst (λ (x : ℕ). Writes h a x wrote.u) key wrote.writes in
            let is_op = read-of_history h k.op k.key known.value known.reads in
            let up_to : IsUpToWrite h k.key k.op a.session a.index = (a.index, wrote.u, omega arith, (is_op, inr wrote.before), written) in
            subst (λ (q : OpId). IsCounted after q a) (sym same) ((adds_writes.raised a.session a.index).1 (inr up_to)))
            here)
            (either a o is)

        last-between : (a o : OpId) → count between o a.session ≡ a.index + 1 → IsDueBelow (n + 1) a o
        last-between a o is = ⊎_elim
            (λ (old : IsDueBelow n a o). kept a o old)
            (λ (added : (a ≡ w) × (o ≡ k.op)). new a o (inl (subst (λ (b : OpId). IsSource h b k.op) (sym added.0) source, added.1)))
            ((waits_for-more (IsDueBelow n) k.op w before between so_far adds).last a o is)

        -- the last write of a session is due before the source
        last-written : (a : OpId) → IsUpToWrite h k.key k.op a.session a.index → count after w a.session ≡ a.index + 1 → IsDueBelow (n + 1) a w
        last-written a up_to is =
            let j : ℕ = up_to.0 in
            let above = up_to.2 in
            let again = (adds_writes.raised a.session j).1 (inr (j, up_to.1, omega arith, up_to.3, up_to.4)) in
            let index : j ≡ a.index = omega arith in
            let this : op a.session j ≡ a = same_op (op a.session j) a refl index in
            let wrote : Writes h a k.key up_to.1 = subst (λ (b : OpId). Writes h b k.key up_to.1) this up_to.4 in
            let past : IsSourcePast h k.op a = subst (λ (b : OpId). IsSourcePast h k.op b) this up_to.3 in
            let before : SourceOrder h a k.op = ⊎_elim
            (λ (same : a ≡ k.op). absurd (write-or_read h a k.op k.key up_to.1 k.key known.value wrote known.reads same))
            (λ (before : SourceOrder h a k.op). before)
            past.1 in
            new a w (inr (source, record { x = k.key; u = up_to.1; y = known.value; writes = wrote; reads = known.reads; before = before }))

        due-last : (a o : OpId) → count after o a.session ≡ a.index + 1 → IsDueBelow (n + 1) a o
        due-last a o is = ⊎_elim
            (λ (same : o ≡ w).
            let last : count after w a.session ≡ a.index + 1 = subst (λ (q : OpId). count after q a.session ≡ a.index + 1) same is in
            let due : IsDueBelow (n + 1) a w = ⊎_elim
            (λ (old : a.index < count between w a.session).
            let most = writes-rises w a.session in
            last-between a w (omega arith))
            (λ (up_to : IsUpToWrite h k.key k.op a.session a.index). last-written a up_to last)
            ((adds_writes.raised a.session a.index).0 (omega arith)) in
            subst (λ (q : OpId). IsDueBelow (n + 1) a q) (sym same) due)
            (λ (apart : o ≢ w). let same = adds_writes.others o a.session apart in last-between a o (sym same ∙ is))
            (cases-op o w)

        -- a read more that has a source
        pub due-more : AreWaitsFor (IsDueBelow (n + 1)) after
        due-more = record { each = due-each; last = due-last }

    -- the end of the reads
    pub due-end : (n : ℕ) (waits : Counts) → length reads ≤ n → ListsReads h reads → AreWaitsFor (IsDueBelow n) waits → AreWaitsFor (IsDue h) waits
    due-end n waits ended lists so_far = waits_for-same (IsDueBelow n) (IsDue h) waits
        (λ a o is. (is.1.op, is.4))
        (λ a o is.
        let from = (due-read is.0 a o is.1).1 in
        let entry = lists.each is.0 from.0 from.1 from.3 in
        let at = at-listed reads entry.0 entry.1 in
        let inside = slice_get_within reads entry.1.0 entry.0 at in
        (entry.1.0, entry.0, omega arith, at, subst (λ (r : OpId). IsDueTo h r a o) (sym entry.2) is.1))
        so_far
