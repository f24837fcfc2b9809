-- What follows for the sources, the known reads and the last writes of a memory history.
use Rattle.std.specs.Prelude.{◌≡◌, ◌≢◌, ◌↔◌, ℕ, Bool, false, IsTrue, ◌+◌, ◌<◌, ◌≤◌, List, [], ◌∷◌, ◌++◌, length, Option, Some, None, MatchOption, IfSome, Contains, slice_get, unwrap_or}
use Rattle.std.proofs.Common.{arith, get_or, sym, ap, subst, subst₂, ◌∙◌, ⊎_elim, length-append}
use Rattle.std.proofs.lemmas.Bool.{cases_eq, cases_lt}
use Rattle.std.proofs.lemmas.List.{get_or_append_left, get_or_push}
use Rattle.std.proofs.lemmas.Option.{same_Some, slice_get-get_or, slice_get_within, slice_get_past}
use Rattle.model_history.specs.declared.op_id.OpId.{OpId}
use Rattle.model_history.specs.History.{IsOp, session}
use Rattle.order_memory.specs.declared.known_reads.KnownRead.{KnownRead}
use Rattle.order_memory.specs.declared.writes.Write.{Write}
use Rattle.order_memory.specs.Memory.{MemoryHistory, initial, Writes, Reads}
use Rattle.order_causal.specs.Orders.{op}
use Rattle.order_memory.specs.Relations.{ReadsFrom}
use Rattle.order_memory.specs.SourceOrder.{LacksSource, IsSourceOf, ListsSourcesBelow}
use Rattle.order_memory.proofs.ListedSources.{ListsSources}
use Rattle.order_memory.specs.Sources.{Sources}
use Rattle.order_memory.specs.Steps.Indexed.{IsSourceIfAny, ListsIfAnyBelow, ListsIfAnySoFar, ListsSourcesIfAny, IsKnownRead, LacksItsSource, ListsReadsBefore, ListsReads, end_of, listed_source, HasNoWriteBefore, IsLastWriteBefore}
use Rattle.order_memory.specs.Steps.Written.{IsBelowWrite, IsLeastWrite, ListsWrites}
use Rattle.order_memory.proofs.FirstWrites.{source-unique, source-written}
use Rattle.order_memory.proofs.ListedLaws.{listed-item, listed-none, listed-session, listed-end}
use Rattle.order_memory.proofs.MemoryLaws.{read-of_history, same_read}
use Rattle.order_causal.proofs.OrdersLaws.{same_op, session-of_history}
use Rattle.order_causal.proofs.PushedLaws.{listed-length}

module _ (h : MemoryHistory) where
  module _ (r : OpId) (x v : ℕ) (reads : Reads h r x v) (writes : List Write) (lists : ListsWrites h writes) where
    -- the source of a read is the least write of what it read, where there is one
    pub if_any-read : (v ≡ initial h x → ⊥) → (e : Option OpId)
        → MatchOption e ((w : Write) → Contains writes w → w.key ≡ x → w.value ≡ v → ⊥) (IsLeastWrite writes x v) → IsSourceIfAny h r e
    if_any-read apart (Some w) least = source-written h writes lists r x v reads apart w least
    if_any-read apart None none = λ w from.
        let same = same_read h r x v from.0 from.1 reads from.3 in
        none (record { op = w; key = from.0; value = from.1 }) (lists.each w from.0 from.1 from.2) (sym same.0) (sym same.1)

  -- a read of the initial value has none, nor has what is no known read
  pub if_any-initial : (r : OpId) (x v : ℕ) → Reads h r x v → v ≡ initial h x → (w : OpId) → ¬ ReadsFrom h w r
  if_any-initial r x v reads initially w from =
      let same = same_read h r x v from.0 from.1 reads from.3 in
      from.4 (rw (← same.0, ← same.1) initially)

  pub if_any-other : (r : OpId) → ((x v : ℕ) → ¬ Reads h r x v) → (w : OpId) → ¬ ReadsFrom h w r
  if_any-other r no_read w from = no_read from.0 from.1 from.3

  -- an operation has one source or none
  pub if_any-unique : (r : OpId) (e f : Option OpId) → IsSourceIfAny h r e → IsSourceIfAny h r f → e ≡ f
  if_any-unique r None None first second = λ i. None
  if_any-unique r None (Some w) first second = absurd (first w second.0)
  if_any-unique r (Some u) None first second = absurd (second u first.0)
  if_any-unique r (Some u) (Some w) first second = ap (λ (o : OpId). Some o) (source-unique h u w r first second)

  -- where no source is missing, an operation without a source has read the initial value, if anything
  pub if_any-source : ¬ LacksSource h → (r : OpId) (e : Option OpId) → IsSourceIfAny h r e → IsSourceOf h r e
  if_any-source present r (Some w) source = source
  if_any-source present r None none = λ x v reads. ⊎_elim
      (λ (same : v ≡ initial h x). same)
      (λ (apart : v ≡ initial h x → ⊥). absurd (present (r, x, v, reads, apart, λ w wrote. none w (x, v, wrote, reads, apart))))
      (cases_eq v (initial h x))

  pub below-sourced : ¬ LacksSource h → (s n : ℕ) (es : List (Option OpId)) → ListsIfAnyBelow h s n es → ListsSourcesBelow h s n es
  below-sourced present s n es below = record {
    count = below.count;
    each = λ i e at. if_any-source present (op s i) e (below.each i e at);
  }

  pub sources-sourced : (lacks : Bool) → (IsTrue lacks ↔ LacksSource h) → lacks ≡ false → (sources : Sources) → ListsSourcesIfAny h sources → ListsSources h sources
  sources-sourced lacks shows is_false sources lists =
      let present : ¬ LacksSource h = λ missing. let yes = shows.1 missing in absurd cc in
      record {
        sessions = lists.sessions;
        each = λ s inside. below-sourced present s (length (session h s)) (get_or sources s []) (lists.each s inside);
      }

  -- the source of one operation more
  pub ListsIfAnyBelow-push : (s n : ℕ) (es after : List (Option OpId)) (e : Option OpId) → ListsIfAnyBelow h s n es → n < 256
      → IsSourceIfAny h (op s n) e → after ≡ es ++ e ∷ [] → ListsIfAnyBelow h s (n + 1) after
  ListsIfAnyBelow-push s n es after e below room source is =
      subst (λ (xs : List (Option OpId)). ListsIfAnyBelow h s (n + 1) xs) (sym is) (record {
        count = length-append es (e ∷ []) ∙ (let same = below.count in omega arith);
        short = omega arith;
        each = λ i f at.
            let within = slice_get_within (es ++ e ∷ []) i f at in
            let len = length-append es (e ∷ []) in
            let count = below.count in
            let here : get_or (es ++ e ∷ []) i f ≡ f = same_Some _ _ (sym (slice_get-get_or (es ++ e ∷ []) i f within) ∙ at) in
            ⊎_elim
            (λ (old : i < length es).
            below.each i f (slice_get-get_or es i f old ∙ (λ j. Some ((sym (get_or_append_left es (e ∷ []) f i old) ∙ here) j))))
            (λ (new : length es ≤ i).
            let last : length es ≡ i = omega arith in
            let place : n ≡ i = omega arith in
            subst₂ (λ (k : ℕ) (g : Option OpId). IsSourceIfAny h (op s k) g) place (sym (get_or_push es e f i last) ∙ here) source)
            (cases_lt i (length es));
      })

  -- the sources of one session more
  pub ListsIfAnySoFar-push : (n : ℕ) (sources after : Sources) (es : List (Option OpId)) → ListsIfAnySoFar h n sources
      → ListsIfAnyBelow h n (length (session h n)) es → after ≡ sources ++ es ∷ [] → ListsIfAnySoFar h (n + 1) after
  ListsIfAnySoFar-push n sources after es so_far below is =
      subst (λ (xs : Sources). ListsIfAnySoFar h (n + 1) xs) (sym is) (record {
        sessions = length-append sources (es ∷ []) ∙ (let same = so_far.sessions in omega arith);
        each = λ s within. ⊎_elim
            (λ (old : s < n).
            let inside : s < length sources = let same = so_far.sessions in omega arith in
            subst (λ (xs : List (Option OpId)). ListsIfAnyBelow h s (length (session h s)) xs) (sym (get_or_append_left sources (es ∷ []) [] s inside)) (so_far.each s old))
            (λ (new : n ≤ s).
            let last : length sources ≡ s = let same = so_far.sessions in omega arith in
            let place : n ≡ s = omega arith in
            subst₂ (λ (k : ℕ) (xs : List (Option OpId)). ListsIfAnyBelow h k (length (session h k)) xs) place (sym (get_or_push sources es [] s last)) below)
            (cases_lt s n);
      })

  -- what is listed for an operation is its source
  pub listed-if_any : (sources : Sources) → ListsSourcesIfAny h sources → (r : OpId) → IsSourceIfAny h r (listed_source sources r)
  listed-if_any sources lists r = ⊎_elim
      (λ (inside : r.index < length (get_or sources r.session [])).
      let exists : r.session < length h.1 =
      let below = listed-length sources r.session r.index inside in
      let same = lists.sessions in omega arith in
      let at = slice_get-get_or (get_or sources r.session []) r.index None inside in
      let source = (lists.each r.session exists).each r.index _ at in
      subst (λ (e : Option (Option OpId)). IsSourceIfAny h r (unwrap_or e None)) (sym at) source)
      (λ (past : length (get_or sources r.session []) ≤ r.index).
      let none = slice_get_past (get_or sources r.session []) r.index past in
      let no_read : (w : OpId) → ¬ ReadsFrom h w r = λ w from.
      let is_op = read-of_history h r from.0 from.1 from.3 in
      let exists = session-of_history h r is_op in
      let count = (lists.each r.session exists).count in
      absurd (omega arith) in
      subst (λ (e : Option (Option OpId)). IsSourceIfAny h r (unwrap_or e None)) (sym none) no_read)
      (cases_lt r.index (length (get_or sources r.session [])))

  -- one operation more that is a known read
  pub ListsReadsBefore-read : (r : OpId) (x v : ℕ) (e : Option OpId) (reads : List KnownRead) → Reads h r x v → IsSourceIfAny h r e
      → ListsReadsBefore h r reads
      → ListsReadsBefore h (op r.session (r.index + 1)) (reads ++ record { op = r; key = x; source = e } ∷ [])
  ListsReadsBefore-read r x v e reads this source before =
      listed-item (λ k. k.op) (IsKnownRead h) r.session r.index (record { op = r; key = x; source = e }) reads
      (record { value = v; reads = this; source = source })
      (λ k known here.
      let there : Reads h r k.key known.value = subst (λ (o : OpId). Reads h o k.key known.value) here known.reads in
      let same = same_read h r x v k.key known.value this there in
      let sources = if_any-unique r e k.source source (subst (λ (o : OpId). IsSourceIfAny h o k.source) here known.source) in
      λ i. record { op = sym here i; key = same.0 i; source = sources i })
      before

  -- one operation more that is none
  pub ListsReadsBefore-other : (r : OpId) (reads : List KnownRead) → ((x v : ℕ) → ¬ Reads h r x v)
      → ListsReadsBefore h r reads → ListsReadsBefore h (op r.session (r.index + 1)) reads
  ListsReadsBefore-other r reads no_read before =
      listed-none (λ k. k.op) (IsKnownRead h) r.session r.index reads
      (λ k known here. no_read k.key known.value (subst (λ (o : OpId). Reads h o k.key known.value) here known.reads))
      before

  known-of_history : (k : KnownRead) → IsKnownRead h k → IsOp h k.op
  known-of_history k known = read-of_history h k.op k.key known.value known.reads

  -- the end of a session
  pub ListsReadsBefore-session : (s i : ℕ) (reads : List KnownRead) → length (session h s) ≤ i
      → ListsReadsBefore h (op s i) reads → ListsReadsBefore h (op (s + 1) 0) reads
  ListsReadsBefore-session = listed-session (λ k. k.op) (IsKnownRead h) h known-of_history

  -- the end of the last session
  pub ListsReads-end : (sources : Sources) → ListsSourcesIfAny h sources → (s : ℕ) (reads : List KnownRead) → length h.1 ≤ s
      → ListsReadsBefore h (op s 0) reads → ListsReads h reads
  ListsReads-end sources lists s reads ended before = record {
    each = λ r x v this.
        let k : KnownRead = record { op = r; key = x; source = listed_source sources r } in
        let known : IsKnownRead h k = record { value = v; reads = this; source = listed-if_any sources lists r } in
        (k, listed-end (λ k. k.op) (IsKnownRead h) h known-of_history s reads ended before k known, λ i. r);
    no_other = before.no_other;
  }

  -- a known read that lacks its source shows that a source is missing
  pub its-missing : (k : KnownRead) → IsKnownRead h k → LacksItsSource h k → LacksSource h
  its-missing k known lacks =
      let none : (w : OpId) → ¬ ReadsFrom h w k.op = subst (λ (e : Option OpId). IsSourceIfAny h k.op e) lacks.0 known.source in
      (k.op, lacks.1.0, lacks.1.1, lacks.1.2, lacks.1.3, λ w wrote. none w (lacks.1.0, lacks.1.1, wrote, lacks.1.2, lacks.1.3))

  its-source : (k : KnownRead) → (x v : ℕ) → Reads h k.op x v → v ≢ initial h x → ((w : OpId) → ¬ Writes h w x v)
      → (e : Option OpId) → IsSourceIfAny h k.op e → e ≡ None
  its-source k x v reads apart unwritten None none = λ i. None
  its-source k x v reads apart unwritten (Some w) source =
      let from = source.0 in
      let same = same_read h k.op x v from.0 from.1 reads from.3 in
      absurd (unwritten w (subst₂ (λ (y u : ℕ). Writes h w y u) (sym same.0) (sym same.1) from.2))

  -- where no listed read lacks its source, none is missing
  pub none-missing : (reads : List KnownRead) → ListsReads h reads → (n : ℕ) → length reads ≤ n
      → ((i : ℕ) (k : KnownRead) → i < n → slice_get reads i ≡ Some k → ¬ LacksItsSource h k) → ¬ LacksSource h
  none-missing reads lists n ended none lacks =
      let entry = lists.each lacks.0 lacks.1 lacks.2 lacks.3 in
      let k = entry.0 in
      let known = lists.no_other k entry.1 in
      let at = slice_get-get_or reads entry.1.0 k entry.1.1 ∙ ap (λ (m : KnownRead). Some m) entry.1.2 in
      let inside : entry.1.0 < length reads = entry.1.1 in
      let this : Reads h k.op lacks.1 lacks.2 = subst (λ (o : OpId). Reads h o lacks.1 lacks.2) (sym entry.2) lacks.3 in
      none entry.1.0 k (omega arith) at
      (its-source k lacks.1 lacks.2 this lacks.4 lacks.5 k.source known.source, (lacks.1, lacks.2, this, lacks.4))

  -- the last write before an operation, by the sorted writes
  pub last-before : (writes : List Write) → ListsWrites h writes → (x : ℕ) (end : OpId) (e : Option OpId)
      → IfSome e (λ w. w.session ≡ end.session)
      → ((i : ℕ) → (i < end_of e) ↔ IsBelowWrite writes x end.session end.index i)
      → MatchOption e (HasNoWriteBefore h x end) (IsLastWriteBefore h x end)
  last-before writes lists x end None same_session bound = λ i v below wrote.
      let none = (bound i).1 (i, v, omega arith, below, lists.each (op end.session i) x v wrote) in
      absurd (omega arith)
  last-before writes lists x end (Some w) same_session bound =
      let at = (bound w.index).0 (omega arith) in
      let behind = (bound at.0).1 (at.0, at.1, omega arith, at.3, at.4) in
      let index : at.0 ≡ w.index = let from = at.2 in omega arith in
      let is : op end.session at.0 ≡ w = same_op (op end.session at.0) w (sym same_session) index in
      record {
        session = same_session;
        before = let below = at.3 in omega arith;
        value = at.1;
        writes = subst (λ (o : OpId). Writes h o x at.1) is (lists.no_other _ at.4);
        last = λ i v below wrote.
            let less = (bound i).1 (i, v, omega arith, below, lists.each (op end.session i) x v wrote) in
            omega arith;
      }
