-- How the happened-before relation of an operation grows until nothing waits.
use Rattle.std.specs.Prelude.{◌≡◌, ◌⊎◌, ℕ, ◌+◌, ◌<◌, ◌≤◌, ◌∷◌, [], List, length, false, true, Contains, Option, slice_index}
use Rattle.std.proofs.Common.{arith, refl, sym, ap, subst, subst₂, ◌∙◌, ⊎_elim, inl, inr, length-append}
use Rattle.std.proofs.lemmas.List.Elements.{Contains-push_cases}
use Rattle.model_history.specs.declared.op_id.OpId.{OpId}
use Rattle.model_history.specs.History.{session}
use Rattle.order_memory.specs.declared.growing_order.Raise.{Raise}
use Rattle.order_memory.specs.declared.growing_order.Raised.{Raised}
use Rattle.order_memory.specs.declared.happened_before.HappenedBefore.{HappenedBefore}
use Rattle.order_memory.specs.declared.writes.Write.{Write}
use Rattle.order_memory.specs.CountSums.{all_counted}
use Rattle.order_memory.specs.Memory.{MemoryHistory}
use Rattle.order_memory.specs.Raises.{AreRightRaises}
use Rattle.order_causal.specs.Orders.{op, program_past}
use Rattle.order_memory.specs.SourceOrder.{CountsSourceOrder, ListsSourcesBelow}
use Rattle.order_memory.specs.Steps.GrowthSteps.{Always, Grows, GrowsWithin, IsAtEnd, IsBegun, IsCovered, IsFollowed, IsPending, IsSettled, NoMore, NoReads, TakesOut, Waits, left_of}
use Rattle.order_memory.specs.Steps.HappenedBefores.{AreReadsFollowed, AreStrictOf, HasGrown, IsMade, IsReadDone, IsReadFollowed, IsReadWaiting, IsWellFormed, last_of, past_count}
use Rattle.order_causal.specs.Vectors.{Counts, count}
use Rattle.order_memory.specs.Steps.Written.{AreByVariable, ListsWrites}
use Rattle.order_memory.proofs.GrowthLaws.{grows-same, grows-step, grows-wider}
use Rattle.order_memory.proofs.RelationsMade.{grown-reads}

-- what waits for more waits still
followed-more : (waits after : Raised → Type 0) → ((e : Raised) → waits e → after e) → (v : Counts) (p : OpId) (y : ℕ) → IsFollowed waits v p y → IsFollowed after v p y
followed-more waits after more v p y followed fresh i z ends = ⊎_elim
    (λ (counts : count v (op y i) z ≤ count v p z). inl counts)
    (λ (waiting : IsPending waits p y ⊎ IsCovered waits v (op y i) z). ⊎_elim
    (λ (is : IsPending waits p y). inr (inl (is.0, more is.0 is.1, is.2, is.3)))
    (λ (is : IsCovered waits v (op y i) z). inr (inr (is.0, more is.0 is.1, is.2, is.3, is.4, is.5)))
    waiting)
    (followed fresh i z ends)

read-more : (h : MemoryHistory) (waits after : Raised → Type 0) → ((e : Raised) → waits e → after e) → (v : Counts) (r : OpId) (u : ℕ)
    → IsReadFollowed h waits v r u → IsReadFollowed h after v r u
read-more h waits after more v r u followed = ⊎_elim
    (λ (done : IsReadDone h v r u). inl done)
    (λ (is : IsReadWaiting waits r u). inr (is.0, more is.0 is.1, is.2, is.3, is.4, is.5))
    followed

module _ (h : MemoryHistory) where
  -- the relation of no operation
  pub made-first : (v : Counts) → CountsSourceOrder h v → (happened : HappenedBefore) → IsWellFormed h happened → AreStrictOf h v happened.order.counts
      → IsBegun happened.order → happened.taken ≡ 0 → IsMade h happened
  made-first v counts happened well_formed strict begun none = record {
    well_formed = well_formed;
    causal = v;
    counts = counts;
    strict = happened.order.counts;
    begun = strict;
    grown = λ p s. omega arith;
    outside = λ p s behind. refl;
    untouched = λ same p s. refl;
    added = let added = begun.added in omega arith;
    past = λ s. let is = begun.past s in omega arith;
    all = λ _ s. let nothing = ap (λ (n : ℕ). past_count v happened.session n s) none in omega arith;
    cyclic = λ is. let both : false ≡ true = sym begun.cyclic ∙ is in absurd cc;
    acyclic = λ not p is_op. strict.own p is_op;
    supported = λ distinct n is. absurd (omega arith);
    right = λ n is_op from. subst (λ (es : List Raise). AreRightRaises h (op happened.session n) happened.order.counts es) (sym begun.raises)
        (record { each = λ k e at. absurd cc });
    reached = λ b s. inl (omega arith);
    few = let none = ap (λ (es : List Raise). length es) begun.raises in omega arith;
    transitive = λ _. record {
      empty = ap (λ (es : List Raised). length es) begun.pending;
      inside = λ b y is_in. let is = begun.past b.session in absurd (omega arith);
      monotone = λ s j z below. let is = begun.past s in absurd (omega arith);
      pasts = λ b y i z is_in. let is = begun.past b.session in absurd (omega arith);
    };
    reads = λ _ j u below exists. absurd (omega arith);
  }

  -- nothing grows
  pub grown-same : (free : Type 0) (a : HappenedBefore) → IsWellFormed h a → HasGrown h free a a
  grown-same free a well_formed = record {
    well_formed = well_formed;
    order = grows-same h free (program_past (last_of a)) a.order well_formed.order;
    past = refl;
    session = refl;
    taken = refl;
  }

  module _ (a b : HappenedBefore) (well_formed : IsWellFormed h a) (same_session : b.session ≡ a.session) (same_taken : b.taken ≡ a.taken)
      (writes : b.writes.items ≡ a.writes.items) (sources : b.sources.items ≡ a.sources.items) where
    module _ (free : Type 0) (order : Grows h free (program_past (last_of a)) a.order b.order) (past : b.order.past.items ≡ a.order.past.items) where
      -- the state of the relation grows as its vectors do
      pub grown-order : HasGrown h free a b
      grown-order = record {
        well_formed = record {
          order = order.growing;
          exists = let exists = well_formed.exists in omega arith;
          taken = subst₂ (λ (n s : ℕ). n ≤ length (session h s)) (sym same_taken) (sym same_session) well_formed.taken;
          writes = subst (λ (ws : List Write). ListsWrites h ws) (sym writes) well_formed.writes;
          by_variable = subst (λ (ws : List Write). AreByVariable ws) (sym writes) well_formed.by_variable;
          sources = subst₂ (λ (s : ℕ) (es : List (Option OpId)). ListsSourcesBelow h s (length (session h s)) es) (sym same_session) (sym sources) well_formed.sources;
        };
        order = order;
        past = past;
        session = same_session;
        taken = same_taken;
      }

    pub grown-within : GrowsWithin h NoReads a.order b.order → HasGrown h ⊥ a b
    grown-within within =
        grown-order ⊥ (grows-wider h ⊥ ⊥ (λ none. none) NoReads (program_past (last_of a)) (λ r none. absurd cc) a.order b.order within.grows) within.past

    module _ (e : Raised) (takes : TakesOut h a.order b.order e) where
      released-waits : (x : Raised) → Waits NoMore a.order x → Waits (λ y. y ≡ e) b.order x
      released-waits x waits = ⊎_elim
          (λ (held : Contains a.order.pending.items x). ⊎_elim
          (λ (left : Contains b.order.pending.items x). inl left)
          (λ (is : takes.release.raised ≡ x). inr (sym is ∙ takes.same))
          (Contains-push_cases b.order.pending.items takes.release.raised x (subst (λ (es : List Raised). Contains es x) takes.release.pending held)))
          (λ (none : ⊥). absurd none)
          waits

      pub released-grown : HasGrown h Always a b
      released-grown = grown-order Always (grows-step h Always (program_past (last_of a)) a.order b.order takes.growing (inr (inr (tt, takes.release)))) takes.release.past

      pub released-settled : IsSettled NoMore a.order → IsSettled (λ y. y ≡ e) b.order
      released-settled settled = record {
        monotone = λ s j z below.
            let same = ap (λ (es : List ℕ). slice_index es s) takes.release.past in
            let before = settled.monotone s j z (omega arith) in
            let left = ap (λ (v : Counts). count v (op s j) z) takes.release.counts in
            let right = ap (λ (v : Counts). count v (op s (j + 1)) z) takes.release.counts in
            omega arith;
        followed = λ p y is_in. followed-more (Waits NoMore a.order) (Waits (λ x. x ≡ e) b.order) released-waits b.order.counts p y
            (subst (λ (v : Counts). IsFollowed (Waits NoMore a.order) v p y) (sym takes.release.counts)
            (settled.followed p y (subst (λ (es : List ℕ). p.index < slice_index es p.session) takes.release.past is_in)));
      }

      pub released-reads : AreReadsFollowed h NoMore a.taken a → AreReadsFollowed h (λ y. y ≡ e) b.taken b
      released-reads reads j u below exists =
          subst₂ (λ (s : ℕ) (v : Counts). IsReadFollowed h (Waits (λ y. y ≡ e) b.order) v (op s j) u) (sym same_session) (sym takes.release.counts)
          (read-more h (Waits NoMore a.order) (Waits (λ y. y ≡ e) b.order) released-waits a.order.counts (op a.session j) u (reads j u (omega arith) exists))

      -- one step fewer is left
      pub released-left : left_of h b.order < left_of h a.order
      released-left =
          let more = ap (λ (es : List Raised). length es) takes.release.pending ∙ length-append b.order.pending.items (takes.release.raised ∷ []) in
          let same = ap (λ (v : Counts). all_counted h v) takes.release.counts in
          omega arith

    -- nothing was taken out
    module _ (ended : IsAtEnd h a.order b.order) where
      pub ended-grown : HasGrown h Always a b
      ended-grown = grown-order Always (grows-step h Always (program_past (last_of a)) a.order b.order ended.growing (inr (inl ended.same))) ended.past

      ended-waits : (x : Raised) → Waits NoMore a.order x → Waits NoMore b.order x
      ended-waits x waits = ⊎_elim
          (λ (held : Contains a.order.pending.items x). inl (subst (λ (es : List Raised). Contains es x) (sym ended.same.pending) held))
          (λ (none : ⊥). inr none)
          waits

      pub ended-settled : IsSettled NoMore a.order → IsSettled NoMore b.order
      ended-settled settled = record {
        monotone = λ s j z below.
            let same = ap (λ (es : List ℕ). slice_index es s) ended.past in
            let before = settled.monotone s j z (omega arith) in
            let left = ap (λ (v : Counts). count v (op s j) z) ended.same.counts in
            let right = ap (λ (v : Counts). count v (op s (j + 1)) z) ended.same.counts in
            omega arith;
        followed = λ p y is_in. followed-more (Waits NoMore a.order) (Waits NoMore b.order) ended-waits b.order.counts p y
            (subst (λ (v : Counts). IsFollowed (Waits NoMore a.order) v p y) (sym ended.same.counts)
            (settled.followed p y (subst (λ (es : List ℕ). p.index < slice_index es p.session) ended.past is_in)));
      }

      pub ended-reads : AreReadsFollowed h NoMore a.taken a → AreReadsFollowed h NoMore b.taken b
      ended-reads reads j u below exists =
          subst₂ (λ (s : ℕ) (v : Counts). IsReadFollowed h (Waits NoMore b.order) v (op s j) u) (sym same_session) (sym ended.same.counts)
          (read-more h (Waits NoMore a.order) (Waits NoMore b.order) ended-waits a.order.counts (op a.session j) u (reads j u (omega arith) exists))

  -- where the reads are followed that a raise concerns, all are but for what waits
  pub reads-followed : (a x : HappenedBefore) (raised : Raised) → HasGrown h ⊥ a x → AreReadsFollowed h (λ e. e ≡ raised) a.taken a
      → ((j : ℕ) → raised.op.session ≡ x.session → raised.op.index ≤ j → j < raised.end → j < x.taken
      → IsReadFollowed h (Waits NoMore x.order) x.order.counts (op x.session j) raised.session)
      → AreReadsFollowed h NoMore x.taken x
  reads-followed a x raised grown reads followed j u below exists =
      let taken = grown.taken in
      ⊎_elim
      (λ (done : IsReadDone h x.order.counts (op x.session j) u). inl done)
      (λ (waiting : IsReadWaiting (Waits (λ e. e ≡ raised) x.order) (op x.session j) u). ⊎_elim
      (λ (held : Contains x.order.pending.items waiting.0). inr (waiting.0, inl held, waiting.2, waiting.3, waiting.4, waiting.5))
      (λ (this : waiting.0 ≡ raised).
      let of_session : raised.op.session ≡ x.session = subst (λ (e : Raised). e.op.session ≡ x.session) this waiting.3 in
      let from : raised.op.index ≤ j = subst (λ (e : Raised). e.op.index ≤ j) this waiting.4 in
      let under : j < raised.end = subst (λ (e : Raised). j < e.end) this waiting.5 in
      let same : raised.session ≡ u = subst (λ (e : Raised). e.session ≡ u) this waiting.2 in
      subst (λ (t : ℕ). IsReadFollowed h (Waits NoMore x.order) x.order.counts (op x.session j) t) same (followed j of_session from under below))
      waiting.1)
      (grown-reads h (λ e. e ≡ raised) a.taken a x grown reads j u (omega arith) exists)
