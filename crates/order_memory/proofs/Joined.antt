-- How the vector of an operation that is taken in is raised to that of another one.
use Rattle.std.specs.Prelude.{◌≡◌, ◌≢◌, ℕ, ◌+◌, ◌<◌, ◌≤◌, length, max, slice_index}
use Rattle.std.proofs.Common.{arith, refl, sym, ap, subst, ◌∙◌, ⊎_elim}
use Rattle.std.proofs.lemmas.Bool.{cases_eq, cases_lt}
use Rattle.model_history.specs.declared.op_id.OpId.{OpId}
use Rattle.order_memory.specs.declared.growing_order.GrowingOrder.{GrowingOrder}
use Rattle.order_memory.specs.Memory.{MemoryHistory}
use Rattle.order_memory.specs.Steps.GrowthSteps.{Always, Grows, GrowsWithin, IsGrowing, IsRaisedFrom, NoReads}
use Rattle.order_memory.specs.Steps.TakingIn.{DropsRaise, IsJoined, IsRaisedAlone}
use Rattle.order_causal.specs.Vectors.{Counts, count}
use Rattle.order_causal.proofs.OrdersLaws.{same_op}
use Rattle.order_memory.proofs.GrowthLaws.{grows-same, grows-then, grows-wider}
use Rattle.order_memory.proofs.Raises.{grows-outside}

module _ (h : MemoryHistory) where
  -- one count was raised, and that does not wait
  pub raised-alone : (a r b : GrowingOrder) (o : OpId) (u c : ℕ) → slice_index a.past.items o.session ≡ o.index + 1 → length a.pending.items ≡ 0
      → GrowsWithin h NoReads a r → IsRaisedFrom a.counts r.counts (slice_index a.past.items o.session) o.session o.index u c
      → length r.pending.items ≤ length a.pending.items + 1 → DropsRaise h r b → IsRaisedAlone h a b o u c
  raised-alone a r b o u c last empty within raised few drops = record {
    grows = grows-then h Always NoReads a r b (grows-wider h ⊥ Always (λ none. absurd none) NoReads NoReads (λ p is. is) a r within.grows) drops.grows;
    past = drops.past ∙ within.past;
    empty = drops.fewer (omega arith);
    others = λ p s apart.
        let same = ap (λ (v : Counts). count v p s) drops.counts in
        let same_past = ap (λ es. slice_index es o.session) within.past in
        same ∙ ⊎_elim
        (λ (kept : count r.counts p s ≡ count a.counts p s). kept)
        (λ (change : (p.session ≡ o.session) × (o.index ≤ p.index) × (s ≡ u) × (count a.counts p s < c) × (count r.counts p s ≡ c)).
        let from = change.1 in
        ⊎_elim
        (λ (here : p.index ≡ o.index). absurd (apart (same_op p o change.0 here, change.2)))
        (λ (later : p.index ≢ o.index).
        grows-outside h ⊥ NoReads a.counts a r within.grows (λ q t behind. refl) p s
        (subst (λ (t : ℕ). slice_index r.past.items t ≤ p.index) (sym change.0) (omega arith)))
        (cases_eq p.index o.index))
        (raised.changes p s);
    here =
        let same = ap (λ (v : Counts). count v o u) drops.counts in
        let reached = raised.reached (omega arith) in
        ⊎_elim
        (λ (kept : count r.counts o u ≡ count a.counts o u). omega arith)
        (λ (change : (o.session ≡ o.session) × (o.index ≤ o.index) × (u ≡ u) × (count a.counts o u < c) × (count r.counts o u ≡ c)).
        let less = change.3 in let is = change.4 in omega arith)
        (raised.changes o u);
  }

  -- nothing is raised
  pub joined-same : (a : GrowingOrder) (o : OpId) (row : ℕ → ℕ) → IsGrowing h a → length a.pending.items ≡ 0 → ((s : ℕ) → row s ≤ count a.counts o s) → IsJoined h a a o row
  joined-same a o row growing empty less = record {
    grows = grows-same h Always NoReads a growing;
    past = refl;
    empty = empty;
    others = λ p s apart. refl;
    here = λ s. let most = less s in omega arith;
  }

  -- the counts of the first n sessions were raised
  pub record IsJoinedUpTo (a b : GrowingOrder) (o m : OpId) (n : ℕ) : Type 0 where
    pub grows : Grows h Always NoReads a b
    pub past : b.past.items ≡ a.past.items
    pub empty : length b.pending.items ≡ 0
    pub others : (p : OpId) (s : ℕ) → p ≢ o → count b.counts p s ≡ count a.counts p s
    pub here : (s : ℕ) → s < n → count b.counts o s ≡ max (count a.counts o s) (count a.counts m s)
    pub rest : (s : ℕ) → n ≤ s → count b.counts o s ≡ count a.counts o s

  pub joined-none : (a : GrowingOrder) (o m : OpId) → IsGrowing h a → length a.pending.items ≡ 0 → IsJoinedUpTo a a o m 0
  joined-none a o m growing empty = record {
    grows = grows-same h Always NoReads a growing;
    past = refl;
    empty = empty;
    others = λ p s apart. refl;
    here = λ s below. absurd (omega arith);
    rest = λ s from. refl;
  }

  module _ (a b : GrowingOrder) (o m : OpId) (n : ℕ) (apart : m ≢ o) (joined : IsJoinedUpTo a b o m n) where
    -- those of one session more
    pub joined-next : (x : GrowingOrder) (u c : ℕ) → n ≤ u → c ≡ count b.counts m u → ((z : ℕ) → n ≤ z → z < u → count b.counts m z ≤ count b.counts o z)
        → IsRaisedAlone h b x o u c → IsJoinedUpTo a x o m (u + 1)
    joined-next x u c from is less raised = record {
      grows = grows-then h Always NoReads a b x joined.grows raised.grows;
      past = raised.past ∙ joined.past;
      empty = raised.empty;
      others = λ p s other. raised.others p s (λ both. other both.0) ∙ joined.others p s other;
      here = λ s below. ⊎_elim
          (λ (last : s ≡ u).
          let now = raised.here in
          let before = joined.rest u from in
          let row = joined.others m u apart in
          subst (λ (t : ℕ). count x.counts o t ≡ max (count a.counts o t) (count a.counts m t)) (sym last) (omega arith))
          (λ (other : s ≢ u).
          let same = raised.others o s (λ both. other both.1) in
          ⊎_elim
          (λ (old : s < n). let before = joined.here s old in omega arith)
          (λ (later : n ≤ s).
          let before = joined.rest s later in
          let row = joined.others m s apart in
          let most = less s later (omega arith) in
          omega arith)
          (cases_lt s n))
          (cases_eq s u);
      rest = λ s above. raised.others o s (λ both. let is_u = both.1 in absurd (omega arith)) ∙ joined.rest s (omega arith);
    }

    -- and in the end all
    pub joined-all : ((z : ℕ) → n ≤ z → count b.counts m z ≤ count b.counts o z) → IsJoined h a b o (count a.counts m)
    joined-all less = record {
      grows = joined.grows;
      past = joined.past;
      empty = joined.empty;
      others = joined.others;
      here = λ s. ⊎_elim
          (λ (old : s < n). joined.here s old)
          (λ (later : n ≤ s).
          let before = joined.rest s later in
          let row = joined.others m s apart in
          let most = less s later in
          omega arith)
          (cases_lt s n);
    }
