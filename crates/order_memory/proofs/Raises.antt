-- What the steps of a state in which vectors grow keep.
use Rattle.std.specs.Prelude.{◌≡◌, ◌≢◌, ◌⊎◌, ℕ, ◌+◌, ◌*◌, ◌<◌, ◌≤◌, ◌∷◌, [], List, true, false, length, Contains, IsTrue, slice_index}
use Rattle.std.proofs.Common.{arith, refl, sym, ap, subst, subst₂, ◌∙◌, ⊎_elim, inl, inr, length-append}
use Rattle.std.proofs.lemmas.Bool.{cases_eq}
use Rattle.std.proofs.lemmas.List.Elements.{Contains-append_left, Contains-push}
use Rattle.model_history.specs.declared.op_id.OpId.{OpId}
use Rattle.model_history.specs.History.{IsOp, Precedes}
use Rattle.order_memory.specs.declared.growing_order.Cause.{Cause}
use Rattle.order_memory.specs.declared.growing_order.Cause.TheVariants.{Through, Read}
use Rattle.order_memory.specs.declared.growing_order.GrowingOrder.{GrowingOrder}
use Rattle.order_memory.specs.declared.growing_order.Raised.{Raised}
use Rattle.order_memory.specs.CountSums.{all_counted}
use Rattle.order_memory.specs.Memory.{MemoryHistory, IsDifferentiated}
use Rattle.order_causal.specs.Orders.{op, Ops, program_past}
use Rattle.order_memory.specs.Relations.{IsEdge, IsPast, HB}
use Rattle.order_memory.specs.SourceOrder.{CountsSourceOrder}
use Rattle.order_memory.specs.Steps.GrowthSteps.{IsCaused, IsIn, Waits, IsPending, IsFresh, IsFollowed, IsMonotone, IsSettled, IsRaise, Grows, GrowsWithin, left_of}
use Rattle.order_memory.specs.Steps.HappenedBefores.{IsSupported}
use Rattle.order_causal.specs.Vectors.{Counts, count, IsCounted}
use Rattle.order_memory.proofs.CountSumsLaws.{counted-most}
use Rattle.order_memory.proofs.GrowthLaws.{grows-keep}
use Rattle.order_memory.proofs.HappenedBeforeLaws.{past-before, past-of_history, HB-causal, HB-transitive, HB-inside, past-program}
use Rattle.order_memory.proofs.HappenedBeforeVectors.{past-session, supported-through, supported-rival}
use Rattle.order_causal.proofs.OrdersLaws.{same_op}
use Rattle.order_memory.proofs.Ranges.{IsChange, range-rises, range-outside, range-monotone, range-followed, range-pending}
use Rattle.order_causal.proofs.PathsLaws.{leads-edge}

module _ (h : MemoryHistory) (free : Type 0) (reads : Ops) where
  module _ (a b : GrowingOrder) (raise : IsRaise h reads a b) where
    pub raise-rises : (p : OpId) (s : ℕ) → count a.counts p s ≤ count b.counts p s
    raise-rises p s = range-rises a.counts b.counts raise.raised.op.session raise.raised.op.index raise.raised.end raise.raised.session raise.number raise.range p s

    pub raise-waits : (more : Raised → Type 0) (e : Raised) → Waits more a e → Waits more b e
    raise-waits more e waits = ⊎_elim
        (λ (held : Contains a.pending.items e).
        inl (subst (λ (es : List Raised). Contains es e) (sym raise.pending) (Contains-append_left a.pending.items (raise.raised ∷ []) e held)))
        (λ (is : more e). inr is)
        waits

    pub raise-here : (more : Raised → Type 0) → Waits more b raise.raised
    raise-here more = inl (subst (λ (es : List Raised). Contains es raise.raised) (sym raise.pending) (Contains-push a.pending.items raise.raised))

  -- no count falls
  pub grows-rises : (a b : GrowingOrder) → Grows h free reads a b → (p : OpId) (s : ℕ) → count a.counts p s ≤ count b.counts p s
  grows-rises a b grows = grows-keep h free reads (λ (x : GrowingOrder). (p : OpId) (s : ℕ) → count a.counts p s ≤ count x.counts p s)
      (λ x y before raise p s. let less = before p s in let rises = raise-rises x y raise p s in omega arith)
      (λ x y before included p s. let less = before p s in let same = ap (λ (v : Counts). count v p s) included.counts in omega arith)
      (λ x y before is released p s. let less = before p s in let same = ap (λ (v : Counts). count v p s) released.counts in omega arith)
      a b grows (λ p s. omega arith)

  -- what is in stays in
  pub grows-in : (a b : GrowingOrder) → Grows h free reads a b → (s : ℕ) → slice_index a.past.items s ≤ slice_index b.past.items s
  grows-in a b grows = grows-keep h free reads (λ (x : GrowingOrder). (s : ℕ) → slice_index a.past.items s ≤ slice_index x.past.items s)
      (λ x y before raise s. let less = before s in let same = ap (λ (es : List ℕ). slice_index es s) raise.past in omega arith)
      (λ x y before included s. let less = before s in let more = included.past s in omega arith)
      (λ x y before is released s. let less = before s in let same = ap (λ (es : List ℕ). slice_index es s) released.past in omega arith)
      a b grows (λ s. omega arith)

  -- what may be added stays the same
  pub grows-most : (a b : GrowingOrder) → Grows h free reads a b → b.most ≡ a.most
  grows-most a b grows = grows-keep h free reads (λ (x : GrowingOrder). x.most ≡ a.most)
      (λ x y before raise. raise.most ∙ before)
      (λ x y before included. included.most ∙ before)
      (λ x y before is released. released.most ∙ before)
      a b grows refl

  -- each raise adds to the sum of counts and to what was added, and waits
  pub grows-sums : (a b : GrowingOrder) → Grows h free reads a b
      → (b.added + all_counted h a.counts ≡ a.added + all_counted h b.counts)
      × (length b.pending.items + 2 * all_counted h a.counts ≤ length a.pending.items + 2 * all_counted h b.counts)
      × (all_counted h a.counts ≤ all_counted h b.counts)
  grows-sums a b grows = grows-keep h free reads (λ (x : GrowingOrder).
      (x.added + all_counted h a.counts ≡ a.added + all_counted h x.counts)
      × (length x.pending.items + 2 * all_counted h a.counts ≤ length a.pending.items + 2 * all_counted h x.counts)
      × (all_counted h a.counts ≤ all_counted h x.counts))
      (λ x y before raise.
      let sums = raise.added in
      let some = raise.some in
      let more = raise.more in
      let one = ap (λ (es : List Raised). length es) raise.pending ∙ length-append x.pending.items (raise.raised ∷ []) in
      let first = before.0 in
      let second = before.1 in
      let third = before.2 in
      (omega arith, omega arith, omega arith))
      (λ x y before included.
      let sums = ap (λ (v : Counts). all_counted h v) included.counts in
      let same = included.added in
      let one = ap (λ (es : List Raised). length es) included.pending in
      let first = before.0 in
      let second = before.1 in
      let third = before.2 in
      (omega arith, omega arith, omega arith))
      (λ x y before is released.
      let sums = ap (λ (v : Counts). all_counted h v) released.counts in
      let same = released.added in
      let one = ap (λ (es : List Raised). length es) released.pending ∙ length-append y.pending.items (released.raised ∷ []) in
      let first = before.0 in
      let second = before.1 in
      let third = before.2 in
      (omega arith, omega arith, omega arith))
      a b grows (refl, omega arith, omega arith)

  -- what a cause puts before an operation is within bounds, where those that are within them count no more
  module _ (bound : ℕ → ℕ) (within : (r : OpId) → IsTrue (reads r) → r.index < bound r.session) where
    abbrev IsBounded : Counts → Type 0
    IsBounded v = (p : OpId) (y : ℕ) → p.index < bound p.session → count v p y ≤ bound y

    caused-bounded : (v : Counts) → IsBounded v → (b : OpId) (u c : ℕ) → b.index < bound b.session → (cause : Cause) → IsCaused h reads v b u c cause → c ≤ bound u
    caused-bounded v bounded b u c inside (Through m) through =
        let below : m.index < bound m.session = ⊎_elim
        (λ (counted : IsCounted v b m). let most = bounded b m.session inside in omega arith)
        (λ (precedes : Precedes m b).
        let before = precedes.1 in
        subst (λ (t : ℕ). m.index < bound t) (sym precedes.0) (omega arith))
        through.0 in
        let most = bounded m u below in
        let less = through.1 in
        omega arith
    caused-bounded v bounded b u c inside (Read r) ruled =
        let most = bounded r u (within r ruled.2) in
        let last = ruled.1 in
        let below = ruled.5 in
        omega arith

    -- so they still count no more
    pub grows-bounded : (a b : GrowingOrder) → Grows h free reads a b → IsBounded a.counts → IsBounded b.counts
    grows-bounded a b grows = grows-keep h free reads (λ (x : GrowingOrder). IsBounded x.counts)
        (λ x y before raise p z inside. ⊎_elim
        (λ (same : count y.counts p z ≡ count x.counts p z). let most = before p z inside in omega arith)
        (λ (change : IsChange x.counts y.counts raise.raised.op.session raise.raised.op.index raise.raised.end raise.raised.session raise.number raise.range p z).
        let from = change.1 in
        let here : raise.raised.op.index < bound raise.raised.op.session = subst (λ (t : ℕ). raise.raised.op.index < bound t) change.0 (omega arith) in
        let most = caused-bounded x.counts before raise.raised.op raise.raised.session raise.number here raise.named raise.cause in
        let value = change.5 in
        subst (λ (t : ℕ). count y.counts p z ≤ bound t) (sym change.3) (omega arith))
        (raise.range.each p z))
        (λ x y before included p z inside. let most = before p z inside in let same = ap (λ (v : Counts). count v p z) included.counts in omega arith)
        (λ x y before is released p z inside. let most = before p z inside in let same = ap (λ (v : Counts). count v p z) released.counts in omega arith)
        a b grows

  -- so no more steps are left
  pub grows-left : (a b : GrowingOrder) → Grows h free reads a b → left_of h b ≤ left_of h a
  grows-left a b grows =
      let sums = grows-sums a b grows in
      let waiting = sums.1 in
      let more = sums.2 in
      let most = counted-most h b.counts grows.growing.counts in
      omega arith

  -- counts that don't fall along the sessions still don't
  pub grows-monotone : (past : ℕ → ℕ) (a b : GrowingOrder) → Grows h free reads a b → ((s : ℕ) → past s ≤ slice_index a.past.items s)
      → IsMonotone a.counts past → IsMonotone b.counts past
  grows-monotone past a b grows within monotone = (grows-keep h free reads
      (λ (x : GrowingOrder). ((s : ℕ) → past s ≤ slice_index x.past.items s) × IsMonotone x.counts past)
      (λ x y before raise. (
        (λ s. let less = before.0 s in let same = ap (λ (es : List ℕ). slice_index es s) raise.past in omega arith),
        range-monotone x.counts y.counts raise.raised.op.session raise.raised.op.index raise.raised.end raise.raised.session raise.number raise.range
            past before.1 (λ below. raise.stopped (let less = before.0 raise.raised.op.session in omega arith)),
      ))
      (λ x y before included. (
        (λ s. let less = before.0 s in let rises = included.past s in omega arith),
        subst (λ (v : Counts). IsMonotone v past) (sym included.counts) before.1,
      ))
      (λ x y before is released. (
        (λ s. let less = before.0 s in let same = ap (λ (es : List ℕ). slice_index es s) released.past in omega arith),
        subst (λ (v : Counts). IsMonotone v past) (sym released.counts) before.1,
      ))
      a b grows (within, monotone)).1

  module _ (strict : Counts) where
    -- what is not in is as it was
    pub grows-outside : (a b : GrowingOrder) → Grows h free reads a b
        → ((p : OpId) (s : ℕ) → slice_index a.past.items p.session ≤ p.index → count a.counts p s ≡ count strict p s)
        → (p : OpId) (s : ℕ) → slice_index b.past.items p.session ≤ p.index → count b.counts p s ≡ count strict p s
    grows-outside a b grows = grows-keep h free reads
        (λ (x : GrowingOrder). (p : OpId) (s : ℕ) → slice_index x.past.items p.session ≤ p.index → count x.counts p s ≡ count strict p s)
        (λ x y before raise p s behind.
        let same_past = ap (λ (es : List ℕ). slice_index es p.session) raise.past in
        let kept = range-outside x.counts y.counts raise.raised.op.session raise.raised.op.index raise.raised.end raise.raised.session raise.number raise.range p s
        (λ change.
        let within = raise.inside in
        let below = change.2 in
        let here : raise.raised.end ≤ slice_index x.past.items p.session = subst (λ (t : ℕ). raise.raised.end ≤ slice_index x.past.items t) (sym change.0) within in
        omega arith) in
        kept ∙ before p s (omega arith))
        (λ x y before included p s behind.
        let rises = included.past p.session in
        ap (λ (v : Counts). count v p s) included.counts ∙ before p s (omega arith))
        (λ x y before is released p s behind.
        let same = ap (λ (es : List ℕ). slice_index es p.session) released.past in
        ap (λ (v : Counts). count v p s) released.counts ∙ before p s (omega arith))
        a b grows

    -- where nothing was added all is as it was
    pub grows-untouched : (a b : GrowingOrder) → Grows h free reads a b
        → (a.added ≡ 0 → (p : OpId) (s : ℕ) → count a.counts p s ≡ count strict p s)
        → b.added ≡ 0 → (p : OpId) (s : ℕ) → count b.counts p s ≡ count strict p s
    grows-untouched a b grows = grows-keep h free reads
        (λ (x : GrowingOrder). x.added ≡ 0 → (p : OpId) (s : ℕ) → count x.counts p s ≡ count strict p s)
        (λ x y before raise none. let sums = raise.added in let some = raise.some in let more = raise.more in absurd (omega arith))
        (λ x y before included none p s.
        let same = included.added in
        ap (λ (v : Counts). count v p s) included.counts ∙ before (omega arith) p s)
        (λ x y before is released none p s.
        let same = released.added in
        ap (λ (v : Counts). count v p s) released.counts ∙ before (omega arith) p s)
        a b grows

  -- some operation that is in is counted by itself where the state says so, and where it doesn't none is
  abbrev pub TellsCycles : GrowingOrder → Type 0
  TellsCycles order = ((p : OpId) → IsOp h p → p.index ≤ count order.counts p p.session)
      × (order.is_cyclic ≡ true → (p : OpId) × IsIn order p × IsCounted order.counts p p)
      × (order.is_cyclic ≡ false → (p : OpId) → IsOp h p → count order.counts p p.session ≡ p.index)

  tells-raise : (x y : GrowingOrder) → TellsCycles x → IsRaise h reads x y → TellsCycles y
  tells-raise x y before raise = (
    (λ p is_op. let own = before.0 p is_op in let rises = raise-rises x y raise p p.session in omega arith),
    (λ is. ⊎_elim
        (λ (same : (y.is_cyclic ≡ x.is_cyclic) × (raise.raised.op.session ≢ raise.raised.session)).
        let cycle = before.1 (sym same.0 ∙ is) in
        let rises = raise-rises x y raise cycle.0 cycle.0.session in
        let counted = cycle.2 in
        (cycle.0, subst (λ (es : List ℕ). cycle.0.index < slice_index es cycle.0.session) (sym raise.past) cycle.1, omega arith))
        (λ (cyclic : (y.is_cyclic ≡ true) × (raise.raised.op.session ≡ raise.raised.session)).
        let some = raise.some in
        let inside = raise.inside in
        let own = before.0 raise.raised.op raise.is_op in
        let first : count x.counts raise.raised.op raise.raised.op.session < raise.number =
        subst (λ (s : ℕ). count x.counts raise.raised.op s < raise.number) (sym cyclic.1) raise.first in
        let reached = raise.range.reached raise.raised.op.index (omega arith) some in
        let now : count y.counts raise.raised.op raise.raised.op.session ≡ raise.number =
        subst (λ (s : ℕ). count y.counts raise.raised.op s ≡ raise.number) (sym cyclic.1) reached in (
          raise.raised.op,
          subst (λ (es : List ℕ). raise.raised.op.index < slice_index es raise.raised.op.session) (sym raise.past) (omega arith),
          omega arith,
        ))
        raise.cyclic),
    (λ not p is_op. ⊎_elim
        (λ (same : (y.is_cyclic ≡ x.is_cyclic) × (raise.raised.op.session ≢ raise.raised.session)).
        let own = before.2 (sym same.0 ∙ not) p is_op in
        range-outside x.counts y.counts raise.raised.op.session raise.raised.op.index raise.raised.end raise.raised.session raise.number raise.range p p.session
        (λ change. same.1 (sym change.0 ∙ change.3)) ∙ own)
        (λ (cyclic : (y.is_cyclic ≡ true) × (raise.raised.op.session ≡ raise.raised.session)).
        let both : true ≡ false = sym cyclic.0 ∙ not in absurd cc)
        raise.cyclic),
  )

  pub grows-cyclic : (a b : GrowingOrder) → Grows h free reads a b → TellsCycles a → TellsCycles b
  grows-cyclic a b grows = grows-keep h free reads TellsCycles tells-raise
      (λ x y before included. (
        (λ p is_op. subst (λ (v : Counts). p.index ≤ count v p p.session) (sym included.counts) (before.0 p is_op)),
        (λ is.
            let cycle = before.1 (sym included.cyclic ∙ is) in
            let rises = included.past cycle.0.session in
            let there = cycle.1 in
            (cycle.0, omega arith, subst (λ (v : Counts). IsCounted v cycle.0 cycle.0) (sym included.counts) cycle.2)),
        (λ not p is_op. subst (λ (v : Counts). count v p p.session ≡ p.index) (sym included.counts) (before.2 (sym included.cyclic ∙ not) p is_op)),
      ))
      (λ x y before is released. (
        (λ p is_op. subst (λ (v : Counts). p.index ≤ count v p p.session) (sym released.counts) (before.0 p is_op)),
        (λ cyclic.
            let cycle = before.1 (sym released.cyclic ∙ cyclic) in
            let same = ap (λ (es : List ℕ). slice_index es cycle.0.session) released.past in
            let there = cycle.1 in
            (cycle.0, omega arith, subst (λ (v : Counts). IsCounted v cycle.0 cycle.0) (sym released.counts) cycle.2)),
        (λ not p is_op. subst (λ (v : Counts). count v p p.session ≡ p.index) (sym released.counts) (before.2 (sym released.cyclic ∙ not) p is_op)),
      ))
      a b grows

  module _ (v : Counts) (counts : CountsSourceOrder h v) (distinct : IsDifferentiated h) (o : OpId) (is_op : IsOp h o)
      (kept : (r : OpId) → IsTrue (reads r) → IsTrue (program_past o r)) where
    module _ (now : Counts) (supported : IsSupported h o now) where
      -- what is before an operation in its session is before it
      earlier-HB : (m p : OpId) → Precedes m p → IsPast h o p → IsPast h o m × HB h o m p
      earlier-HB m p before in_p =
          let p_is_op = past-of_history h o p is_op in_p in
          let leads = leads-edge (IsEdge h) m p (inl (before, p_is_op)) in
          let in_m = past-before h o m p leads in_p in
          (in_m, HB-causal h o m p in_m in_p leads)

      caused-HB : (f : OpId) (u c : ℕ) → IsPast h o f → (cause : Cause) → IsCaused h reads now f u c cause → (j : ℕ) → j < c → HB h o (op u j) f
      caused-HB f u c in_f (Through m) through j below =
          let before : IsPast h o m × HB h o m f = ⊎_elim
          (λ (counted : IsCounted now f m).
          let happened = supported m f in_f counted in
          ((HB-inside h v counts distinct o is_op m f happened).0, happened))
          (λ (precedes : Precedes m f). earlier-HB m f precedes in_f)
          through.0 in
          supported-through h v counts distinct o is_op now supported m f u c before.0 before.1 through.1 j below
      caused-HB f u c in_f (Read r) ruled j below =
          let last = ruled.1 in
          supported-rival h v counts distinct o is_op now supported f r u ruled.0 ruled.4 ruled.3 (kept r ruled.2)
          (past-program h o r is_op (kept r ruled.2)) ruled.5 j (omega arith)

    supported-raise : (x y : GrowingOrder) → IsSupported h o x.counts → IsRaise h reads x y → IsSupported h o y.counts
    supported-raise x y supported raise a p in_p counted = ⊎_elim
        (λ (same : count y.counts p a.session ≡ count x.counts p a.session). supported a p in_p (omega arith))
        (λ (change : IsChange x.counts y.counts raise.raised.op.session raise.raised.op.index raise.raised.end raise.raised.session raise.number raise.range p a.session).
        let f : OpId = raise.raised.op in
        let from = change.1 in
        let value = change.5 in
        let in_here : IsPast h o (op raise.raised.op.session p.index) =
        subst (λ (q : OpId). IsPast h o q) (same_op p (op raise.raised.op.session p.index) change.0 refl) in_p in
        let in_f : IsPast h o f = past-session h v counts distinct o is_op raise.raised.op.session raise.raised.op.index p.index from in_here in
        let first = caused-HB x.counts supported f raise.raised.session raise.number in_f raise.named raise.cause a.index (omega arith) in
        let here : HB h o a f = subst (λ (q : OpId). HB h o q f) (sym (same_op a (op raise.raised.session a.index) change.3 refl)) first in
        ⊎_elim
        (λ (same : p.index ≡ raise.raised.op.index). subst (λ (q : OpId). HB h o a q) (sym (same_op p f change.0 same)) here)
        (λ (apart : p.index ≢ raise.raised.op.index).
        HB-transitive h o a f p here (earlier-HB x.counts supported f p (sym change.0, omega arith) in_p).1)
        (cases_eq p.index raise.raised.op.index))
        (raise.range.each p a.session)

    -- what is counted is in the relation
    pub grows-supported : (a b : GrowingOrder) → Grows h free reads a b → IsSupported h o a.counts → IsSupported h o b.counts
    grows-supported a b grows = grows-keep h free reads (λ (x : GrowingOrder). IsSupported h o x.counts) supported-raise
        (λ x y before included. subst (λ (w : Counts). IsSupported h o w) (sym included.counts) before)
        (λ x y before is released. subst (λ (w : Counts). IsSupported h o w) (sym released.counts) before)
        a b grows

-- while no raise is taken out
module _ (h : MemoryHistory) (reads : Ops) where
  module _ (more : Raised → Type 0) where
    pub grows-followed : (a b : GrowingOrder) → Grows h ⊥ reads a b → (p : OpId) (y : ℕ)
        → IsFollowed (Waits more a) a.counts p y → IsFollowed (Waits more b) b.counts p y
    grows-followed a b grows p y = grows-keep h ⊥ reads (λ (x : GrowingOrder). IsFollowed (Waits more x) x.counts p y)
        (λ x z before raise.
        range-followed x.counts z.counts raise.raised.op.session raise.raised.op.index raise.raised.end raise.raised.session raise.number raise.range
        raise.raised refl refl refl (Waits more x) (Waits more z) (raise-waits h ⊥ reads x z raise more) (raise-here h ⊥ reads x z raise more) p y before)
        (λ x z before included.
        subst₂ (λ (v : Counts) (es : List Raised). IsFollowed (λ e. Contains es e ⊎ more e) v p y) (sym included.counts) (sym included.pending) before)
        (λ x z before is released. absurd is)
        a b grows

    pub grows-pending : (a b : GrowingOrder) → Grows h ⊥ reads a b → (n : ℕ) (p : OpId) (y : ℕ) → count a.counts p y ≡ n
        → (count b.counts p y ≡ n) ⊎ (IsFresh (Waits more b) b.counts p y → IsPending (Waits more b) p y)
    grows-pending a b grows n p y same = grows-keep h ⊥ reads
        (λ (x : GrowingOrder). (count x.counts p y ≡ n) ⊎ (IsFresh (Waits more x) x.counts p y → IsPending (Waits more x) p y))
        (λ x z before raise.
        range-pending x.counts z.counts raise.raised.op.session raise.raised.op.index raise.raised.end raise.raised.session raise.number raise.range
        raise.raised refl refl refl (Waits more x) (Waits more z) (raise-waits h ⊥ reads x z raise more) (raise-here h ⊥ reads x z raise more) n p y before)
        (λ x z before included.
        subst₂ (λ (v : Counts) (es : List Raised). (count v p y ≡ n) ⊎ (IsFresh (λ e. Contains es e ⊎ more e) v p y → IsPending (λ e. Contains es e ⊎ more e) p y))
        (sym included.counts) (sym included.pending) before)
        (λ x z before is released. absurd is)
        a b grows (inl same)

  -- a state that is settled stays so while no operation is taken in
  pub settled-within : (more : Raised → Type 0) (a b : GrowingOrder) → GrowsWithin h reads a b → IsSettled more a → IsSettled more b
  settled-within more a b within settled = record {
    monotone = subst (λ (es : List ℕ). IsMonotone b.counts (λ s. slice_index es s)) (sym within.past)
        (grows-monotone h ⊥ reads (λ s. slice_index a.past.items s) a b within.grows (λ s. omega arith) settled.monotone);
    followed = λ p y is_in. grows-followed more a b within.grows p y
        (settled.followed p y (subst (λ (es : List ℕ). p.index < slice_index es p.session) within.past is_in));
  }
