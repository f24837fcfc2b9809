-- How a raise is made of single counts.
use Rattle.std.specs.Prelude.{◌≡◌, ◌≢◌, ◌⊎◌, ℕ, ◌+◌, ◌-◌, ◌<◌, ◌≤◌, ◌∷◌, ◌++◌, [], List, true, length, slice_index}
use Rattle.std.proofs.Common.{arith, refl, sym, ap, subst, ◌∙◌, ⊎_elim, inl, inr, append-nil}
use Rattle.std.proofs.lemmas.Bool.{cases_eq, cases_lt}
use Rattle.model_history.specs.declared.op_id.OpId.{OpId}
use Rattle.model_history.specs.History.{IsOp}
use Rattle.order_memory.specs.declared.growing_order.Cause.{Cause}
use Rattle.order_memory.specs.declared.growing_order.GrowingOrder.{GrowingOrder}
use Rattle.order_memory.specs.declared.growing_order.Raised.{Raised}
use Rattle.order_memory.specs.CountSums.{all_counted}
use Rattle.order_memory.specs.Memory.{MemoryHistory}
use Rattle.order_causal.specs.Orders.{op, Ops}
use Rattle.order_causal.specs.Vectors.{IsListed, Counts, count, list_of, with_item}
use Rattle.order_memory.specs.Steps.GrowthSteps.{IsRange, IsGrowing, IsCaused, IsRaise, IsOneRaise, IsRaisedTo, IsRaisedFrom, cause_behind, raises_from}
use Rattle.order_causal.proofs.Items.{item-cases, item-here}
use Rattle.order_memory.proofs.HeldItems.{listed-held}
use Rattle.order_memory.proofs.RaiseLists.{raises-next}
use Rattle.order_memory.proofs.Ranges.{range-rises}

-- a range of one more
range-next : (v w : Counts) (t i e u c : ℕ) → IsRange v w t i e u c → i ≤ e → IsListed w (op t e) → u < length (list_of w (op t e))
    → count w (op t e) u < c → IsRange v (with_item w (op t e) u c) t i (e + 1) u c
range-next v w t i e u c range from listed inside less =
    let value = item-here w (op t e) u c listed inside in
    record {
      each = λ p s. ⊎_elim
          (λ (same : count (with_item w (op t e) u c) p s ≡ count w p s). ⊎_elim
          (λ (before : count w p s ≡ count v p s). inl (same ∙ before))
          (λ (change : (p.session ≡ t) × (i ≤ p.index) × (p.index < e) × (s ≡ u) × (count v p s < c) × (count w p s ≡ c)).
          let below = change.2 in
          inr (change.0, change.1, omega arith, change.3, change.4, same ∙ change.5))
          (range.each p s))
          (λ (places : (p ≡ op t e) × (s ≡ u)).
          let of_session : p.session ≡ t = ap (λ (q : OpId). q.session) places.0 in
          let of_index : p.index ≡ e = ap (λ (q : OpId). q.index) places.0 in
          let same_w : count w p s ≡ count w (op t e) u = ap (λ (q : OpId). count w q s) places.0 ∙ ap (λ (k : ℕ). count w (op t e) k) places.1 in
          let now : count (with_item w (op t e) u c) p s ≡ c =
          ap (λ (q : OpId). count (with_item w (op t e) u c) q s) places.0 ∙ ap (λ (k : ℕ). count (with_item w (op t e) u c) (op t e) k) places.1 ∙ value in
          ⊎_elim
          (λ (before : count w p s ≡ count v p s). inr (of_session, omega arith, omega arith, places.1, omega arith, now))
          (λ (change : (p.session ≡ t) × (i ≤ p.index) × (p.index < e) × (s ≡ u) × (count v p s < c) × (count w p s ≡ c)).
          let below = change.2 in absurd (omega arith))
          (range.each p s))
          (item-cases w (op t e) u c listed p s);
      reached = λ j above below. ⊎_elim
          (λ (last : j ≡ e). subst (λ (k : ℕ). count (with_item w (op t e) u c) (op t k) u ≡ c) (sym last) value)
          (λ (apart : j ≢ e). ⊎_elim
          (λ (same : count (with_item w (op t e) u c) (op t j) u ≡ count w (op t j) u). same ∙ range.reached j above (omega arith))
          (λ (places : (op t j ≡ op t e) × (u ≡ u)). absurd (apart (ap (λ (q : OpId). q.index) places.0)))
          (item-cases w (op t e) u c listed (op t j) u))
          (cases_eq j e);
    }

module _ (h : MemoryHistory) where
  -- nothing is raised yet
  pub raised-none : (a : GrowingOrder) (t i u c : ℕ) (cause : Cause) → IsGrowing h a → IsRaisedTo h a a t i i u c cause
  raised-none a t i u c cause growing = record {
    growing = growing;
    from = omega arith;
    inside = λ some. absurd (omega arith);
    range = record { each = λ p s. inl refl; reached = λ j from below. absurd (omega arith) };
    first = λ some. absurd (omega arith);
    pending = refl;
    past = refl;
    added = refl;
    more = omega arith;
    raises =
        let none : 0 ≡ i - i = omega arith in
        subst (λ (n : ℕ). a.raises.items ≡ a.raises.items ++ raises_from (op t i) u c cause n) none (sym (append-nil a.raises.items));
    none = λ _. refl;
    cyclic = refl;
    most = refl;
  }

  -- one count more is raised
  pub raised-next : (a b x : GrowingOrder) (t i e u c : ℕ) (cause named : Cause) → IsRaisedTo h a b t i e u c cause
      → e < slice_index b.past.items t → IsOp h (op t e) → u < length h.1 → cause_behind cause (op t i) (e - i) ≡ named → IsOneRaise h b x (op t e) u c named → IsRaisedTo h a x t i (e + 1) u c cause
  raised-next a b x t i e u c cause named before inside is_op exists is one =
      let listed = listed-held h b.counts before.growing.counts (op t e) is_op u c exists in
      let size = before.growing.counts.vectors.counts (op t e) is_op in
      let from = before.from in
      let range : IsRange a.counts (with_item b.counts (op t e) u c) t i (e + 1) u c =
      range-next a.counts b.counts t i e u c before.range from listed (omega arith) one.less in
      let same_past = ap (λ (es : _). slice_index es t) before.past in
      let less = one.less in
      record {
        growing = one.growing;
        from = omega arith;
        inside = λ some. omega arith;
        range = subst (λ (w : Counts). IsRange a.counts w t i (e + 1) u c) (sym one.counts) range;
        first = λ some. ⊎_elim
            (λ (begun : i ≡ e). ⊎_elim
            (λ (same : count b.counts (op t e) u ≡ count a.counts (op t e) u).
            subst (λ (k : ℕ). count a.counts (op t k) u < c) (sym begun) (omega arith))
            (λ (change : (t ≡ t) × (i ≤ e) × (e < e) × (u ≡ u) × (count a.counts (op t e) u < c) × (count b.counts (op t e) u ≡ c)).
            let none = change.2 in absurd (omega arith))
            (before.range.each (op t e) u))
            (λ (later : i ≢ e). before.first (omega arith))
            (cases_eq i e);
        pending = one.pending ∙ before.pending;
        past = one.past ∙ before.past;
        added = let first = before.added in let second = one.added in omega arith;
        more = let first = before.more in let second = one.more in omega arith;
        raises = raises-next (op t i) u c cause i e refl before.from a.raises.items b.raises.items x.raises.items named is before.raises one.raises;
        none = λ last. absurd (omega arith);
        cyclic = one.cyclic ∙ before.cyclic;
        most = one.most ∙ before.most;
      }

  -- behind the range a count is as it was
  pub raised-end : (a b : GrowingOrder) (t i e u c : ℕ) (cause : Cause) → IsRaisedTo h a b t i e u c cause → count b.counts (op t e) u ≡ count a.counts (op t e) u
  raised-end a b t i e u c cause raised = ⊎_elim
      (λ (same : count b.counts (op t e) u ≡ count a.counts (op t e) u). same)
      (λ (change : (t ≡ t) × (i ≤ e) × (e < e) × (u ≡ u) × (count a.counts (op t e) u < c) × (count b.counts (op t e) u ≡ c)).
      let none = change.2 in absurd (omega arith))
      (raised.range.each (op t e) u)

  module _ (a b : GrowingOrder) (t i e u c : ℕ) (cause : Cause) (raised : IsRaisedTo h a b t i e u c cause)
      (stopped : e < slice_index a.past.items t → c ≤ count a.counts (op t e) u) where
    -- what is raised so far is raised from its first operation on
    pub raised-from : IsRaisedFrom a.counts b.counts (slice_index a.past.items t) t i u c
    raised-from = record {
      changes = λ p s. ⊎_elim
          (λ (as_before : count b.counts p s ≡ count a.counts p s). inl as_before)
          (λ (change : (p.session ≡ t) × (i ≤ p.index) × (p.index < e) × (s ≡ u) × (count a.counts p s < c) × (count b.counts p s ≡ c)).
          inr (change.0, change.1, change.3, change.4, change.5))
          (raised.range.each p s);
      reached = λ is_in. ⊎_elim
          (λ (some : i < e). let now = raised.range.reached i (omega arith) some in omega arith)
          (λ (none : e ≤ i).
          let from = raised.from in
          let here : e ≡ i = omega arith in
          let rises = range-rises a.counts b.counts t i e u c raised.range (op t i) u in
          let enough : c ≤ count a.counts (op t i) u = subst (λ (k : ℕ). c ≤ count a.counts (op t k) u) here (stopped (omega arith)) in
          omega arith)
          (cases_lt i e);
    }

    -- and it is a raise, once it waits to be followed
    pub raise-made : (reads : Ops) (x : GrowingOrder) → i < e → IsOp h (op t i) → IsCaused h reads a.counts (op t i) u c cause → x.counts ≡ b.counts → x.past.items ≡ b.past.items
        → x.pending.items ≡ b.pending.items ++ record { op = op t i; end = e; session = u } ∷ [] → x.added ≡ b.added → x.raises.items ≡ b.raises.items → x.most ≡ b.most
        → (((x.is_cyclic ≡ b.is_cyclic) × (t ≢ u)) ⊎ ((x.is_cyclic ≡ true) × (t ≡ u))) → IsRaise h reads a x
    raise-made reads x some is_op caused counts past pending added raises most cyclic = record {
      raised = record { op = op t i; end = e; session = u };
      number = c;
      is_op = is_op;
      some = some;
      first = raised.first some;
      inside = raised.inside some;
      range = subst (λ (v : Counts). IsRange a.counts v t i e u c) (sym counts) raised.range;
      stopped = stopped;
      named = cause;
      cause = caused;
      raises = raises ∙ raised.raises;
      pending = pending ∙ ap (λ (es : List Raised). es ++ record { op = op t i; end = e; session = u } ∷ []) raised.pending;
      past = past ∙ raised.past;
      added = subst (λ (v : Counts). x.added + all_counted h a.counts ≡ a.added + all_counted h v) (sym counts) (let sums = raised.added in omega arith);
      more = subst (λ (v : Counts). all_counted h a.counts + (e - i) ≤ all_counted h v) (sym counts) raised.more;
      cyclic = ⊎_elim
          (λ (same : (x.is_cyclic ≡ b.is_cyclic) × (t ≢ u)). inl (same.0 ∙ raised.cyclic, same.1))
          (λ (cycle : (x.is_cyclic ≡ true) × (t ≡ u)). inr cycle)
          cyclic;
      most = most ∙ raised.most;
    }
