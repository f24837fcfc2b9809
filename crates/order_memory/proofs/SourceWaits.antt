-- Operations that wait for their sources.
use Rattle.std.specs.Prelude.{◌≡◌, ◌≢◌, ◌⊎◌, ℕ, ◌+◌, ◌<◌, ◌≤◌, List, [], ◌∷◌, ◌++◌, length, take, Some, slice_get}
use Rattle.std.proofs.Common.{arith, get_or, sym, ap, subst, ◌∙◌, inl, inr, ⊎_elim, refl}
use Rattle.std.proofs.lemmas.Bool.{cases_eq}
use Rattle.std.proofs.lemmas.List.{take_more}
use Rattle.std.proofs.lemmas.Option.{same_Some, slice_get_within, get_or_from_slice_get}
use Rattle.model_history.specs.declared.op_id.OpId.{OpId}
use Rattle.model_history.specs.History.{Precedes}
use Rattle.order_memory.specs.Memory.{MemoryHistory}
use Rattle.order_causal.specs.Orders.{op, IsEarlier}
use Rattle.order_memory.proofs.ListedSources.{ListsSources}
use Rattle.order_memory.specs.Sources.{Sources, HasSource, Comes, IsStep, IsReady, IsUnfinished}
use Rattle.order_causal.specs.Vectors.{IsListed, Counts, count}
use Rattle.order_causal.specs.Steps.Waiting.{AddsWait}
use Rattle.order_memory.specs.Steps.SourceWaits.{FollowsSources, IsSourceBefore}
use Rattle.order_causal.specs.Schedules.{placed, next_of}
use Rattle.order_causal.specs.Waits.{AreAlike, AreWaitsFor, IsAwaited, IsWaitEdge, IsWaitingCycle, IsTopologicalOrder}
use Rattle.order_memory.proofs.EarlierLaws.{earlier_cases, earlier_later}
use Rattle.order_memory.proofs.FirstWrites.{source-listed, sources-length}
use Rattle.order_memory.proofs.MemoryLaws.{write-or_read}
use Rattle.order_causal.proofs.PushedLaws.{listed-length, pushed, pushed-other, pushed-length}
use Rattle.order_causal.proofs.PathsLaws.{leads-wider}
use Rattle.order_causal.proofs.TopologicalLaws.{placed-same}
use Rattle.order_causal.proofs.WaitsLaws.{waits_for-same, waits_for-more, waits_for-none}
use Rattle.order_causal.proofs.WaitsLead.{cycle-leads}
use Rattle.order_causal.proofs.Walked.{placed-other}

module _ (sources : Sources) where
  -- the sources of none
  pub sources-none : (waits : Counts) → ((o : OpId) (s : ℕ) → count waits o s ≡ 0) → AreWaitsFor (IsSourceBefore sources (op 0 0)) waits
  sources-none waits zero = waits_for-none (IsSourceBefore sources (op 0 0)) waits zero
      (λ a o is. ⊎_elim (λ (below : o.session < 0). omega arith) (λ (same : (o.session ≡ 0) × (o.index < 0)). let below = same.1 in omega arith) is.1)

  module _ (s i : ℕ) (before : Counts) (so_far : AreWaitsFor (IsSourceBefore sources (op s i)) before) where
    -- one operation more that has a source
    pub sources-more : (w : OpId) (after : Counts) → HasSource sources (op s i) w → AddsWait (op s i) w before after
        → AreWaitsFor (IsSourceBefore sources (op s (i + 1))) after
    sources-more w after has adds = waits_for-same
        (λ b p. IsSourceBefore sources (op s i) b p ⊎ ((b ≡ w) × (p ≡ op s i))) (IsSourceBefore sources (op s (i + 1))) after
        (λ b p. ⊎_elim
        (λ (old : IsSourceBefore sources (op s i) b p). (old.0, earlier_later p s i old.1))
        (λ (new : (b ≡ w) × (p ≡ op s i)).
        let here : IsSourceBefore sources (op s (i + 1)) w (op s i) = (has, inr (refl, omega arith)) in
        subst (λ (q : OpId). IsSourceBefore sources (op s (i + 1)) b q) (sym new.1)
        (subst (λ (c : OpId). IsSourceBefore sources (op s (i + 1)) c (op s i)) (sym new.0) here)))
        (λ b p is. ⊎_elim
        (λ (old : IsEarlier p (op s i)). inl (is.0, old))
        (λ (here : p ≡ op s i).
        let other : HasSource sources (op s i) b = subst (λ (q : OpId). HasSource sources q b) here is.0 in
        inr (same_Some b w (same_Some _ _ (sym other ∙ has)), here))
        (earlier_cases p s i is.1))
        (waits_for-more (IsSourceBefore sources (op s i)) (op s i) w before after so_far adds)

    -- or that has none
    pub sources-other : ((w : OpId) → ¬ HasSource sources (op s i) w) → AreWaitsFor (IsSourceBefore sources (op s (i + 1))) before
    sources-other none = waits_for-same (IsSourceBefore sources (op s i)) (IsSourceBefore sources (op s (i + 1))) before
        (λ b p old. (old.0, earlier_later p s i old.1))
        (λ b p is. ⊎_elim
        (λ (old : IsEarlier p (op s i)). (is.0, old))
        (λ (here : p ≡ op s i). absurd (none b (subst (λ (q : OpId). HasSource sources q b) here is.0)))
        (earlier_cases p s i is.1))
        so_far

    -- the end of a session
    pub sources-session : length (get_or sources s []) ≤ i → AreWaitsFor (IsSourceBefore sources (op (s + 1) 0)) before
    sources-session ended = waits_for-same (IsSourceBefore sources (op s i)) (IsSourceBefore sources (op (s + 1) 0)) before
        (λ b p old. (
          old.0,
          ⊎_elim
              (λ (below : p.session < s). inl (omega arith))
              (λ (same : (p.session ≡ s) × (p.index < i)). let here = same.0 in inl (omega arith))
              old.1,
        ))
        (λ b p is.
        let there = slice_get_within (get_or sources p.session []) p.index (Some b) is.0 in (
          is.0,
          ⊎_elim
              (λ (below : p.session < s + 1). ⊎_elim
              (λ (same : p.session ≡ s).
              let here : p.index < length (get_or sources s []) = subst (λ (t : ℕ). p.index < length (get_or sources t [])) same there in
              inr (same, omega arith))
              (λ (apart : p.session ≢ s). inl (omega arith))
              (cases_eq p.session s))
              (λ (same : (p.session ≡ s + 1) × (p.index < 0)). let below = same.1 in absurd (omega arith))
              is.1,
        ))
        so_far

  -- the end of the last session
  pub sources-end : (n : ℕ) (waits : Counts) → length sources ≤ n → AreWaitsFor (IsSourceBefore sources (op n 0)) waits
      → AreWaitsFor (λ w o. HasSource sources o w) waits
  sources-end n waits ended so_far = waits_for-same (IsSourceBefore sources (op n 0)) (λ w o. HasSource sources o w) waits
      (λ b p is. is.0)
      (λ b p has.
      let there = slice_get_within (get_or sources p.session []) p.index (Some b) has in
      let inside = listed-length sources p.session p.index there in
      (has, inl (omega arith)))
      so_far

  module _ (waits : Counts) (alike : AreAlike waits sources) (are : AreWaitsFor (λ w o. HasSource sources o w) waits) where
    -- an order in which operations follow those that they wait for follows their sources
    pub order-follows : ((o : OpId) → ¬ HasSource sources o o) → (schedule : List ℕ) → IsTopologicalOrder waits schedule → FollowsSources sources schedule
    order-follows apart schedule order k s at =
        let o = next_of (take k schedule) s in
        let can = order.can k s at in
        let same = alike.operations s in
        let there = can.there in (
          omega arith,
          λ w has. can.ready w (are.each w o has, λ (equal : w ≡ o). apart o (subst (λ (b : OpId). HasSource sources o b) equal has)),
        )

    -- and a cycle makes one of the order by sources
    pub cycle-comes : (ops : List OpId) → IsWaitingCycle waits ops → (a : OpId) × Comes sources a a
    cycle-comes ops cycle =
        let leads = cycle-leads waits ops cycle in (
          leads.0,
          leads-wider (IsWaitEdge waits) (IsStep sources) (λ a b. ⊎_elim
              (λ (before : Precedes a b × IsListed waits b).
              let same = alike.operations b.session in let listed = before.1 in inl (before.0, omega arith))
              (λ (awaited : IsAwaited waits b a). inr (are.last a b awaited.0)))
              leads.0 leads.0 leads.1,
        )

    -- vectors of all that an order places leave no operation without one
    pub order-finished : (schedule : List ℕ) → IsTopologicalOrder waits schedule → (v : Counts)
        → ((s : ℕ) → length (get_or v s []) ≡ placed schedule s) → (s : ℕ) → ¬ IsUnfinished sources v s
    order-finished schedule order v placed_all s unfinished =
        let whole = order.whole s in
        let here = placed_all s in
        let same = alike.operations s in
        omega arith

  module _ (schedule : List ℕ) (k s : ℕ) (at : slice_get schedule k ≡ Some s) (v : Counts)
      (placed_so_far : (t : ℕ) → length (get_or v t []) ≡ placed (take k schedule) t) where
    -- the next operation that a schedule names is ready where those before it have vectors
    pub along-ready : FollowsSources sources schedule → IsReady sources v s
    along-ready follows =
        let this = follows k s at in
        let there = this.0 in
        let here = placed_so_far s in
        record {
          unfinished = omega arith;
          source = λ w has.
              let source : HasSource sources (next_of (take k schedule) s) w = subst (λ (n : ℕ). HasSource sources (op s n) w) here has in
              let below = this.1 w source in
              let of_source = placed_so_far w.session in
              omega arith;
        }

    -- and behind its vector so many are placed again
    pub along-push : (after : Counts) (row : List ℕ) → s < length v → after ≡ pushed v s row
        → (t : ℕ) → length (get_or after t []) ≡ placed (take (k + 1) schedule) t
    along-push after row inside is t =
        let below = slice_get_within schedule k s at in
        let value : get_or schedule k 0 ≡ s = get_or_from_slice_get schedule k s 0 at in
        let more = take_more schedule k 0 below in
        ⊎_elim
        (λ (same : t ≡ s).
        let here = placed_so_far s in
        let counted = placed-same (take k schedule) s in
        let long = pushed-length v s row inside in
        let done : length (get_or (pushed v s row) s []) ≡ placed (take k schedule ++ s ∷ []) s = omega arith in
        subst (λ (r : ℕ). length (get_or after r []) ≡ placed (take (k + 1) schedule) r) (sym same)
        (subst (λ (w : Counts). length (get_or w s []) ≡ placed (take (k + 1) schedule) s) (sym is)
        (subst (λ (xs : List ℕ). length (get_or (pushed v s row) s []) ≡ placed xs s) (sym (more ∙ ap (λ (r : ℕ). take k schedule ++ r ∷ []) value)) done)))
        (λ (apart : t ≢ s).
        let here = placed_so_far t in
        let counted = placed-other (take k schedule) s t apart in
        let as_before = ap (λ (xs : List (List ℕ)). length xs) (pushed-other v s row inside t apart) in
        let done : length (get_or (pushed v s row) t []) ≡ placed (take k schedule ++ s ∷ []) t = omega arith in
        subst (λ (w : Counts). length (get_or w t []) ≡ placed (take (k + 1) schedule) t) (sym is)
        (subst (λ (xs : List ℕ). length (get_or (pushed v s row) t []) ≡ placed xs t) (sym (more ∙ ap (λ (r : ℕ). take k schedule ++ r ∷ []) value)) done))
        (cases_eq t s)

module _ (h : MemoryHistory) (sources : Sources) (lists : ListsSources h sources) where
  -- the sources of a history are those of its operations
  pub lists-alike : AreAlike sources h.1
  lists-alike = record { sessions = lists.sessions; operations = sources-length h sources lists }

  -- and no operation is its own source
  pub source-apart : (o : OpId) → ¬ HasSource sources o o
  source-apart o has =
      let from = (source-listed h sources lists o o has).0 in
      write-or_read h o o from.0 from.1 from.0 from.1 from.2 from.3 refl
