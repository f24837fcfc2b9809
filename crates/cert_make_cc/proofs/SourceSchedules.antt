-- The schedule of an operation that reads from a write: the write stands as late as the order lets it.
use Rattle.std.proofs.Common.{◌≡◌, ◌⊎◌, ℕ, ◌+◌, ◌<◌, ◌≤◌, List, [], ◌∷◌, ◌++◌, length, take, arith, get_or, inl, inr, sym, ap, subst, ◌∙◌, ⊎_elim, take_all}
use Rattle.std.specs.Prelude.{◌≢◌, Some, slice_get}
use Rattle.std.proofs.lemmas.Bool.{cases_eq, cases_lt}
use Rattle.std.proofs.lemmas.List.{length_push, take-append-le}
use Rattle.std.proofs.lemmas.Option.{slice_get-get_or}
use Rattle.model_history.specs.declared.op_id.OpId.{OpId}
use Rattle.model_history.specs.History.{IsOp}
use Rattle.order_causal.proofs.Fronts.{front-take, front-at, push-at, push-last}
use Rattle.order_causal.proofs.FullWalks.{walk-longer}
use Rattle.order_causal.proofs.OrdersLaws.{same_op}
use Rattle.order_memory.proofs.SourceVectors.{counts-before}
use Rattle.order_causal.proofs.TopologicalLaws.{placed-same}
use Rattle.order_causal.proofs.Walked.{placed-other}
use Rattle.order_memory.specs.Memory.{MemoryHistory}
use Rattle.order_causal.proofs.Placed.{placed-up}
use Rattle.order_causal.specs.Orders.{op, StandsAt}
use Rattle.order_memory.specs.SourceOrder.{CountsSourceOrder, SourceOrder}
use Rattle.order_causal.specs.Topological.{CanGoOn, IsFullWalk}
use Rattle.order_causal.specs.Schedules.{placed}
use Rattle.order_causal.specs.Vectors.{Counts, list_of, count, IsCounted}
use Rattle.cert_check.specs.Schedules.{named, StandsBefore, IsSchedule}
use Rattle.cert_check.proofs.Named.{named_is, named_at, named_within, before_from_counted}
use Rattle.cert_make.proofs.WalkedSchedules.{step-existing, step-after, walk-ends}
use Rattle.cert_make_cc.specs.BySources.{AreApart}
use Rattle.cert_make_cc.proofs.SourceLimits.{write-op, limit-most, apart-to, write-above, write-limit, first-places}

module _ (h : MemoryHistory) (v : Counts) (order : CountsSourceOrder h v) (o w : OpId) (is_op : IsOp h o) (before : SourceOrder h w o)
    (limits : List ℕ) (apart : AreApart v o w limits) (first : List ℕ) (full : IsFullWalk v limits [] first)
    (schedule : List ℕ) (rest : IsFullWalk v (list_of v o) (first ++ w.session ∷ []) schedule) where
  first_part : List ℕ
  first_part = first ++ w.session ∷ []

  first-length : length (first ++ w.session ∷ []) ≡ length first + 1
  first-length = length_push first w.session

  front-of : (k : ℕ) → k ≤ length first → take k schedule ≡ take k first
  front-of k up_to =
      let len = first-length in
      front-take (first ++ w.session ∷ []) schedule rest.walk.extends k (omega arith) ∙ take-append-le k first (w.session ∷ []) up_to

  at-front : (k s : ℕ) → k < length first → slice_get schedule k ≡ Some s → slice_get first k ≡ Some s
  at-front k s below at =
      let len = first-length in
      push-at first w.session k s below (front-at (first ++ w.session ∷ []) schedule rest.walk.extends k s (omega arith) at)

  at-write : (s : ℕ) → slice_get schedule (length first) ≡ Some s → w.session ≡ s
  at-write s at =
      let len = first-length in
      push-last first w.session s (front-at (first ++ w.session ∷ []) schedule rest.walk.extends (length first) s (omega arith) at)

  front-places : (s : ℕ) → placed (take (length first) schedule) s ≡ get_or limits s 0
  front-places s =
      let whole = front-of (length first) (omega arith) ∙ take_all (length first) first (omega arith) in
      ap (λ (xs : List ℕ). placed xs s) whole ∙ first-places h v order o w is_op before limits apart first full s

  -- the write stands behind the first part
  pub write-stands : StandsAt (named schedule) (length first) w
  write-stands =
      let len = first-length in
      let longer = walk-longer v (list_of v o) (first ++ w.session ∷ []) schedule rest.walk in
      let there = slice_get-get_or schedule (length first) 0 (omega arith) in
      let here : slice_get schedule (length first) ≡ Some w.session = there ∙ ap (λ (s : ℕ). Some s) (sym (at-write _ there)) in
      let index = front-places w.session ∙ write-limit h v order o w is_op before limits apart in
      subst (λ (i : ℕ). StandsAt (named schedule) (length first) (op w.session i)) index (named_at schedule (length first) w.session here)

  -- an operation stands in the first part, is the write, or stands behind it
  place-cases : (k : ℕ) (b : OpId) → StandsAt (named schedule) k b
      → CanGoOn v limits (take k schedule) b.session ⊎ (((k ≡ length first) × (w ≡ b)) ⊎ CanGoOn v (list_of v o) (take k schedule) b.session)
  place-cases k b stands =
      let is = named_is schedule k b stands in
      ⊎_elim
      (λ (below : k < length first).
      inl (subst (λ (xs : List ℕ). CanGoOn v limits xs b.session) (sym (front-of k (omega arith)))
      (full.walk.each k b.session (omega arith) (at-front k b.session below is.0)).can))
      (λ (up_to : length first ≤ k). ⊎_elim
      (λ (here : k ≡ length first).
      let session = at-write b.session (ap (λ (n : ℕ). slice_get schedule n) (sym here) ∙ is.0) in
      let index = is.1 in
      let places = ap (λ (n : ℕ). placed (take n schedule) b.session) here ∙ front-places b.session in
      let limit = ap (λ (s : ℕ). get_or limits s 0) session in
      let own = write-limit h v order o w is_op before limits apart in
      inr (inl (here, same_op w b session (omega arith))))
      (λ (behind : k ≢ length first).
      let len = first-length in
      inr (inr (rest.walk.each k b.session (omega arith) is.0).can))
      (cases_eq k (length first)))
      (cases_lt k (length first))

  place-existing : (k : ℕ) (b : OpId) → StandsAt (named schedule) k b → IsOp h b
  place-existing k b stands = ⊎_elim
      (λ (can : CanGoOn v limits (take k schedule) b.session). step-existing h v order schedule k b stands limits can)
      (λ (later : ((k ≡ length first) × (w ≡ b)) ⊎ CanGoOn v (list_of v o) (take k schedule) b.session). ⊎_elim
      (λ (here : (k ≡ length first) × (w ≡ b)). subst (λ (x : OpId). IsOp h x) here.1 (write-op h v order o w is_op before limits apart))
      (λ (can : CanGoOn v (list_of v o) (take k schedule) b.session). step-existing h v order schedule k b stands (list_of v o) can)
      later)
      (place-cases k b stands)

  write-after : (a : OpId) → IsCounted v w a → a ≢ w → StandsBefore (named schedule) (length first) a
  write-after a counts other =
      let above = write-above h v order o w is_op before limits apart a counts other in
      let places = front-places a.session in
      before_from_counted schedule (length first) a (omega arith)

  place-after : (k : ℕ) (b a : OpId) → StandsAt (named schedule) k b → IsCounted v b a → a ≢ b → StandsBefore (named schedule) k a
  place-after k b a stands counts other = ⊎_elim
      (λ (can : CanGoOn v limits (take k schedule) b.session). step-after h v order schedule k b stands limits can a counts other)
      (λ (later : ((k ≡ length first) × (w ≡ b)) ⊎ CanGoOn v (list_of v o) (take k schedule) b.session). ⊎_elim
      (λ (here : (k ≡ length first) × (w ≡ b)).
      let there = write-after a (subst (λ (x : OpId). IsCounted v x a) (sym here.1) counts) (λ same. other (same ∙ here.1)) in
      subst (λ (n : ℕ). StandsBefore (named schedule) n a) (sym here.0) there)
      (λ (can : CanGoOn v (list_of v o) (take k schedule) b.session). step-after h v order schedule k b stands (list_of v o) can a counts other)
      later)
      (place-cases k b stands)

  first-most : (s : ℕ) → placed (first ++ w.session ∷ []) s ≤ count v o s
  first-most s =
      let places = first-places h v order o w is_op before limits apart first full s in
      ⊎_elim
      (λ (same : s ≡ w.session).
      let more = placed-same first w.session in
      let own = write-limit h v order o w is_op before limits apart in
      let here = first-places h v order o w is_op before limits apart first full w.session in
      let counts : w.index < count v o w.session = counts-before h v order o w is_op before in
      let up_to : placed (first ++ w.session ∷ []) w.session ≤ count v o w.session = omega arith in
      subst (λ (t : ℕ). placed (first ++ w.session ∷ []) t ≤ count v o t) (sym same) up_to)
      (λ (other : s ≢ w.session).
      let as_before = placed-other first w.session s other in
      let most = limit-most h v order o w is_op before limits apart s in
      omega arith)
      (cases_eq s w.session)

  -- so it is a schedule of the operation
  pub source-schedule : IsSchedule h v o schedule
  source-schedule = record {
    existing = place-existing;
    after_counted = place-after;
    ends = walk-ends h v order schedule o is_op (first ++ w.session ∷ []) rest first-most;
  }

  -- what stands behind the write is in the past of the operation and counts the write
  pub behind-write : (i : ℕ) (b : OpId) → StandsAt (named schedule) i b → length first < i → IsCounted v o b × IsCounted v b w
  behind-write i b stands behind =
      let ends = walk-ends h v order schedule o is_op (first ++ w.session ∷ []) rest first-most b.session in
      let within = named_within schedule i b stands in
      let counts : b.index < count v o b.session = omega arith in (
        counts,
        ⊎_elim
            (λ (inside : w.index < count v b w.session). inside)
            (λ (free : count v b w.session ≤ w.index).
            let below = apart-to h v order o w is_op before limits apart b (place-existing i b stands) counts (λ more. omega arith) in
            let index = (named_is schedule i b stands).1 in
            let fewer = placed-up schedule (length first) i b.session (omega arith) in
            let places = front-places b.session in
            absurd (omega arith))
            (cases_lt w.index (count v b w.session)),
      )
