-- Vectors of the order that program order and sources make, one operation after another: they exist where it is no cycle,
-- and where no session can go on, it is one.
use Rattle.std.specs.Prelude.{◌≡◌, ◌≢◌, ◌⊎◌, ℕ, ◌+◌, ◌-◌, ◌<◌, ◌≤◌, List, [], length, max, Option, Some, None, slice_get}
use Rattle.std.specs.List.{range_with_len, sum_by}
use Rattle.std.proofs.Common.{zero, suc, arith, get_or, set, replicate, map, sym, ap, subst, ◌∙◌, inl, inr, ⊎_elim, refl}
use Rattle.std.proofs.lemmas.Bool.{cases_eq, cases_lt}
use Rattle.std.proofs.lemmas.List.{get_or_past, get_or-replicate, get_or-set_same, get_or-set_other, length-set, length-replicate}
use Rattle.std.proofs.lemmas.List.FromFn.{length-map-range_with_len, get_or-map-range_with_len}
use Rattle.std.proofs.lemmas.Option.{same_Some, slice_get-get_or, slice_get_within}
use Rattle.model_history.specs.declared.op_id.OpId.{OpId}
use Rattle.order_causal.specs.Orders.{op}
use Rattle.order_memory.specs.Sources.{Sources, AreListed, IsStep, Comes, IsUnfinished, next, IsReady, AreVectorsSoFar}
use Rattle.order_causal.specs.Vectors.{IsListed, Counts, list_of, count}
use Rattle.order_memory.proofs.NextVector.{source_count, placed-so_far}
use Rattle.order_causal.proofs.OrdersLaws.{same_op}
use Rattle.order_causal.proofs.PushedLaws.{pushed, listed-length, pushed-sum, sum-within}
use Rattle.order_causal.proofs.PathsLaws.{leads-edge, leads-first, leads-leads}
use Rattle.order_causal.proofs.Searches.{IsDecided, least, below-decided}
use Rattle.order_causal.proofs.WaitingCycles.{waiting-cycle}

-- the session of a source, or the one that is given
abbrev session_or : ℕ → Option (Option OpId) → ℕ
session_or s None = s
session_or s (Some None) = s
session_or s (Some (Some w)) = w.session

module _ (sources : Sources) (v : Counts) (listed : AreListed sources) where
  -- the session that the next operation of s waits for
  abbrev waits_for : ℕ → ℕ
  waits_for s = session_or s (slice_get (get_or sources s []) (length (get_or v s [])))

  module _ (s : ℕ) (unfinished : IsUnfinished sources v s) (waits : ¬ IsReady sources v s) where
    waiting : (e : Option (Option OpId)) → slice_get (get_or sources s []) (length (get_or v s [])) ≡ e
        → IsUnfinished sources v (session_or s e) × Comes sources (next v (session_or s e)) (next v s)
    waiting None is =
        let there = sym is ∙ slice_get-get_or (get_or sources s []) (length (get_or v s [])) None unfinished in absurd cc
    waiting (Some None) is = absurd (waits (record {
      unfinished = unfinished;
      source = λ w has. let apart = sym is ∙ has in absurd cc;
    }))
    waiting (Some (Some w)) is =
        let above : length (get_or v w.session []) ≤ w.index = ⊎_elim
        (λ (placed : w.index < length (get_or v w.session [])). absurd (waits (record {
          unfinished = unfinished;
          source = λ u has.
              let same : w ≡ u = same_Some _ _ (same_Some _ _ (sym is ∙ has)) in
              subst (λ (o : OpId). IsListed v o) same placed;
        })))
        (λ (above : length (get_or v w.session []) ≤ w.index). above)
        (cases_lt w.index (length (get_or v w.session []))) in
        let exists : w.index < length (get_or sources w.session []) = listed (next v s) w is in
        let edge : IsStep sources w (next v s) = inr is in (
          omega arith,
          ⊎_elim
              (λ (same : length (get_or v w.session []) ≡ w.index).
              leads-edge (IsStep sources) (next v w.session) (next v s)
              (subst (λ (o : OpId). IsStep sources o (next v s)) (same_op w (next v w.session) refl (sym same)) edge))
              (λ (apart : length (get_or v w.session []) ≢ w.index).
              leads-first (IsStep sources) (next v w.session) w (next v s) (inl ((refl, omega arith), exists))
              (leads-edge (IsStep sources) w (next v s) edge))
              (cases_eq (length (get_or v w.session [])) w.index),
        )

  -- where no session is ready and one is unfinished, some operation comes before itself
  pub stuck-cycle : ((s : ℕ) → ¬ IsReady sources v s) → (s : ℕ) → IsUnfinished sources v s → (a : OpId) × Comes sources a a
  stuck-cycle none_ready = waiting-cycle (IsUnfinished sources v) (next v) (Comes sources) (length sources)
      (λ t open_t. listed-length sources t _ open_t)
      (λ t open_t. let before = waiting t open_t (none_ready t) _ refl in (waits_for t, before.0, before.1))
      (leads-leads (IsStep sources))

module _ (sources : Sources) (v : Counts) (s : ℕ) where
  ready_by : (e : Option (Option OpId)) → slice_get (get_or sources s []) (length (get_or v s [])) ≡ e → IsDecided (IsReady sources v s)
  ready_by None is = inr (λ ready.
      let there = sym is ∙ slice_get-get_or (get_or sources s []) (length (get_or v s [])) None ready.unfinished in absurd cc)
  ready_by (Some None) is = inl (record {
    unfinished = slice_get_within (get_or sources s []) (length (get_or v s [])) None is;
    source = λ w has. let apart = sym is ∙ has in absurd cc;
  })
  ready_by (Some (Some w)) is = ⊎_elim
      (λ (there : w.index < length (get_or v w.session [])). inl (record {
        unfinished = slice_get_within (get_or sources s []) (length (get_or v s [])) (Some w) is;
        source = λ u has.
            let same : w ≡ u = same_Some _ _ (same_Some _ _ (sym is ∙ has)) in
            subst (λ (o : OpId). IsListed v o) same there;
      }))
      (λ (none : length (get_or v w.session []) ≤ w.index). inr (λ ready. let listed = ready.source w is in omega arith))
      (cases_lt w.index (length (get_or v w.session [])))

  ready-decided : IsDecided (IsReady sources v s)
  ready-decided = ready_by (slice_get (get_or sources s []) (length (get_or v s []))) refl

module _ (sources : Sources) (v : Counts) (so_far : AreVectorsSoFar sources v) where
  -- a vector has no count past the last session
  count-past : (o : OpId) (t : ℕ) → length v ≤ t → count v o t ≡ 0
  count-past o t past = get_or_past (list_of v o) t 0 (⊎_elim
      (λ (listed : IsListed v o). let counts = so_far.counts o listed in let sessions = so_far.sessions in omega arith)
      (λ (none : length (get_or v o.session []) ≤ o.index).
      let nothing = ap (λ (xs : List ℕ). length xs) (get_or_past (get_or v o.session []) o.index [] none) in omega arith)
      (cases_lt o.index (length (get_or v o.session []))))

  source_count-past : (source : Option OpId) (t : ℕ) → length v ≤ t → source_count v source t ≡ 0
  source_count-past None t past = refl
  source_count-past (Some w) t past = count-past w t past

  module _ (s : ℕ) (ready : IsReady sources v s) where
    count_at : ℕ → ℕ
    count_at t = max (count v (op s (length (get_or v s []) - 1)) t) (source_count v (get_or (get_or sources s []) (length (get_or v s [])) None) t)

    -- the vector of the next operation
    pub row : List ℕ
    row = set (map count_at (range_with_len 0 (length v))) s (length (get_or v s []) + 1)

    pub inside : s < length v
    inside = let there = listed-length sources s _ ready.unfinished in let same = so_far.sessions in omega arith

    row-length : length row ≡ length v
    unfolding row
    row-length = length-set (map count_at (range_with_len 0 (length v))) s _ ∙ length-map-range_with_len count_at 0 (length v)

    row-own : get_or row s 0 ≡ length (get_or v s []) + 1
    unfolding row
    row-own =
        let long = length-map-range_with_len count_at 0 (length v) in
        let there = inside in
        get_or-set_same (map count_at (range_with_len 0 (length v))) s _ 0 (omega arith)

    row-others : (t : ℕ) → t ≢ s → get_or row t 0 ≡ count_at t
    unfolding row count_at
    row-others t apart =
        get_or-set_other (map count_at (range_with_len 0 (length v))) s t _ 0 apart
        ∙ ⊎_elim
        (λ (below : t < length v). get_or-map-range_with_len count_at 0 (length v) t t 0 below (omega arith))
        (λ (past : length v ≤ t).
        let long = length-map-range_with_len count_at 0 (length v) in
        let none = get_or_past (map count_at (range_with_len 0 (length v))) t 0 (omega arith) in
        let before = count-past (op s (length (get_or v s []) - 1)) t past in
        let by_source = source_count-past (get_or (get_or sources s []) (length (get_or v s [])) None) t past in
        omega arith)
        (cases_lt t (length v))

    -- the vectors with it
    pub next-so_far : AreVectorsSoFar sources (pushed v s row)
    unfolding count_at
    next-so_far = placed-so_far sources v so_far s ready (length (get_or v s [])) refl (get_or sources s []) refl row row (pushed v s row)
        row-length row-own row-others refl refl

module _ (sources : Sources) (listed : AreListed sources) where
  -- vectors of all operations, or an operation that comes before itself
  abbrev pub AreMade : Type 0
  AreMade = ((v : Counts) × AreVectorsSoFar sources v × ((s : ℕ) → ¬ IsUnfinished sources v s)) ⊎ ((a : OpId) × Comes sources a a)

  ended : (v : Counts) → AreVectorsSoFar sources v → ((s : ℕ) → ¬ IsReady sources v s) → AreMade
  ended v so_far none = ⊎_elim
      (λ (found : (s : ℕ) × (s < length sources) × IsUnfinished sources v s × ((t : ℕ) → t < s → ¬ IsUnfinished sources v t)).
      inr (stuck-cycle sources v listed none found.0 found.2))
      (λ (all : (s : ℕ) → s < length sources → ¬ IsUnfinished sources v s).
      inl (v, so_far, λ s unfinished. all s (listed-length sources s _ unfinished) unfinished))
      (least (IsUnfinished sources v) (λ s. below-decided (length (get_or v s [])) (length (get_or sources s []))) (length sources))

  made-from : (n : ℕ) (v : Counts) → AreVectorsSoFar sources v
      → sum_by (λ (xs : List (Option OpId)). length xs) sources < sum_by (λ (xs : List (List ℕ)). length xs) v + n → AreMade
  made-from zero v so_far room = let up_to = sum-within v sources so_far.sessions so_far.within in absurd (omega arith)
  made-from (suc n) v so_far room = ⊎_elim
      (λ (found : (s : ℕ) × (s < length sources) × IsReady sources v s × ((t : ℕ) → t < s → ¬ IsReady sources v t)).
      let s = found.0 in
      let ready = found.2 in
      let more = pushed-sum v s (row sources v so_far s ready) (inside sources v so_far s ready) in
      made-from n (pushed v s (row sources v so_far s ready)) (next-so_far sources v so_far s ready) (omega arith))
      (λ (none : (s : ℕ) → s < length sources → ¬ IsReady sources v s).
      ended v so_far (λ s ready. none s (listed-length sources s _ ready.unfinished) ready))
      (least (IsReady sources v) (ready-decided sources v) (length sources))

  -- no vectors
  no_vectors : Counts
  no_vectors = replicate (length sources) []

  none_at : (s : ℕ) → length (get_or no_vectors s []) ≡ 0
  unfolding no_vectors
  none_at s = ⊎_elim
      (λ (below : s < length sources). ap (λ (xs : List (List ℕ)). length xs) (get_or-replicate (length sources) s [] [] below))
      (λ (past : length sources ≤ s).
      let long = length-replicate {A = List (List ℕ)} (length sources) [] in
      ap (λ (xs : List (List ℕ)). length xs) (get_or_past (replicate (length sources) []) s [] (omega arith)))
      (cases_lt s (length sources))

  none-listed : (o : OpId) → ¬ IsListed no_vectors o
  none-listed o listed = let none = none_at o.session in omega arith

  none-so_far : AreVectorsSoFar sources no_vectors
  unfolding no_vectors
  none-so_far = record {
    sessions = length-replicate (length sources) [];
    within = λ s. let none = none_at s in omega arith;
    counts = λ o there. absurd (none-listed o there);
    closed = λ a o edge there. absurd (none-listed o there);
    exact = λ o a there. absurd (none-listed o there);
    acyclic = λ o there. absurd (none-listed o there);
  }

  -- vectors exist, or the order is a cycle
  pub vectors-made : AreMade
  vectors-made = made-from (sum_by (λ (xs : List (Option OpId)). length xs) sources + 1) no_vectors none-so_far (omega arith)
