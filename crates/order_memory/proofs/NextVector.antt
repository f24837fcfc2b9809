-- The vector of one operation more.
use Rattle.std.specs.Prelude.{◌≡◌, ◌≢◌, ◌⊎◌, ◌↔◌, ℕ, ◌+◌, ◌-◌, ◌<◌, ◌≤◌, List, [], length, max, Option, Some, None, slice_get, option_map, unwrap_or}
use Rattle.std.proofs.Common.{arith, get_or, set, replicate, sym, ap, subst, subst₂, ◌∙◌, inl, inr, ⊎_elim, refl}
use Rattle.std.proofs.lemmas.Bool.{cases_eq, cases_lt}
use Rattle.std.proofs.lemmas.List.{get_or_past, get_or-replicate, get_or-set_other, length-set, length-replicate}
use Rattle.std.proofs.lemmas.Option.{same_Some, slice_get-get_or}
use Rattle.model_history.specs.declared.op_id.OpId.{OpId}
use Rattle.model_history.specs.History.{Precedes}
use Rattle.order_causal.specs.Orders.{op}
use Rattle.order_causal.proofs.OrdersLaws.{same_op}
use Rattle.order_causal.proofs.PathsLaws.{leads-edge, from-edge, last-edge, leads-back, IsFrom}
use Rattle.order_memory.specs.Sources.{Sources, HasSource, IsStep, Comes, next, IsReady, AreVectorsSoFar}
use Rattle.order_causal.specs.Vectors.{IsListed, Counts, list_of, count, IsCounted}
use Rattle.order_causal.proofs.PushedLaws.{pushed, listed-length, pushed-other, pushed-length, pushed-old, pushed-cases, pushed-value_old, pushed-value_next}
use Rattle.order_causal.proofs.VectorsLaws.{counted-listed}

below_max : (n p q : ℕ) → n < max p q → (n < p) ⊎ (n < q)
below_max n p q below = ⊎_elim
    (λ (first : n < p). inl first)
    (λ (none : p ≤ n). inr (omega arith))
    (cases_lt n p)

-- what the vector of a source counts
abbrev pub source_count : Counts → Option OpId → ℕ → ℕ
source_count v source t = unwrap_or (option_map (λ w. count v w t) source) 0

source-counted : (v : Counts) (source : Option OpId) (a : OpId) → a.index < source_count v source a.session → (w : OpId) × (source ≡ Some w) × IsCounted v w a
source-counted v None a below = absurd (omega arith)
source-counted v (Some w) a below = (w, refl, below)

module _ (sources : Sources) (v : Counts) (so_far : AreVectorsSoFar sources v) (s : ℕ) (ready : IsReady sources v s)
    (source : Option OpId) (is_source : slice_get (get_or sources s []) (length (get_or v s [])) ≡ Some source)
    (row : List ℕ) (own : get_or row s 0 ≡ length (get_or v s []) + 1)
    (others : (t : ℕ) → t ≢ s → get_or row t 0 ≡ max (count v (op s (length (get_or v s []) - 1)) t) (source_count v source t)) where
  -- what is in front of the next operation has a vector
  step-listed : (p : OpId) → IsStep sources p (next v s) → IsListed v p
  step-listed p edge = ⊎_elim
      (λ (before : Precedes p (next v s) × IsListed sources (next v s)).
      subst (λ (t : ℕ). p.index < length (get_or v t [])) (sym before.0.0) before.0.1)
      (λ (has : HasSource sources (next v s) p). ready.source p has)
      edge

  from-listed : (a p : OpId) → IsFrom (IsStep sources) a p → IsListed v p → IsListed v a
  from-listed a p from listed = ⊎_elim
      (λ (same : a ≡ p). subst (λ (o : OpId). IsListed v o) (sym same) listed)
      (λ (comes : Comes sources a p). leads-back (IsStep sources) (IsListed v) so_far.closed a p comes listed)
      from

  past-counted : (o a : OpId) → IsListed v o → IsFrom (IsStep sources) a o → IsCounted v o a
  past-counted o a listed = (so_far.exact o a listed).1

  counted-past : (o a : OpId) → IsCounted v o a → IsFrom (IsStep sources) a o
  counted-past o a counted = (so_far.exact o a (counted-listed v o a counted)).0 counted

  row-counted : (a : OpId) → a.index < get_or row a.session 0 → IsFrom (IsStep sources) a (next v s)
  row-counted a counted = ⊎_elim
      (λ (same : a.session ≡ s).
      let below : a.index < length (get_or v s []) + 1 = subst (λ (n : ℕ). a.index < n) (ap (λ (t : ℕ). get_or row t 0) same ∙ own) counted in
      ⊎_elim
      (λ (before : a.index < length (get_or v s [])).
      inr (leads-edge (IsStep sources) a (next v s) (inl ((same, before), ready.unfinished))))
      (λ (last : length (get_or v s []) ≤ a.index). inl (same_op a (next v s) same (omega arith)))
      (cases_lt a.index (length (get_or v s []))))
      (λ (apart : a.session ≢ s).
      ⊎_elim
      (λ (before : IsCounted v (op s (length (get_or v s []) - 1)) a).
      let listed = counted-listed v (op s (length (get_or v s []) - 1)) a before in
      inr (from-edge (IsStep sources) a (op s (length (get_or v s []) - 1)) (next v s) (counted-past _ a before) (inl ((refl, omega arith), ready.unfinished))))
      (λ (by_source : a.index < source_count v source a.session).
      let w = source-counted v source a by_source in
      inr (from-edge (IsStep sources) a w.0 (next v s) (counted-past w.0 a w.2)
      (inr (is_source ∙ ap (λ (e : Option OpId). Some e) w.1))))
      (below_max a.index _ _ (subst (λ (n : ℕ). a.index < n) (others a.session apart) counted)))
      (cases_eq a.session s)

  -- the operation before the next one, or one before that
  predecessor-past : (a p : OpId) → IsFrom (IsStep sources) a p → p.session ≡ s → p.index < length (get_or v s [])
      → IsFrom (IsStep sources) a (op s (length (get_or v s []) - 1))
  predecessor-past a p from same below = ⊎_elim
      (λ (last : p.index ≡ length (get_or v s []) - 1).
      subst (λ (o : OpId). IsFrom (IsStep sources) a o) (same_op p (op s (length (get_or v s []) - 1)) same last) from)
      (λ (apart : p.index ≢ length (get_or v s []) - 1).
      let there = ready.unfinished in
      inr (from-edge (IsStep sources) a p (op s (length (get_or v s []) - 1)) from (inl ((same, omega arith), omega arith))))
      (cases_eq p.index (length (get_or v s []) - 1))

  past-row : (a : OpId) → IsFrom (IsStep sources) a (next v s) → a.index < get_or row a.session 0
  past-row a from = ⊎_elim
      (λ (same : a ≡ next v s).
      let here : length (get_or v s []) < get_or row s 0 = omega (arith, own) in
      subst (λ (o : OpId). o.index < get_or row o.session 0) (sym same) here)
      (λ (comes : Comes sources a (next v s)).
      let last = last-edge (IsStep sources) a (next v s) comes in
      let p_listed = step-listed last.0 last.2 in
      let a_listed = from-listed a last.0 last.1 p_listed in
      ⊎_elim
      (λ (same : a.session ≡ s).
      let below = subst (λ (t : ℕ). a.index < length (get_or v t [])) same a_listed in
      let here : a.index < get_or row s 0 = omega (arith, own) in
      subst (λ (t : ℕ). a.index < get_or row t 0) (sym same) here)
      (λ (apart : a.session ≢ s).
      let larger : a.index < max (count v (op s (length (get_or v s []) - 1)) a.session) (source_count v source a.session) = ⊎_elim
      (λ (before : Precedes last.0 (next v s) × IsListed sources (next v s)).
      let there : length (get_or v s []) - 1 < length (get_or v s []) = let first = before.0.1 in omega arith in
      let counted : a.index < count v (op s (length (get_or v s []) - 1)) a.session =
      past-counted (op s (length (get_or v s []) - 1)) a there (predecessor-past a last.0 last.1 before.0.0 before.0.1) in
      omega arith)
      (λ (has : HasSource sources (next v s) last.0).
      let same_source : source ≡ Some last.0 = same_Some _ _ (sym is_source ∙ has) in
      let counted : a.index < count v last.0 a.session = past-counted last.0 a p_listed last.1 in
      let by_source : a.index < source_count v source a.session = subst (λ (e : Option OpId). a.index < source_count v e a.session) (sym same_source) counted in
      omega arith)
      last.2 in
      subst (λ (n : ℕ). a.index < n) (sym (others a.session apart)) larger)
      (cases_eq a.session s))
      from

  next-acyclic : ¬ Comes sources (next v s) (next v s)
  next-acyclic comes =
      let last = last-edge (IsStep sources) (next v s) (next v s) comes in
      let listed : length (get_or v s []) < length (get_or v s []) = from-listed (next v s) last.0 last.1 (step-listed last.0 last.2) in
      omega arith

  module _ (inside : s < length v) (counts : length row ≡ length v) where
    list-old : (o : OpId) → IsListed v o → list_of (pushed v s row) o ≡ list_of v o
    list-old o listed = pushed-value_old v s row inside o [] listed

    list-next : (o : OpId) → o ≡ next v s → list_of (pushed v s row) o ≡ row
    list-next o is = subst (λ (p : OpId). list_of (pushed v s row) p ≡ row) (sym is) (pushed-value_next v s row inside [])

    pushed-within : (t : ℕ) → length (get_or (pushed v s row) t []) ≤ length (get_or sources t [])
    pushed-within t = ⊎_elim
        (λ (same : t ≡ s).
        let here : length (get_or (pushed v s row) s []) ≤ length (get_or sources s []) =
        let more = pushed-length v s row inside in let there = ready.unfinished in omega arith in
        subst (λ (u : ℕ). length (get_or (pushed v s row) u []) ≤ length (get_or sources u [])) (sym same) here)
        (λ (apart : t ≢ s).
        subst (λ (xs : List (List ℕ)). length xs ≤ length (get_or sources t [])) (sym (pushed-other v s row inside t apart)) (so_far.within t))
        (cases_eq t s)

    pushed-exact : (o a : OpId) → IsListed (pushed v s row) o → IsCounted (pushed v s row) o a ↔ IsFrom (IsStep sources) a o
    pushed-exact o a listed = ⊎_elim
        (λ (old : IsListed v o).
        subst (λ (xs : List ℕ). (a.index < get_or xs a.session 0) ↔ IsFrom (IsStep sources) a o) (sym (list-old o old)) (so_far.exact o a old))
        (λ (new : o ≡ next v s).
        let exact : (a.index < get_or row a.session 0) ↔ IsFrom (IsStep sources) a (next v s) = (row-counted a, past-row a) in
        subst₂ (λ (xs : List ℕ) (p : OpId). (a.index < get_or xs a.session 0) ↔ IsFrom (IsStep sources) a p) (sym (list-next o new)) (sym new) exact)
        (pushed-cases v s row inside o listed)

    -- the vectors with that of the next operation
    pub pushed-so_far : AreVectorsSoFar sources (pushed v s row)
    pushed-so_far = record {
      sessions = length-set v s _ ∙ so_far.sessions;
      within = pushed-within;
      counts = λ o listed. ⊎_elim
          (λ (old : IsListed v o). ap (λ (xs : List ℕ). length xs) (list-old o old) ∙ so_far.counts o old)
          (λ (new : o ≡ next v s). ap (λ (xs : List ℕ). length xs) (list-next o new) ∙ counts ∙ so_far.sessions)
          (pushed-cases v s row inside o listed);
      closed = λ a o edge listed. pushed-old v s row inside a (⊎_elim
          (λ (old : IsListed v o). so_far.closed a o edge old)
          (λ (new : o ≡ next v s). step-listed a (subst (λ (p : OpId). IsStep sources a p) new edge))
          (pushed-cases v s row inside o listed));
      exact = pushed-exact;
      acyclic = λ o listed. ⊎_elim
          (λ (old : IsListed v o). so_far.acyclic o old)
          (λ (new : o ≡ next v s). subst (λ (p : OpId). ¬ Comes sources p p) (sym new) next-acyclic)
          (pushed-cases v s row inside o listed);
    }

module _ (sources : Sources) (v : Counts) (so_far : AreVectorsSoFar sources v) (s : ℕ) (ready : IsReady sources v s)
    (i : ℕ) (at : i ≡ length (get_or v s [])) (es : List (Option OpId)) (read : es ≡ get_or sources s []) (row : List ℕ) where
  -- the same, with the list of the sources of the session and the index as they were read
  pub placed-so_far : (passed : List ℕ) (after : Counts) → length row ≡ length v → get_or row s 0 ≡ i + 1
      → ((t : ℕ) → t ≢ s → get_or row t 0 ≡ max (count v (op s (i - 1)) t) (source_count v (get_or es i None) t))
      → passed ≡ row → after ≡ pushed v s passed → AreVectorsSoFar sources after
  placed-so_far passed after counts own others is_row is_after =
      let unfinished = ready.unfinished in
      let below : i < length es = rw (at, read) unfinished in
      let inside : s < length v = let there = listed-length sources s _ unfinished in let same = so_far.sessions in omega arith in
      let is_source : slice_get (get_or sources s []) (length (get_or v s [])) ≡ Some (get_or es i None) =
      subst₂ (λ (xs : List (Option OpId)) (n : ℕ). slice_get xs n ≡ Some (get_or es i None)) read at (slice_get-get_or es i None below) in
      let pushed_row = pushed-so_far sources v so_far s ready (get_or es i None) is_source row (own ∙ ap (λ (n : ℕ). n + 1) at)
      (λ t apart. subst (λ (n : ℕ). get_or row t 0 ≡ max (count v (op s (n - 1)) t) (source_count v (get_or es i None) t)) at (others t apart))
      inside counts in
      subst (λ (w : Counts). AreVectorsSoFar sources w) (sym (is_after ∙ ap (λ (r : List ℕ). pushed v s r) is_row)) pushed_row

zeros-at : (k s : ℕ) → get_or (replicate {A = ℕ} k 0) s 0 ≡ 0
zeros-at k s = ⊎_elim
    (λ (below : s < k). get_or-replicate k s 0 0 below)
    (λ (above : k ≤ s). get_or_past (replicate k 0) s 0 (let len : length (replicate {A = ℕ} k 0) ≡ k = length-replicate k 0 in omega arith))
    (cases_lt s k)

module _ (v : Counts) (t i : ℕ) where
  -- the counts of the operation before the next one, where there is one
  pub first-raised : (zeros got row : List ℕ) (k : ℕ) → zeros ≡ replicate k 0 → got ≡ list_of v (op t (i - 1))
      → ((s : ℕ) → get_or row s 0 ≡ max (get_or zeros s 0) (get_or got s 0)) → (s : ℕ) → get_or row s 0 ≡ count v (op t (i - 1)) s
  first-raised zeros got row k are_zeros is larger s =
      let nothing = ap (λ (xs : List ℕ). get_or xs s 0) are_zeros ∙ zeros-at k s in
      let counts = ap (λ (xs : List ℕ). get_or xs s 0) is in
      let here = larger s in
      omega arith

  -- the counts where there is none
  pub first-zeros : (zeros : List ℕ) (k : ℕ) → zeros ≡ replicate k 0 → i ≡ length (get_or v t []) → i ≤ 0
      → (s : ℕ) → get_or zeros s 0 ≡ count v (op t (i - 1)) s
  first-zeros zeros k are_zeros at none s =
      let nothing = ap (λ (xs : List ℕ). get_or xs s 0) are_zeros ∙ zeros-at k s in
      let past = get_or_past (get_or v t []) (i - 1) [] (omega arith) in
      nothing ∙ sym (ap (λ (xs : List ℕ). get_or xs s 0) past)

  module _ (first : List ℕ) (is_first : (s : ℕ) → get_or first s 0 ≡ count v (op t (i - 1)) s) (source : Option OpId) (n : ℕ) where
    -- the counts of the source too, where there is one
    pub both-raised : (w : OpId) (got row : List ℕ) → source ≡ Some w → got ≡ list_of v w
        → ((s : ℕ) → get_or row s 0 ≡ max (get_or first s 0) (get_or got s 0))
        → (s : ℕ) → s ≢ t → get_or (set row t n) s 0 ≡ max (count v (op t (i - 1)) s) (source_count v source s)
    both-raised w got row is_source is larger s apart =
        let counts = ap (λ (xs : List ℕ). get_or xs s 0) is in
        let by_source : source_count v source s ≡ count v w s = ap (λ (e : Option OpId). source_count v e s) is_source in
        get_or-set_other row t s n 0 apart ∙ larger s
        ∙ (λ j. max (is_first s j) ((counts ∙ sym by_source) j))

    pub one-raised : (row : List ℕ) → source ≡ None → row ≡ first
        → (s : ℕ) → s ≢ t → get_or (set row t n) s 0 ≡ max (count v (op t (i - 1)) s) (source_count v source s)
    one-raised row is_source is s apart =
        let by_source : source_count v source s ≡ 0 = ap (λ (e : Option OpId). source_count v e s) is_source in
        let other = get_or-set_other row t s n 0 apart in
        let same = ap (λ (xs : List ℕ). get_or xs s 0) is ∙ is_first s in
        omega arith
