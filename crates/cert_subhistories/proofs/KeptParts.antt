-- What is kept of a session or of a history, one step of it more, and where it stands.
use Rattle.std.proofs.Common.{◌≡◌, ℕ, ◌<◌, ◌≤◌, ◌+◌, Bool, true, false, cond, List, [], ◌∷◌, ◌++◌, length, take, map, get_or, refl, ap, sym, ◌∙◌, arith, zero-add, lt_of_not-le}
use Rattle.std.specs.Prelude.{Option, Some, option_map, filter, slice_get}
use Rattle.std.specs.List.{enumerate_from}
use Rattle.std.proofs.lemmas.List.{map-append, append-nil, take_all, map_more}
use Rattle.std.proofs.lemmas.List.Elements.{filter_more}
use Rattle.std.proofs.lemmas.List.FromFn.{length-enumerate_from, get_or-enumerate_from}
use Rattle.std.proofs.lemmas.Option.{slice_get-map, get_or_from_slice_get}
use Rattle.model_history.specs.declared.op_id.OpId.{OpId}
use Rattle.order_causal.specs.Orders.{op}
use Rattle.cert_check.proofs.CutSteps.{filter_stands}
use Rattle.cert_subhistories.specs.Parts.{kept_of_session}
use Rattle.cert_subhistories.proofs.KeptLists.{mapped_from, numbered_to, numbered_from, passing_before, passing_before-le, filter_place}

module _ {C R : Type 0} (kept : OpId → C → Bool) where
  -- whether an operation of the session s is kept, at its place
  abbrev pub is_kept : ℕ → ℕ × (C × Option R) → Bool
  is_kept s e = kept (op s e.0) e.1.0

  -- what is kept of the first n operations of a session, and of the first n sessions
  abbrev pub kept_of_front : ℕ → ℕ → List (C × Option R) → List (C × Option R)
  kept_of_front n s es = map (λ (e : ℕ × (C × Option R)). e.1) (filter (is_kept s) (take n (enumerate_from 0 es)))

  abbrev pub kept_of_sessions : ℕ → List (List (C × Option R)) → List (List (C × Option R))
  kept_of_sessions n ess = map (λ (e : ℕ × List (C × Option R)). kept_of_session kept e.0 e.1) (take n (enumerate_from 0 ess))

  module _ (s : ℕ) (es : List (C × Option R)) where
    -- how many of the first n operations are kept
    abbrev pub kept_before : ℕ → ℕ
    kept_before n = passing_before (is_kept s) (enumerate_from 0 es) n

    pub kept_of_front-all : (n : ℕ) → length es ≤ n → kept_of_front n s es ≡ kept_of_session kept s es
    kept_of_front-all n long =
        let all : take n (enumerate_from 0 es) ≡ enumerate_from 0 es = take_all n (enumerate_from 0 es) (rw (length-enumerate_from 0 es) long) in
        rw all refl

    pub kept_of_front-more : (i : ℕ) (e : C × Option R) → i < length es → e ≡ get_or es i e
        → kept_of_front (i + 1) s es ≡ kept_of_front i s es ++ cond (kept (op s i) e.0) (e ∷ []) []
    kept_of_front-more i e below is =
        let long : i < length (enumerate_from 0 es) = rw (length-enumerate_from 0 es) below in
        let here : get_or (enumerate_from 0 es) i (i, e) ≡ (i, e) =
        get_or-enumerate_from 0 es i (i, e) below ∙ ap (λ (k : ℕ). (k, get_or es i e)) (zero-add i) ∙ ap (λ (x : C × Option R). (i, x)) (sym is) in
        let step : filter (is_kept s) (take (i + 1) (enumerate_from 0 es)) ≡ filter (is_kept s) (take i (enumerate_from 0 es)) ++ cond (is_kept s (i, e)) ((i, e) ∷ []) [] =
        filter_more (is_kept s) (enumerate_from 0 es) i (i, e) long
        ∙ ap (λ (x : ℕ × (C × Option R)). filter (is_kept s) (take i (enumerate_from 0 es)) ++ cond (is_kept s x) (x ∷ []) []) here in
        let split : map (λ (e : ℕ × (C × Option R)). e.1) (cond (is_kept s (i, e)) ((i, e) ∷ []) []) ≡ cond (is_kept s (i, e)) (e ∷ []) [] =
        elim (is_kept s (i, e)) as (λ b. map (λ (e : ℕ × (C × Option R)). e.1) (cond b ((i, e) ∷ []) []) ≡ cond b (e ∷ []) []) [ true ↦ refl | false ↦ refl ] in
        ap (map (λ (e : ℕ × (C × Option R)). e.1)) step ∙ map-append _ _ _ ∙ ap (λ (xs : List (C × Option R)). kept_of_front i s es ++ xs) split

    pub kept_of_front-kept : (i : ℕ) (e : C × Option R) → i < length es → e ≡ get_or es i e → kept (op s i) e.0 ≡ true
        → kept_of_front (i + 1) s es ≡ kept_of_front i s es ++ e ∷ []
    kept_of_front-kept i e below is passes =
        kept_of_front-more i e below is ∙ ap (λ (b : Bool). kept_of_front i s es ++ cond b (e ∷ []) []) passes

    pub kept_of_front-left_out : (i : ℕ) (e : C × Option R) → i < length es → e ≡ get_or es i e → kept (op s i) e.0 ≡ false
        → kept_of_front (i + 1) s es ≡ kept_of_front i s es
    kept_of_front-left_out i e below is fails =
        kept_of_front-more i e below is ∙ ap (λ (b : Bool). kept_of_front i s es ++ cond b (e ∷ []) []) fails ∙ append-nil (kept_of_front i s es)

    -- the operations that are kept, with their places
    abbrev numbered : List (ℕ × (C × Option R))
    numbered = filter (is_kept s) (enumerate_from 0 es)

    -- the place of the operation that stands at k in what is kept
    abbrev pub place_of : ℕ → ℕ
    place_of k = get_or (map (λ (e : ℕ × (C × Option R)). e.0) (filter (is_kept s) (enumerate_from 0 es))) k 0

    place_of-numbered : (k : ℕ) (e : ℕ × (C × Option R)) → slice_get numbered k ≡ Some e → place_of k ≡ e.0
    place_of-numbered k e at =
        let number : slice_get (map (λ (e : ℕ × (C × Option R)). e.0) numbered) k ≡ Some e.0 =
        slice_get-map (λ (e : ℕ × (C × Option R)). e.0) numbered k ∙ ap (option_map (λ (e : ℕ × (C × Option R)). e.0)) at in
        get_or_from_slice_get (map (λ (e : ℕ × (C × Option R)). e.0) numbered) k e.0 0 number

    -- an operation that is kept stands behind those before it that are kept
    pub kept_at : (m : ℕ) (e : C × Option R) → slice_get es m ≡ Some e → kept (op s m) e.0 ≡ true
        → (slice_get (kept_of_session kept s es) (kept_before m) ≡ Some e) × (place_of (kept_before m) ≡ m)
    kept_at m e at passes =
        let stands : slice_get numbered (kept_before m) ≡ Some (m, e) =
        filter_stands (is_kept s) (enumerate_from 0 es) m (m, e) (numbered_to es m e at) passes in
        let there : slice_get (kept_of_session kept s es) (kept_before m) ≡ Some e =
        slice_get-map (λ (e : ℕ × (C × Option R)). e.1) numbered (kept_before m) ∙ ap (option_map (λ (e : ℕ × (C × Option R)). e.1)) stands in
        (there, place_of-numbered (kept_before m) (m, e) stands)

    -- what stands in what is kept is an operation that is kept
    pub kept_from : (k : ℕ) (e : C × Option R) → slice_get (kept_of_session kept s es) k ≡ Some e
        → (slice_get es (place_of k) ≡ Some e) × (kept (op s (place_of k)) e.0 ≡ true) × (kept_before (place_of k) ≡ k)
    kept_from k e at =
        let found = mapped_from (λ (e : ℕ × (C × Option R)). e.1) (slice_get numbered k) e
        (sym (slice_get-map (λ (e : ℕ × (C × Option R)). e.1) numbered k) ∙ at) in
        let place = filter_place (is_kept s) (enumerate_from 0 es) k found.0 found.1 in
        let plain = numbered_from es place.0 found.0 place.1 in
        let named : place_of k ≡ found.0.0 = place_of-numbered k found.0 found.1 in
        let here : place_of k ≡ place.0 = named ∙ sym plain.0 in
        let same : found.0.1 ≡ e = found.2 in
        let stands : slice_get es (place_of k) ≡ Some e = ap (slice_get es) here ∙ plain.1 ∙ ap Some same in
        let passes : kept (op s (place_of k)) e.0 ≡ true =
        ap (λ (n : ℕ). kept (op s n) e.0) named ∙ ap (λ (x : C × Option R). kept (op s found.0.0) x.0) (sym same) ∙ place.2 in
        let many : kept_before (place_of k) ≡ k = ap kept_before here ∙ place.4 in
        (stands, passes, many)

    -- the operations that are kept stand in the order of the session
    pub kept-in_order : (j k : ℕ) (d e : C × Option R) → j < k → slice_get (kept_of_session kept s es) j ≡ Some d
        → slice_get (kept_of_session kept s es) k ≡ Some e → place_of j < place_of k
    kept-in_order j k d e below at_j at_k =
        let first = (kept_from j d at_j).2 in
        let second = (kept_from k e at_k).2 in
        lt_of_not-le (λ (above : place_of k ≤ place_of j).
        let many = passing_before-le (is_kept s) (enumerate_from 0 es) (place_of k) (place_of j) above in
        omega arith)

  pub kept_of_sessions-all : (ess : List (List (C × Option R))) (n : ℕ) → length ess ≤ n
      → kept_of_sessions n ess ≡ map (λ (e : ℕ × List (C × Option R)). kept_of_session kept e.0 e.1) (enumerate_from 0 ess)
  kept_of_sessions-all ess n long =
      let all : take n (enumerate_from 0 ess) ≡ enumerate_from 0 ess = take_all n (enumerate_from 0 ess) (rw (length-enumerate_from 0 ess) long) in
      rw all refl

  pub kept_of_sessions-more : (ess : List (List (C × Option R))) (i : ℕ) → i < length ess
      → kept_of_sessions (i + 1) ess ≡ kept_of_sessions i ess ++ kept_of_session kept i (get_or ess i []) ∷ []
  kept_of_sessions-more ess i below =
      let long : i < length (enumerate_from 0 ess) = rw (length-enumerate_from 0 ess) below in
      let here : get_or (enumerate_from 0 ess) i (i, []) ≡ (i, get_or ess i []) =
      get_or-enumerate_from 0 ess i (i, []) below ∙ ap (λ (k : ℕ). (k, get_or ess i [])) (zero-add i) in
      let step = map_more (λ (e : ℕ × List (C × Option R)). kept_of_session kept e.0 e.1) (enumerate_from 0 ess) i (i, []) long in
      step ∙ ap (λ (e : ℕ × List (C × Option R)). kept_of_sessions i ess ++ kept_of_session kept e.0 e.1 ∷ []) here
