-- An operation among those of its session.
use Rattle.std.specs.Prelude.{◌≡◌, ℕ, ◌<◌, ◌≤◌, List, [], Option, Some, length, map, slice_get}
use Rattle.std.proofs.Common.{arith, ap, get_or, subst₂, sym, ◌∙◌, ⊎_elim}
use Rattle.std.proofs.lemmas.Bool.{cases_lt}
use Rattle.std.proofs.lemmas.List.{get_or-map, get_or_past, length-map}
use Rattle.std.proofs.lemmas.Option.{slice_get-get_or}
use Rattle.model_history.specs.declared.op_id.OpId.{OpId}
use Rattle.model_history.specs.History.{HistoryValue, IsOp, entry, session}

module _ {S C R : Type 0} (h : HistoryValue S C R) (o : OpId) (s i : ℕ) (is_op : IsOp h o) (same_session : s ≡ o.session) where
  -- the session of an operation is one of the history
  pub session_within : s < length h.1
  session_within = ⊎_elim (λ (inside : s < length h.1). inside)
      (λ (past : length h.1 ≤ s).
      let none = ap (λ (es : List (C × Option R)). length es) (get_or_past h.1 o.session [] (omega (arith, past, same_session))) in
      absurd (omega (arith, none, is_op)))
      (cases_lt s (length h.1))

  module _ (es : List (C × Option R)) (operations : es ≡ session h s) (same_index : i ≡ o.index) where
    -- its place is one of the session
    pub place_within : i < length es
    place_within = subst₂ (λ (k : ℕ) (xs : List (C × Option R)). k < length xs) (sym same_index) (sym (operations ∙ ap (session h) same_session)) is_op

    -- what stands there is its entry
    pub entry_at : (d : C × Option R) → entry h o ≡ Some (get_or es i d)
    entry_at d =
        ap (λ (xs : List (C × Option R)). slice_get xs o.index) (sym (operations ∙ ap (session h) same_session))
        ∙ ap (slice_get es) (sym same_index) ∙ slice_get-get_or es i d place_within

-- a history that is kept as rows
module _ {S C R X : Type 0} (items : X → List (C × Option R)) (start : S) (rows : List X) (h : HistoryValue S C R) (s : ℕ)
    (view : (start, map items rows) ≡ h) (below : s < length h.1) where
  -- there is a row for a session
  pub row_within : s < length rows
  row_within =
      let every = length-map rows items in
      let same = ap (λ (k : HistoryValue S C R). length k.1) view in
      omega (arith, every, same, below)

  -- its row holds the session
  pub row_session : (row : X) → row ≡ get_or rows s row → items row ≡ session h s
  row_session row is =
      ap items is ∙ sym (get_or-map items rows s row [] row_within) ∙ ap (λ (k : HistoryValue S C R). session k s) view
