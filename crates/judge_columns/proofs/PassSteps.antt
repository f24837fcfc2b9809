-- One place of an order more, with the numbers of a column in a list, or in a lane of rows.
use Rattle.std.specs.Prelude.{◌≡◌, ◌≢◌, ℕ, ◌+◌, ◌<◌, ◌≤◌, List, [], Some, length, slice_get, slice_index_or, slice_set}
use Rattle.std.proofs.Common.{sym, ap, ◌∙◌, subst, inl}
use Rattle.std.proofs.lemmas.List.{get_or-set_same, get_or-set_other}
use Rattle.std.proofs.lemmas.Option.{slice_get-get_or}
use Rattle.model_history.specs.declared.op_id.OpId.{OpId}
use Rattle.model_history.specs.History.{IsOp, many_before, number}
use Rattle.order_memory.specs.Memory.{MemoryHistory}
use Rattle.judge_memory.specs.Steps.{IsListedEdge, IsNext, IsOrderBy, many}
use Rattle.judge_memory.proofs.Numbers.{number-all}
use Rattle.judge_memory.proofs.Steps.{step-of_history}
use Rattle.judge_columns.specs.Columns.{ArePastEndsBefore, AreFirstsFrom, IsLowered, IsNextEnd}
use Rattle.judge_columns.specs.Lanes.{in_lane, lane_of}
use Rattle.judge_columns.proofs.Columns.{column-next}
use Rattle.judge_columns.proofs.Firsts.{firsts-next}
use Rattle.judge_memory.proofs.Orders.{listed-of_history}

module _ (h : MemoryHistory) (order : List ℕ) (ordered : IsOrderBy h [] order) (t i : ℕ) (inside : i < length order) where
  abbrev n : ℕ
  n = slice_index_or order i 0

  at : slice_get order i ≡ Some n
  at = slice_get-get_or order i 0 inside

  -- the number at a place is that of an operation
  pub place-below : n < many h
  place-below =
      let a = ordered.no_other i n at in
      subst (λ (k : ℕ). k < many h) a.2 (number-all h a.0 a.1)

  -- the end for the operation before the one at the place is found
  pub next-from : (ends : ℕ → ℕ) → ArePastEndsBefore h t order i ends → (o p : OpId) → number h o ≡ n → IsNext h p o
      → many_before h t ≤ ends (number h p)
  next-from ends now o p here next =
      now.from p (step-of_history h p o (inl next)).0
      (ordered.after i p o (inl (inl next)) (at ∙ ap (λ (k : ℕ). Some k) (sym here)))

  -- the end for the operation at the place is found, and the others stay
  ends-next : (ends made : ℕ → ℕ) → ((a : OpId) → IsOp h a → number h a ≡ n → IsNextEnd h t ends a (made n))
      → ((k : ℕ) → k ≢ n → made k ≡ ends k) → ArePastEndsBefore h t order i ends → ArePastEndsBefore h t order (i + 1) made
  ends-next ends made next others now =
      let a = ordered.no_other i n at in
      column-next h (IsListedEdge h []) (listed-of_history h []) order ordered t i ends made a.0 a.1
      (at ∙ ap (λ (k : ℕ). Some k) (sym a.2))
      (subst (λ (k : ℕ). IsNextEnd h t ends a.0 (made k)) (sym a.2) (next a.0 a.1 a.2))
      (λ k apart. others k (λ same. apart (same ∙ sym a.2)))
      now

  pub ends-step : (ends : List ℕ) (m : ℕ) → n < length ends
      → ((a : OpId) → IsOp h a → number h a ≡ n → IsNextEnd h t (λ k. slice_index_or ends k 0) a m)
      → ArePastEndsBefore h t order i (λ k. slice_index_or ends k 0)
      → ArePastEndsBefore h t order (i + 1) (λ k. slice_index_or (slice_set ends n m) k 0)
  ends-step ends m within next now =
      ends-next (λ k. slice_index_or ends k 0) (λ k. slice_index_or (slice_set ends n m) k 0)
      (λ a is_op here. subst (λ (k : ℕ). IsNextEnd h t (λ j. slice_index_or ends j 0) a k) (sym (get_or-set_same ends n m 0 within))
      (next a is_op here))
      (λ k apart. get_or-set_other ends n k m 0 apart)
      now

  -- the same in a lane of rows
  pub row-step : (rows : List (List ℕ)) (row : List ℕ) (lane : ℕ) → n < length rows
      → ((a : OpId) → IsOp h a → number h a ≡ n → IsNextEnd h t (lane_of rows lane) a (in_lane row lane))
      → ArePastEndsBefore h t order i (lane_of rows lane)
      → ArePastEndsBefore h t order (i + 1) (lane_of (slice_set rows n row) lane)
  row-step rows row lane within next now =
      ends-next (lane_of rows lane) (lane_of (slice_set rows n row) lane)
      (λ a is_op here. subst (λ (r : List ℕ). IsNextEnd h t (lane_of rows lane) a (in_lane r lane))
      (sym (get_or-set_same rows n row [] within)) (next a is_op here))
      (λ k apart. ap (λ (r : List ℕ). in_lane r lane) (get_or-set_other rows n k row [] apart))
      now

  pub firsts-step : (firsts lowered : ℕ → ℕ) → ((a : OpId) → IsOp h a → number h a ≡ n → IsLowered h t firsts a lowered)
      → AreFirstsFrom h t order (i + 1) firsts → AreFirstsFrom h t order i lowered
  firsts-step firsts lowered is now =
      let a = ordered.no_other i n at in
      firsts-next h (IsListedEdge h []) (listed-of_history h []) order ordered t i firsts lowered a.0 a.1
      (at ∙ ap (λ (k : ℕ). Some k) (sym a.2)) (is a.0 a.1 a.2) now
