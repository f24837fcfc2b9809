-- A session goes through the edges to its next operation.
use Rattle.std.specs.Prelude.{◌≡◌, ◌≢◌, ℕ, ◌+◌, ◌<◌, ◌≤◌, List, Some, slice_get}
use Rattle.std.proofs.Common.{arith, refl, sym, ◌∙◌, subst, inl, inr, ⊎_elim, get_or}
use Rattle.std.proofs.lemmas.Bool.{cases_lt, cases_eq}
use Rattle.std.proofs.lemmas.Option.{same_Some, slice_get_within, slice_get-get_or}
use Rattle.model_history.specs.declared.op_id.OpId.{OpId}
use Rattle.model_history.specs.History.{IsOp, number}
use Rattle.order_memory.specs.Memory.{MemoryHistory}
use Rattle.judge_memory.specs.Steps.{IsListedEdge}
use Rattle.judge_memory.proofs.Numbers.{number-found, number-once}
use Rattle.judge_memory.specs.Edges.{AreSortedEdges, AreFromOperations}
use Rattle.judge_memory.specs.Placements.{IsPlaced, IsNumberPlaced, IsPassed, ArePassed, IsWaiting}

module _ (h : MemoryHistory) (edges : List (ℕ × ℕ)) (next : ℕ → ℕ) where
  -- what is said of the edge at a place is so of each pair that stands there
  one-edge : (P : ℕ → ℕ → Type 0) (j from to x y : ℕ) → slice_get edges j ≡ Some (from, to) → slice_get edges j ≡ Some (x, y)
      → P from to → P x y
  one-edge P j from to x y first second holds =
      let both : (from, to) ≡ (x, y) = same_Some (from, to) (x, y) (sym first ∙ second) in
      subst (λ (e : ℕ × ℕ). P e.0 e.1) both holds

  -- one edge more
  pub passed-edge : (n at from to : ℕ) → ArePassed h edges next n at → slice_get edges at ≡ Some (from, to) → IsPassed h next n from to
      → ArePassed h edges next n (at + 1)
  passed-edge n at from to now at_edge passed j x y below at_j = ⊎_elim
      (λ (before : j < at). now j x y before at_j)
      (λ (end : at ≤ j).
      let here : j ≡ at = omega arith in
      one-edge (IsPassed h next n) at from to x y at_edge (subst (λ (i : ℕ). slice_get edges i ≡ Some (x, y)) here at_j) passed)
      (cases_lt j at)

  -- more is placed, or the session goes on
  pub passed-more : (after : ℕ → ℕ) (n m at : ℕ) → ((a : OpId) → IsPlaced h next a → IsPlaced h after a) → n ≤ m
      → ArePassed h edges next n at → ArePassed h edges after m at
  passed-more after n m at still up_to now j from to below at_j = ⊎_elim
      (λ (less : to < n). inl (omega arith))
      (λ (end : (to ≡ n) × IsNumberPlaced h next from). ⊎_elim
      (λ (same : n ≡ m). inr (end.0 ∙ same, λ a is_op is. still a (end.1 a is_op is)))
      (λ (apart : n ≢ m). let here = end.0 in inl (omega arith))
      (cases_eq n m))
      (now j from to below at_j)

  -- where the edges before a place were passed, and the one there leads further, all to an operation are from placed ones
  pub passed-ready : (n at : ℕ) → ArePassed h edges next n at → AreSortedEdges edges
      → ((from to : ℕ) → slice_get edges at ≡ Some (from, to) → n < to) → (a p : OpId) → number h p ≡ n → IsListedEdge h edges a p
      → IsPlaced h next a
  passed-ready n at now sorted further a p is_n (j, at_j, is_a, is_p) = ⊎_elim
      (λ (before : j < at). ⊎_elim
      (λ (less : number h p < n). absurd (omega arith))
      (λ (end : (number h p ≡ n) × IsNumberPlaced h next (number h a)). end.1 a is_a refl)
      (now j (number h a) (number h p) before at_j))
      (λ (behind : at ≤ j).
      let inside = slice_get_within edges j (number h a, number h p) at_j in
      let e : ℕ × ℕ = get_or edges at (0, 0) in
      let here : slice_get edges at ≡ Some (e.0, e.1) = slice_get-get_or edges at (0, 0) (omega arith) in
      let above = further e.0 e.1 here in
      let up_to = sorted at j e.0 e.1 (number h a) (number h p) behind here at_j in
      absurd (omega arith))
      (cases_lt j at)

  -- an edge to an operation that is not passed makes it wait
  pub unpassed-waits : (at from : ℕ) (p : OpId) → AreFromOperations h edges → IsOp h p → slice_get edges at ≡ Some (from, number h p)
      → ¬ IsPassed h next (number h p) from (number h p) → IsWaiting h (IsListedEdge h edges) next p
  unpassed-waits at from p known is_op at_edge unpassed =
      let found = number-found h from (known at from (number h p) at_edge) in
      let a : OpId = found.0 in
      let is_a : IsOp h a = found.1 in
      let is_from : number h a ≡ from = found.2 in (
        a,
        inr (at, subst (λ (m : ℕ). slice_get edges at ≡ Some (m, number h p)) (sym is_from) at_edge, is_a, is_op),
        λ placed. unpassed (inr (
          refl,
          λ b is_b is.
              let same = number-once h a b is_a is_b (is_from ∙ sym is) in
              subst (IsPlaced h next) same placed,
        )),
      )
