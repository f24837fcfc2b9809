-- Lists of edges in another order.
use Rattle.std.specs.Prelude.{◌≡◌, ◌⊎◌, ℕ, List, Some, IsPermutation, slice_get, slice_index_or}
use Rattle.std.specs.List.Sorted.{IsNonDecreasingBy}
use Rattle.std.proofs.Common.{arith, ap, sym, ◌∙◌, inl, inr, ⊎_elim}
use Rattle.std.proofs.lemmas.List.Sorted.{Contains-permutation, IsPermutation-sym}
use Rattle.std.proofs.lemmas.Option.{same_Some, slice_get_within, slice_get-get_or}
use Rattle.model_history.specs.declared.op_id.OpId.{OpId}
use Rattle.model_history.specs.History.{Precedes}
use Rattle.order_causal.specs.Orders.{Leads}
use Rattle.order_memory.specs.Memory.{MemoryHistory}
use Rattle.order_memory.specs.Relations.{CO}
use Rattle.judge_memory.specs.Steps.{IsListedEdge, IsOrderBy, IsStepWith}
use Rattle.judge_memory.specs.Edges.{AreFromOperations, AreSortedEdges}
use Rattle.judge_columns.specs.Conflicts.{IsReducedIn}
use Rattle.judge_columns.specs.Swept.{AreEdgesOf, HasEdge}
use Rattle.judge_columns.proofs.LateWrites.{InConflict, conflicts-from_reduced, reduced-acyclic}

abbrev Edges : Type 0
Edges = List (ℕ × ℕ)

-- what stands at a place of a list
get-same : (edges : Edges) (j : ℕ) (e d : ℕ × ℕ) → slice_get edges j ≡ Some e → slice_index_or edges j d ≡ e
get-same edges j e d at = same_Some _ _ (sym (slice_get-get_or edges j d (slice_get_within edges j e at)) ∙ at)

-- a list has the same edges in another order
pub edge-moved : (edges moved : Edges) → IsPermutation edges moved → (from to : ℕ) → HasEdge edges from to → HasEdge moved from to
edge-moved edges moved permuted from to (j, at) =
    let inside = slice_get_within edges j (from, to) at in
    let found = Contains-permutation edges moved (from, to) permuted (j, inside, get-same edges j (from, to) (from, to) at) in
    (found.0, slice_get-get_or moved found.0 (from, to) found.1 ∙ ap (λ (e : ℕ × ℕ). Some e) found.2)

pub sorted-edges : (edges : Edges) → IsNonDecreasingBy (λ (e : ℕ × ℕ). e.1) edges → AreSortedEdges edges
sorted-edges edges rising i j a b c d up_to first second =
    let inside = slice_get_within edges j (c, d) second in
    let least = ap (λ (e : ℕ × ℕ). e.1) (get-same edges i (a, b) (0, 0) first) in
    let greatest = ap (λ (e : ℕ × ℕ). e.1) (get-same edges j (c, d) (0, 0) second) in
    let rises = rising i j (0, 0) up_to inside in
    omega arith

module _ (h : MemoryHistory) (edges moved : Edges) (permuted : IsPermutation edges moved) where
  listed-moved : (a w : OpId) → IsListedEdge h edges a w → IsListedEdge h moved a w
  listed-moved a w (j, at, is_a, is_w) = let place = edge-moved edges moved permuted _ _ (j, at) in (place.0, place.1, is_a, is_w)

  listed-back : (a w : OpId) → IsListedEdge h moved a w → IsListedEdge h edges a w
  listed-back a w (j, at, is_a, is_w) =
      let place = edge-moved moved edges (IsPermutation-sym edges moved permuted) _ _ (j, at) in (place.0, place.1, is_a, is_w)

  pub from-moved : AreEdgesOf h edges → AreFromOperations h moved
  from-moved below j from to at =
      let place = edge-moved moved edges (IsPermutation-sym edges moved permuted) from to (j, at) in
      (below place.0 from to place.1).0

  module _ (reduced : (t : ℕ) → IsReducedIn h t (IsListedEdge h edges)) where
    reduced-moved : (t : ℕ) → IsReducedIn h t (IsListedEdge h moved)
    reduced-moved t = record {
      sound = λ a w edge. (reduced t).sound a w (listed-back a w edge);
      each = λ b w of_t conflict. ⊎_elim
          (λ (before : CO h b w). inl before)
          (λ (some : (a : OpId) × ((b ≡ a) ⊎ Precedes b a) × IsListedEdge h edges a w). inr (some.0, some.1, listed-moved some.0 w some.2))
          ((reduced t).each b w of_t conflict);
    }

    -- an order by the edges shows that there is no cycle, and a cycle by the edges that there is one
    pub moved-acyclic : (order : List ℕ) → IsOrderBy h moved order → (a : OpId) → ¬ Leads (InConflict h) a a
    moved-acyclic = reduced-acyclic h (IsListedEdge h moved) reduced-moved

    pub moved-cyclic : (a : OpId) → Leads (IsStepWith h (IsListedEdge h moved)) a a → Leads (InConflict h) a a
    moved-cyclic a = conflicts-from_reduced h (IsListedEdge h moved) reduced-moved a a
