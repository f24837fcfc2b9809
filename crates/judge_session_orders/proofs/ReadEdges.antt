-- The past of an operation, found by the edges of the reads of an order from its end.
use Rattle.std.specs.Prelude.{◌≡◌, ℕ, zero, suc, ◌+◌, ◌<◌, List, [], ◌∷◌, ◌++◌, drop, length, slice_index_or}
use Rattle.std.proofs.Common.{arith, refl, sym, subst, ap, inl, inr, ◌∙◌}
use Rattle.std.proofs.Math.Seq.{drop-cons}
use Rattle.std.proofs.lemmas.List.{append_assoc, append-nil}
use Rattle.model_history.specs.declared.op_id.OpId.{OpId}
use Rattle.model_history.specs.History.{IsOp}
use Rattle.order_memory.specs.Memory.{MemoryHistory}
use Rattle.order_memory.specs.Relations.{ReadsFrom}
use Rattle.judge_memory.specs.Steps.{IsOrderWith, StandsAs}
use Rattle.judge_session_orders.specs.Pasts.{AreReadEdges, IsPastAfter, IsPushed, IsReadEdge}
use Rattle.judge_session_orders.specs.declared.read_edges.ReadEdge.{ReadEdge}
use Rattle.judge_session_orders.proofs.PastLaws.{past-next, raised-none}

abbrev no-edge : ReadEdge
no-edge = record { read = 0; session = 0; end = 0; source_session = 0 }

module _ (h : MemoryHistory) (also : OpId → OpId → Type 0) (order : List ℕ) (ordered : IsOrderWith h also order) (o : OpId)
    (left : ℕ → ℕ) where
  -- an operation without a source asks for no more
  past-same : (i : ℕ) (b : OpId) → IsOp h b → StandsAs h order i b → ((w : OpId) → ¬ ReadsFrom h w b)
      → IsPastAfter h o order (suc i) left → IsPastAfter h o order i left
  past-same i b is_b at none now =
      let one : suc i ≡ i + 1 = omega arith in
      past-next h also order ordered o i b is_b at left left (raised-none h b left (λ _. none))
      (subst (λ (n : ℕ). IsPastAfter h o order n left) one now)

  -- the place of the read whose edge comes next, up to which nothing more is asked for
  pub record IsNextEdge (e : ReadEdge) (after : List ReadEdge) : Type 0 where
    pub place : ℕ
    pub read : OpId
    pub is_op : IsOp h read
    pub at : StandsAs h order place read
    pub edge : IsReadEdge h read e
    pub past : IsPastAfter h o order (place + 1) left
    pub others : AreReadEdges h order place after

  pub edge-next : (i : ℕ) (e : ReadEdge) (others : List ReadEdge) → IsPastAfter h o order i left → AreReadEdges h order i (e ∷ others)
      → IsNextEdge e others
  edge-next zero e others now are = absurd cc
  edge-next (suc i) e others now (b, is_b, at, inl (none, more)) = edge-next i e others (past-same i b is_b at none now) more
  edge-next (suc i) e others now (b, is_b, at, inr (f, rest, same, edge, more)) = record {
    place = i;
    read = b;
    is_op = is_b;
    at = at;
    edge = let first : f ≡ e = cc in subst (IsReadEdge h b) first edge;
    past = let one : suc i ≡ i + 1 = omega arith in subst (λ (n : ℕ). IsPastAfter h o order n left) one now;
    others = let after : rest ≡ others = cc in subst (AreReadEdges h order i) after more;
  }

  -- the next edge of a list of edges, from a place of it on
  pub edge-at : (i : ℕ) (edges : List ReadEdge) (j : ℕ) → j < length edges → IsPastAfter h o order i left
      → AreReadEdges h order i (drop j edges) → IsNextEdge (slice_index_or edges j no-edge) (drop (j + 1) edges)
  edge-at i edges j inside now are =
      let one : suc j ≡ j + 1 = omega arith in
      subst (λ (n : ℕ). IsNextEdge (slice_index_or edges j no-edge) (drop n edges)) one
      (edge-next i (slice_index_or edges j no-edge) (drop (suc j) edges) now
      (subst (AreReadEdges h order i) (drop-cons edges j no-edge inside) are))

  -- where no edge is left, nothing more is asked for
  pub edges-done : (i : ℕ) → IsPastAfter h o order i left → AreReadEdges h order i [] → IsPastAfter h o order 0 left
  edges-done zero now _ = now
  edges-done (suc i) now (b, is_b, at, inl (none, more)) = edges-done i (past-same i b is_b at none now) more
  edges-done (suc i) now (b, is_b, at, inr (e, rest, same, edge, more)) = absurd cc

module _ (h : MemoryHistory) (order : List ℕ) (all : ℕ) where
  -- with the edges of the places before i, in whichever way they are given, the edges are those of all places
  abbrev pub AreEdgesFrom : ℕ → List ReadEdge → Type 0
  AreEdgesFrom i edges = (rest : List ReadEdge) → AreReadEdges h order i rest → AreReadEdges h order all (edges ++ rest)

  pub edges-more : (i : ℕ) (b : OpId) (old new : List ReadEdge) → IsOp h b → StandsAs h order i b → IsPushed h b old new
      → AreEdgesFrom (suc i) old → AreEdgesFrom i new
  edges-more i b old new is_b at (inl (none, same)) was rest are =
      subst (λ (es : List ReadEdge). AreReadEdges h order all (es ++ rest)) (sym same) (was rest (b, is_b, at, inl (none, are)))
  edges-more i b old new is_b at (inr (e, edge, same)) was rest are =
      subst (AreReadEdges h order all) (sym (ap (λ (es : List ReadEdge). es ++ rest) same ∙ append_assoc old (e ∷ []) rest))
      (was (e ∷ rest) (b, is_b, at, inr (e, rest, refl, edge, are)))

  pub edges-all : (edges : List ReadEdge) → AreEdgesFrom 0 edges → AreReadEdges h order all edges
  edges-all edges was = subst (AreReadEdges h order all) (append-nil edges) (was [] refl)
