-- An order by steps shows that they make no cycle.
use Rattle.std.specs.Prelude.{ℕ, List, [], Option, None, Some, Result, Ok, Err, IfOk, MatchOption}
use Rattle.std.proofs.Common.{arith, ⊎_elim}
use Rattle.model_history.specs.declared.op_id.OpId.{OpId}
use Rattle.model_history.specs.History.{number}
use Rattle.order_causal.specs.Orders.{Leads}
use Rattle.order_causal.proofs.PathsLaws.{leads-wider, leads-within, last-edge}
use Rattle.order_memory.specs.Memory.{MemoryHistory}
use Rattle.order_memory.specs.Relations.{CO}
use Rattle.order_memory.specs.SourceOrder.{IsCyclic}
use Rattle.judge_memory.specs.Steps.{IsStep, IsStepWith, IsListedEdge, AreOfHistory, StandsAs, IsVisited, IsOrderWith, IsOrderBy}
use Rattle.judge_memory.proofs.Steps.{causal-from_steps, steps-from_causal, steps-with, step_with-of_history}

-- listed edges are between operations of the history
pub listed-of_history : (h : MemoryHistory) (edges : List (ℕ × ℕ)) → AreOfHistory h (IsListedEdge h edges)
listed-of_history h edges a b edge = (edge.2, edge.3)

module _ (h : MemoryHistory) (also : OpId → OpId → Type 0) (named : AreOfHistory h also) (order : List ℕ)
    (ordered : IsOrderWith h also order) where
  -- what leads to an operation stands before it
  pub leads-before : (a b : OpId) → Leads (IsStepWith h also) a b → (k : ℕ) → StandsAs h order k b → IsVisited h order k a
  leads-before = leads-within (IsStepWith h also) (λ a b. (k : ℕ) → StandsAs h order k b → IsVisited h order k a)
      (λ a b step k at. ordered.after k a b step at)
      (λ a b c before behind k at.
      let second = behind k at in
      let first = before second.0 second.2 in
      let below = second.1 in
      let under = first.1 in
      (first.0, omega arith, first.2))

  -- nothing leads to itself
  pub order-acyclic : (a : OpId) → ¬ Leads (IsStepWith h also) a a
  order-acyclic a leads =
      let last = last-edge (IsStepWith h also) a a leads in
      let place = ordered.each a (step_with-of_history h also named last.0 a last.2).1 in
      let before = leads-before a a leads place.0 place.1 in
      let same = ordered.once before.0 place.0 (number h a) before.2 place.1 in
      let below = before.1 in
      omega arith

  -- and nothing is causally before itself
  pub order-straight : (a : OpId) → ¬ CO h a a
  order-straight a before = order-acyclic a (steps-with h also a a (steps-from_causal h a a before))

module _ (h : MemoryHistory) (edges : List (ℕ × ℕ)) (order : List ℕ) (ordered : IsOrderBy h edges order) where
  -- the same by listed edges
  pub order_by-acyclic : (a : OpId) → ¬ Leads (IsStepWith h (IsListedEdge h edges)) a a
  order_by-acyclic = order-acyclic h (IsListedEdge h edges) (listed-of_history h edges) order ordered

  pub order_by-straight : ¬ IsCyclic h
  order_by-straight (a, before) = order-straight h (IsListedEdge h edges) (listed-of_history h edges) order ordered a before

-- without edges, what leads to itself is causally before itself
pub unlisted-cyclic : (h : MemoryHistory) → (a : OpId) × Leads (IsStepWith h (IsListedEdge h [])) a a → IsCyclic h
unlisted-cyclic h (a, leads) = (
  a,
  causal-from_steps h a a (leads-wider (IsStepWith h (IsListedEdge h [])) (IsStep h) (λ x y step. ⊎_elim
      (λ (plain : IsStep h x y). plain)
      (λ (bad : IsListedEdge h [] x y). let at = bad.1 in absurd cc)
      step) a a leads),
)

-- so an answer by no edges is one by the causal order
pub unlisted-order : (h : MemoryHistory) {V E : Type 0} (items : V → List ℕ) (r : Result (Option V) E)
    → IfOk r (λ out. MatchOption out ((a : OpId) × Leads (IsStepWith h (IsListedEdge h [])) a a) (λ o. IsOrderBy h [] (items o)))
    → IfOk r (λ out. MatchOption out (IsCyclic h) (λ o. IsOrderBy h [] (items o)))
unlisted-order h items (Ok None) leads = unlisted-cyclic h leads
unlisted-order h items (Ok (Some o)) ordered = ordered
unlisted-order h items (Err e) nothing = nothing
