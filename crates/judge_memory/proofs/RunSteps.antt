-- A session goes on: its next operation is placed, or it waits.
use Rattle.std.specs.Prelude.{◌≡◌, ◌↔◌, ℕ, ◌+◌, ◌<◌, ◌≤◌, List, [], ◌∷◌, ◌++◌, length, None, Some, slice_get, slice_set}
use Rattle.std.proofs.Common.{arith, ap, sym, ◌∙◌, subst, ⊎_elim, get_or}
use Rattle.std.proofs.lemmas.Option.{slice_get_cases, slice_get_within}
use Rattle.model_history.specs.declared.op_id.OpId.{OpId}
use Rattle.model_history.specs.History.{IsOp, many_before, number}
use Rattle.order_causal.specs.Orders.{Leads}
use Rattle.order_causal.proofs.OrdersLaws.{session-of_history}
use Rattle.order_memory.specs.Memory.{MemoryHistory, IsDifferentiated}
use Rattle.order_memory.specs.Relations.{ReadsFrom}
use Rattle.order_memory.proofs.FirstWrites.{distinct-source, source-unique}
use Rattle.judge_memory.specs.Steps.{many, IsListedEdge, IsOrderBy, IsStepWith}
use Rattle.judge_memory.proofs.Numbers.{number-found, number-once, number-below}
use Rattle.judge_memory.specs.declared.rounds.Unfinished.{Unfinished}
use Rattle.judge_memory.specs.Placements.{ArePassed, IsGrownFrom, IsNextToPlace, IsNumberPlaced, IsPlaced, IsPlacement, IsReady, IsWaiting, next_of}
use Rattle.judge_memory.specs.Sessions.{AreStuck, AreUnfinished, IsStuck}
use Rattle.judge_memory.proofs.Orders.{listed-of_history}
use Rattle.judge_memory.proofs.Passing.{passed-more}
use Rattle.judge_memory.proofs.Placings.{next-operation, finished-placed, placement-placed, grown-placed, so_far-whole}
use Rattle.judge_memory.proofs.Stuck.{stuck-leads}

-- a test of one operation's session tells whether the operation with a number is placed
pub number_placed-test : (h : MemoryHistory) (next : ℕ → ℕ) (n s : ℕ) → n < many h
    → ((a : OpId) → IsOp h a → number h a ≡ n → s ≡ a.session) → (n < next s) ↔ IsNumberPlaced h next n
number_placed-test h next n s below of_number = (
  (λ placed a is_op is. subst (λ (m : ℕ). m < next a.session) (sym is) (subst (λ (t : ℕ). n < next t) (of_number a is_op is) placed)),
  (λ each.
      let found = number-found h n below in
      let a : OpId = found.0 in
      let is : number h a ≡ n = found.2 in
      let placed : number h a < next a.session = each a found.1 is in
      let same = of_number a found.1 is in
      let value : next s ≡ next a.session = ap next same in
      omega arith),
)

one-source : (h : MemoryHistory) → IsDifferentiated h → (u w r : OpId) → ReadsFrom h u r → ReadsFrom h w r → u ≡ w
one-source h distinct u w r first second =
    source-unique h u w r (distinct-source h distinct u r first) (distinct-source h distinct w r second)

-- where the source of an operation has a number, it waits for that alone
pub source-placed : (h : MemoryHistory) (next : ℕ → ℕ) → IsDifferentiated h → (n : ℕ) (w p : OpId) → IsOp h w → ReadsFrom h w p
    → number h w ≡ n → IsNumberPlaced h next n → (a : OpId) → ReadsFrom h a p → IsPlaced h next a
source-placed h next distinct n w p is_w from is placed a from_a =
    subst (IsPlaced h next) (one-source h distinct w a p from from_a) (placed w is_w is)

module _ (h : MemoryHistory) (edges : List (ℕ × ℕ)) (next order : List ℕ) (now : IsPlacement h edges next order) where
  module _ (s o : ℕ) (inside : s < length h.1) (is_o : next_of next s ≡ o) (below : o < many_before h (s + 1)) where
    -- the operation that is to be placed
    the_next : (p : OpId) × IsNextToPlace h (next_of next) p × (p.session ≡ s)
    the_next = next-operation h edges next order now s inside (omega arith)

    abbrev p : OpId
    p = the_next.0

    p-number : number h p ≡ o
    p-number = (the_next.1).1 ∙ ap (next_of next) the_next.2 ∙ is_o

    pub run-stuck : ((q : OpId) → IsOp h q → number h q ≡ o → IsWaiting h (IsListedEdge h edges) (next_of next) q)
        → IsStuck h edges (next_of next) s
    run-stuck waits = (p, the_next.1, the_next.2, waits p (the_next.1).0 p-number)

    module _ (ready : (q : OpId) → IsOp h q → number h q ≡ o → IsReady h (IsListedEdge h edges) (next_of next) q) (after longer : List ℕ)
        (is_after : after ≡ slice_set next s (o + 1)) (is_longer : longer ≡ order ++ o ∷ []) where
      p-after : after ≡ slice_set next p.session (number h p + 1)
      p-after =
          is_after ∙ ap (λ (t : ℕ). slice_set next t (o + 1)) (sym the_next.2)
          ∙ ap (λ (n : ℕ). slice_set next p.session (n + 1)) (sym p-number)

      p-longer : order ++ number h p ∷ [] ≡ longer
      p-longer = ap (λ (n : ℕ). order ++ n ∷ []) p-number ∙ sym is_longer

      pub run-placement : IsPlacement h edges after longer
      run-placement = subst (IsPlacement h edges after) p-longer
          (placement-placed h edges next order now p the_next.1 (ready p (the_next.1).0 p-number) after p-after)

      pub run-grown : IsGrownFrom next order after longer
      run-grown = subst (IsGrownFrom next order after) p-longer
          (grown-placed h edges next order now p the_next.1 (ready p (the_next.1).0 p-number) after p-after)

      pub run-passed : (at : ℕ) → ArePassed h edges (next_of next) o at → ArePassed h edges (next_of after) (o + 1) at
      run-passed at passed = passed-more h edges (next_of next) (next_of after) o (o + 1) at
          (λ (a : OpId) (placed : IsPlaced h (next_of next) a). let more = run-grown.rises a.session in omega arith)
          (omega arith) passed

  -- where all sessions are finished, it is an order of all operations
  pub order-whole : (sessions : List Unfinished) → length sessions ≡ 0 → AreUnfinished h edges (next_of next) sessions
      → IsOrderBy h edges order
  order-whole sessions none are = so_far-whole h (IsListedEdge h edges) (listed-of_history h edges) (next_of next) order now.so_far
      (finished-placed h edges next order now (λ t inside unfinished.
      let found = are.each t inside unfinished in
      let within = slice_get_within sessions found.0 found.1 found.2 in
      omega arith))

  -- where some are not finished, and each of those waits, something leads to itself
  pub order-stuck : (sessions : List Unfinished) → 0 < length sessions → AreUnfinished h edges (next_of next) sessions
      → AreStuck h edges (next_of next) sessions → (a : OpId) × Leads (IsStepWith h (IsListedEdge h edges)) a a
  order-stuck sessions some are stuck =
      let first_of : (u : Unfinished) × (slice_get sessions 0 ≡ Some u) = ⊎_elim
      (λ (found : (u : Unfinished) × (0 < length sessions) × (slice_get sessions 0 ≡ Some u) × (get_or sessions 0 u ≡ u)).
      (found.0, found.2))
      (λ (past : (length sessions ≤ 0) × (slice_get sessions 0 ≡ None)). let none = past.0 in absurd (omega arith))
      (slice_get_cases sessions 0).1 in
      let first = stuck 0 first_of.0 first_of.1 in
      stuck-leads h (IsListedEdge h edges) (listed-of_history h edges) (next_of next) now.from_start
      (λ q is_next.
      let inside = session-of_history h q is_next.0 in
      let is = is_next.1 in
      let end = number-below h q is_next.0 in
      let found = are.each q.session inside (omega arith) in
      let one = stuck found.0 found.1 found.2 in
      let r : OpId = one.0 in
      let r_next : IsNextToPlace h (next_of next) r = one.1 in
      let same : r.session ≡ q.session = one.2 ∙ found.3 in
      let both : number h r ≡ number h q = r_next.1 ∙ ap (next_of next) same ∙ sym is in
      subst (IsWaiting h (IsListedEdge h edges) (next_of next)) (number-once h r q r_next.0 is_next.0 both) one.3)
      first.0 first.1
