-- Where vectors grow, each count that changes is one that a raise notes.
use Rattle.std.specs.Prelude.{◌≡◌, ◌⊎◌, ℕ, ◌+◌, ◌-◌, ◌≤◌, ◌++◌, List, length}
use Rattle.std.proofs.Common.{arith, refl, sym, ap, subst, ◌∙◌, ⊎_elim, inl, inr, length-append}
use Rattle.model_history.specs.declared.op_id.OpId.{OpId}
use Rattle.order_memory.specs.declared.growing_order.GrowingOrder.{GrowingOrder}
use Rattle.order_memory.specs.declared.growing_order.Raise.{Raise}
use Rattle.order_memory.specs.Memory.{MemoryHistory}
use Rattle.order_memory.specs.Raises.{IsRaisedSince}
use Rattle.order_memory.specs.Steps.GrowthSteps.{Grows, IsRaise, raises_from}
use Rattle.order_causal.proofs.OrdersLaws.{same_op}
use Rattle.order_causal.specs.Orders.{op, Ops}
use Rattle.order_causal.specs.Vectors.{Counts, count}
use Rattle.order_memory.proofs.GrowthLaws.{grows-keep}
use Rattle.order_memory.proofs.RaiseLists.{at-left, at-right, raise_behind, raises-at}
use Rattle.order_memory.proofs.Ranges.{IsChange}

-- what was raised since is raised since with more raises behind
since-more : (raises more : List Raise) (n : ℕ) (b : OpId) → IsRaisedSince raises n b → IsRaisedSince (raises ++ more) n b
since-more raises more n b since = (since.0, since.1, since.2, at-left raises more since.0 since.1 since.3, since.4)

-- the vector of b counts what it counted, or was raised since the first n raises
abbrev pub IsSameSince : Counts → List Raise → ℕ → Counts → Type 0
IsSameSince v raises n now = (b : OpId) (s : ℕ) → (count now b s ≡ count v b s) ⊎ IsRaisedSince raises n b

module _ (h : MemoryHistory) (free : Type 0) (reads : Ops) where
  -- so it is after one raise more
  raise-since : (v : Counts) (n : ℕ) (x y : GrowingOrder) → n ≤ length x.raises.items → IsSameSince v x.raises.items n x.counts → IsRaise h reads x y
      → IsSameSince v y.raises.items n y.counts
  raise-since v n x y from before raise b s =
      let first : OpId = raise.raised.op in
      let size : ℕ = raise.raised.end - first.index in
      let made : List Raise = raises_from first raise.raised.session raise.number raise.named size in
      ⊎_elim
      (λ (same : count y.counts b s ≡ count x.counts b s). ⊎_elim
      (λ (as_before : count x.counts b s ≡ count v b s). inl (same ∙ as_before))
      (λ (since : IsRaisedSince x.raises.items n b).
      inr (subst (λ (es : List Raise). IsRaisedSince es n b) (sym raise.raises) (since-more x.raises.items made n b since)))
      (before b s))
      (λ (change : IsChange x.counts y.counts first.session first.index raise.raised.end raise.raised.session raise.number raise.range b s).
      let behind : ℕ = b.index - first.index in
      let above = change.1 in
      let below = change.2 in
      let at = raises-at first raise.raised.session raise.number raise.named size behind (omega arith) in
      let there = at-right x.raises.items made (length x.raises.items + behind) behind
      (raise_behind first raise.raised.session raise.number raise.named behind) (omega arith) at in
      let is : op first.session (first.index + behind) ≡ b = same_op (op first.session (first.index + behind)) b (sym change.0) (omega arith) in
      inr (subst (λ (es : List Raise). IsRaisedSince es n b) (sym raise.raises)
      (length x.raises.items + behind, raise_behind first raise.raised.session raise.number raise.named behind, omega arith, there, is)))
      (raise.range.each b s)

  -- and after some steps
  pub grows-since : (a b : GrowingOrder) → Grows h free reads a b → IsSameSince a.counts b.raises.items (length a.raises.items) b.counts
  grows-since a b grows = (grows-keep h free reads
      (λ (x : GrowingOrder). (length a.raises.items ≤ length x.raises.items) × IsSameSince a.counts x.raises.items (length a.raises.items) x.counts)
      (λ x y before raise.
      let first = before.0 in
      let more = ap (λ (es : List Raise). length es) raise.raises
      ∙ length-append x.raises.items (raises_from raise.raised.op raise.raised.session raise.number raise.named (raise.raised.end - raise.raised.op.index)) in
      (omega arith, raise-since a.counts (length a.raises.items) x y before.0 before.1 raise))
      (λ x y before included.
      let first = before.0 in
      let more = ap (λ (es : List Raise). length es) included.raises in
      (omega arith, rw (included.raises, included.counts) before.1))
      (λ x y before is released.
      let first = before.0 in
      let more = ap (λ (es : List Raise). length es) released.raises in
      (omega arith, rw (released.raises, released.counts) before.1))
      a b grows (omega arith, λ p s. inl refl)).1
