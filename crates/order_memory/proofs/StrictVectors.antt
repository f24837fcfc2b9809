-- Vectors that don't count their own operation.
use Rattle.std.specs.Prelude.{◌≡◌, ◌≢◌, ℕ, ◌+◌, ◌<◌, ◌≤◌, [], length}
use Rattle.std.proofs.Common.{arith, sym, ap, subst, ◌∙◌, ⊎_elim, inl, inr}
use Rattle.std.proofs.lemmas.Bool.{cases_eq, cases_lt}
use Rattle.std.proofs.lemmas.List.{get_or_past}
use Rattle.model_history.specs.declared.op_id.OpId.{OpId}
use Rattle.model_history.specs.History.{IsOp, session}
use Rattle.order_causal.specs.Orders.{op, IsEarlier}
use Rattle.order_causal.proofs.Items.{item-cases, item-here}
use Rattle.order_causal.proofs.OrdersLaws.{session-of_history}
use Rattle.order_memory.specs.Steps.GrowingOrders.{AreHeldVectors}
use Rattle.order_memory.specs.Steps.HappenedBefores.{AreStrictBefore, AreStrictOf}
use Rattle.order_memory.specs.Memory.{MemoryHistory}
use Rattle.order_causal.specs.Vectors.{Counts, count, with_item}
use Rattle.order_memory.proofs.EarlierLaws.{earlier_cases}
use Rattle.order_memory.proofs.HeldItems.{listed-held}

module _ (h : MemoryHistory) where
  -- sessions that are short so far, and behind the last none
  pub all-short : (n : ℕ) → n ≡ length h.1 → ((s : ℕ) → s < n → length (session h s) ≤ 256) → (s : ℕ) → length (session h s) ≤ 256
  all-short n ended below s = ⊎_elim
      (λ (inside : s < n). below s inside)
      (λ (past : n ≤ s). let none = ap (λ (es : _). length es) (get_or_past h.1 s [] (omega arith)) in omega arith)
      (cases_lt s n)

  -- before the first operation nothing is left out
  pub strict-none : (v strict : Counts) → strict ≡ v → AreStrictBefore h v (op 0 0) strict
  strict-none v strict same = record {
    own = λ o is_op earlier. absurd (⊎_elim
        (λ (below : o.session < 0). omega arith)
        (λ (here : (o.session ≡ 0) × (o.index < 0)). let below = here.1 in omega arith)
        earlier);
    others = λ o s apart. ap (λ (x : Counts). count x o s) same;
  }

  -- one operation more is left out
  pub strict-next : (v strict : Counts) (s i : ℕ) → AreHeldVectors h strict → IsOp h (op s i) → s < length h.1
      → AreStrictBefore h v (op s i) strict → AreStrictBefore h v (op s (i + 1)) (with_item strict (op s i) s i)
  strict-next v strict s i held is_op exists before =
      let listed = listed-held h strict held (op s i) is_op s i exists in
      let size = held.vectors.counts (op s i) is_op in
      let here : count (with_item strict (op s i) s i) (op s i) s ≡ i = item-here strict (op s i) s i listed (omega arith) in
      record {
        own = λ o o_is_op earlier. ⊎_elim
            (λ (old : IsEarlier o (op s i)). ⊎_elim
            (λ (same : count (with_item strict (op s i) s i) o o.session ≡ count strict o o.session). same ∙ before.own o o_is_op old)
            (λ (places : (o ≡ op s i) × (o.session ≡ s)).
            subst (λ (p : OpId). count (with_item strict (op s i) s i) p p.session ≡ p.index) (sym places.0) here)
            (item-cases strict (op s i) s i listed o o.session))
            (λ (last : o ≡ op s i). subst (λ (p : OpId). count (with_item strict (op s i) s i) p p.session ≡ p.index) (sym last) here)
            (earlier_cases o s i earlier);
        others = λ o t apart. ⊎_elim
            (λ (same : count (with_item strict (op s i) s i) o t ≡ count strict o t). same ∙ before.others o t apart)
            (λ (places : (o ≡ op s i) × (t ≡ s)). absurd (apart (places.1 ∙ sym (ap (λ (p : OpId). p.session) places.0))))
            (item-cases strict (op s i) s i listed o t);
      }

  -- the end of a session
  pub strict-session : (v strict : Counts) (s i : ℕ) → length (session h s) ≤ i → AreStrictBefore h v (op s i) strict → AreStrictBefore h v (op (s + 1) 0) strict
  strict-session v strict s i ended before = record {
    own = λ o is_op earlier. before.own o is_op (⊎_elim
        (λ (below : o.session < s + 1). ⊎_elim
        (λ (here : o.session ≡ s).
        let inside : o.index < length (session h s) = subst (λ (t : ℕ). o.index < length (session h t)) here is_op in
        inr (here, omega arith))
        (λ (apart : o.session ≢ s). inl (omega arith))
        (cases_eq o.session s))
        (λ (none : (o.session ≡ s + 1) × (o.index < 0)). let below = none.1 in absurd (omega arith))
        earlier);
    others = before.others;
  }

  -- the end of the last session
  pub strict-all : (v strict : Counts) (n : ℕ) → length h.1 ≤ n → AreStrictBefore h v (op n 0) strict → AreStrictOf h v strict
  strict-all v strict n ended before = record {
    own = λ o is_op. before.own o is_op (inl (let exists = session-of_history h o is_op in omega arith));
    others = λ o s is_op apart. before.others o s apart;
  }
