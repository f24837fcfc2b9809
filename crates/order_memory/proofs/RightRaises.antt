-- Raises that are right, and counts that are reached by them.
use Rattle.std.specs.Prelude.{◌≡◌, ℕ, ◌+◌, ◌-◌, ◌<◌, ◌≤◌, ◌∷◌, ◌++◌, [], List, Some, IsTrue, length, slice_get}
use Rattle.std.proofs.Common.{zero, suc, arith, refl, sym, subst, subst₂, ⊎_elim, inl, inr, length-append, append-nil, append_assoc}
use Rattle.std.proofs.lemmas.Bool.{cases_lt}
use Rattle.std.proofs.lemmas.Option.{slice_get_within}
use Rattle.model_history.specs.declared.op_id.OpId.{OpId}
use Rattle.model_history.specs.History.{IsOp, Precedes}
use Rattle.order_memory.specs.declared.growing_order.Cause.{Cause}
use Rattle.order_memory.specs.declared.growing_order.Cause.TheVariants.{Through, Read}
use Rattle.order_memory.specs.declared.growing_order.Raise.{Raise}
use Rattle.order_memory.specs.Memory.{MemoryHistory}
use Rattle.order_memory.specs.Raises.{AreReached, AreRightRaises, IsReached, IsRightCause, IsRightRaise}
use Rattle.order_memory.specs.Relations.{IsPast}
use Rattle.order_memory.specs.Steps.GrowthSteps.{IsRange, raises_from}
use Rattle.order_causal.specs.Orders.{op, program_past}
use Rattle.order_causal.specs.Vectors.{Counts, count}
use Rattle.order_causal.proofs.Fronts.{push-at, push-last}
use Rattle.order_causal.proofs.OrdersLaws.{same_op}
use Rattle.order_memory.proofs.HappenedBeforeLaws.{past-past, past-program, program_past-earlier}
use Rattle.order_memory.proofs.RaiseLists.{at-left, at-right, raise_behind, raises-at, raises-length}
use Rattle.order_memory.proofs.Ranges.{IsChange}

module _ (v : Counts) (xs : List Raise) where
  -- what is reached by some raises, more raises reach, and less than that is reached
  pub reached-more : (ys : List Raise) (m n : ℕ) (b : OpId) (s c d : ℕ) → m ≤ n → d ≤ c → IsReached v xs m b s c → IsReached v (xs ++ ys) n b s d
  reached-more ys m n b s c d fewer less reached = ⊎_elim
      (λ (begun : c ≤ count v b s). inl (omega arith))
      (λ (raised : (j : ℕ) × (e : Raise) × (j < m) × (slice_get xs j ≡ Some e) × (e.op ≡ b) × (e.session ≡ s) × (c ≤ e.count)).
      let below = raised.2 in
      let most = raised.6 in
      inr (raised.0, raised.1, omega arith, at-left xs ys raised.0 raised.1 raised.3, raised.4, raised.5, omega arith))
      reached

  pub reached-less : (n : ℕ) (b : OpId) (s c d : ℕ) → d ≤ c → IsReached v xs n b s c → IsReached v xs n b s d
  reached-less n b s c d less reached = ⊎_elim
      (λ (begun : c ≤ count v b s). inl (omega arith))
      (λ (raised : (j : ℕ) × (e : Raise) × (j < n) × (slice_get xs j ≡ Some e) × (e.op ≡ b) × (e.session ≡ s) × (c ≤ e.count)).
      let most = raised.6 in
      inr (raised.0, raised.1, raised.2, raised.3, raised.4, raised.5, omega arith))
      reached

  -- what raises reach
  pub reached-behind : (b : OpId) (u c : ℕ) (cause : Cause) (n j : ℕ) (p : OpId) → j < n → p ≡ op b.session (b.index + j)
      → IsReached v (xs ++ raises_from b u c cause n) (length (xs ++ raises_from b u c cause n)) p u c
  reached-behind b u c cause n j p below is =
      let both = length-append xs (raises_from b u c cause n) in
      let size = raises-length b u c cause n in
      inr (
        length xs + j,
        raise_behind b u c cause j,
        omega arith,
        at-right xs (raises_from b u c cause n) (length xs + j) j (raise_behind b u c cause j) refl (raises-at b u c cause n j below),
        sym is,
        refl,
        omega arith,
      )

  -- what vectors count that were raised is reached
  pub reached-raised : (a w : Counts) (t i e u c : ℕ) (cause : Cause) → AreReached v xs a → (range : IsRange a w t i e u c)
      → AreReached v (xs ++ raises_from (op t i) u c cause (e - i)) w
  reached-raised a w t i e u c cause reached range p s = ⊎_elim
      (λ (same : count w p s ≡ count a p s).
      let both = length-append xs (raises_from (op t i) u c cause (e - i)) in
      reached-more (raises_from (op t i) u c cause (e - i)) (length xs) _ p s (count a p s) (count w p s) (omega arith) (omega arith) (reached p s))
      (λ (change : IsChange a w t i e u c range p s).
      let from = change.1 in
      let below = change.2 in
      let here : p ≡ op t (i + (p.index - i)) = same_op p (op t (i + (p.index - i))) change.0 (omega arith) in
      let value : count w p s ≡ c = change.5 in
      let ys : List Raise = xs ++ raises_from (op t i) u c cause (e - i) in
      subst₂ (λ (z d : ℕ). IsReached v ys (length ys) p z d) (sym change.3) (sym value)
      (reached-behind (op t i) u c cause (e - i) (p.index - i) p (omega arith) here))
      (range.each p s)

module _ (h : MemoryHistory) (o : OpId) (v : Counts) where
  module _ (xs ys : List Raise) where
    -- a raise stays right when more is raised
    cause-more : (n : ℕ) (e : Raise) (cause : Cause) → IsRightCause h o v xs n e cause → IsRightCause h o v (xs ++ ys) n e cause
    cause-more n e (Through m) right = (
      ⊎_elim
          (λ (reached : IsReached v xs n e.op m.session (m.index + 1)).
          inl (reached-more v xs ys n n e.op m.session (m.index + 1) (m.index + 1) (omega arith) (omega arith) reached))
          (λ (before : Precedes m e.op). inr before)
          right.0,
      reached-more v xs ys n n m e.session e.count e.count (omega arith) (omega arith) right.1,
    )
    cause-more n e (Read r) right = (right.0, right.1, right.2, reached-more v xs ys n n r e.session e.count e.count (omega arith) (omega arith) right.3)

    right-more : (n : ℕ) (e : Raise) → IsRightRaise h o v xs n e → IsRightRaise h o v (xs ++ ys) n e
    right-more n e right = record {
      is_op = right.is_op;
      past = right.past;
      exists = right.exists;
      some = right.some;
      held = right.held;
      named = right.named;
      cause = cause-more n e e.cause right.cause;
    }

  -- one right raise more
  right-push : (xs : List Raise) (e : Raise) → AreRightRaises h o v xs → IsRightRaise h o v xs (length xs) e → AreRightRaises h o v (xs ++ e ∷ [])
  right-push xs e right last = record {
    each = λ n f at.
        let within = slice_get_within (xs ++ e ∷ []) n f at in
        let size = length-append xs (e ∷ []) in
        ⊎_elim
        (λ (below : n < length xs). right-more xs (e ∷ []) n f (right.each n f (push-at xs e n f below at)))
        (λ (above : length xs ≤ n).
        let here : n ≡ length xs = omega arith in
        let same : e ≡ f = push-last xs e f (subst (λ (k : ℕ). slice_get (xs ++ e ∷ []) k ≡ Some f) here at) in
        subst₂ (λ (k : ℕ) (g : Raise). IsRightRaise h o v (xs ++ e ∷ []) k g) (sym here) same (right-more xs (e ∷ []) (length xs) e last))
        (cases_lt n (length xs));
  }

  module _ (xs : List Raise) (right : AreRightRaises h o v xs) (b : OpId) (u c : ℕ) (cause : Cause)
      (first : IsRightRaise h o v xs (length xs) (record { op = b; session = u; count = c; cause = cause })) where
    -- where a first raise is right, so are those behind it in its session
    raise-right : (n : ℕ) → IsOp h (op b.session (b.index + n)) → IsPast h o (op b.session (b.index + n))
        → IsRightRaise h o v (xs ++ raises_from b u c cause n) (length (xs ++ raises_from b u c cause n)) (raise_behind b u c cause n)
    raise-right zero is_op past =
        let here : b ≡ op b.session (b.index + zero) = same_op b (op b.session (b.index + zero)) refl (omega arith) in
        subst₂ (λ (es : List Raise) (p : OpId). IsRightRaise h o v es (length es) (record { op = p; session = u; count = c; cause = cause }))
        (sym (append-nil xs)) here first
    raise-right (suc n) is_op past = record {
      is_op = is_op;
      past = past;
      exists = first.exists;
      some = first.some;
      held = first.held;
      named = first.is_op;
      cause = (
        inr (refl, omega arith),
        reached-behind v xs b u c cause (suc n) 0 b (omega arith) (same_op b (op b.session (b.index + 0)) refl (omega arith)),
      );
    }

    pub raises-right : (n : ℕ) → ((j : ℕ) → j < n → IsOp h (op b.session (b.index + j)) × IsPast h o (op b.session (b.index + j)))
        → AreRightRaises h o v (xs ++ raises_from b u c cause n)
    raises-right zero inside = subst (λ (es : List Raise). AreRightRaises h o v es) (sym (append-nil xs)) right
    raises-right (suc n) inside =
        let last = inside n (omega arith) in
        subst (λ (es : List Raise). AreRightRaises h o v es) (append_assoc xs (raises_from b u c cause n) (raise_behind b u c cause n ∷ []))
        (right-push (xs ++ raises_from b u c cause n) (raise_behind b u c cause n) (raises-right n (λ j below. inside j (omega arith)))
        (raise-right n last.0 last.1))

-- what is right for an operation is right for a later one of its session
module _ (h : MemoryHistory) (o p : OpId) (v : Counts) (xs : List Raise) (is_op : IsOp h o) (before : IsTrue (program_past o p)) where
  cause-later : (n : ℕ) (e : Raise) (cause : Cause) → IsRightCause h p v xs n e cause → IsRightCause h o v xs n e cause
  cause-later n e (Through m) right = right
  cause-later n e (Read r) right = (program_past-earlier o p r before right.0, right.1, right.2, right.3)

  pub right-later : AreRightRaises h p v xs → AreRightRaises h o v xs
  right-later right = record {
    each = λ n e at.
        let one = right.each n e at in
        record {
          is_op = one.is_op;
          past = past-past h o p e.op (past-program h o p is_op before) one.past;
          exists = one.exists;
          some = one.some;
          held = one.held;
          named = one.named;
          cause = cause-later n e e.cause one.cause;
        };
  }
