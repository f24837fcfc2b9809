-- The list of what is placed, with one operation more in front.
use Rattle.std.specs.Prelude.{◌≡◌, ℕ, ◌<◌, ◌≤◌, IsTrue, List, ◌∷◌, Some}
use Rattle.std.proofs.Common.{zero, suc, arith, refl, sym, ap, subst, inl, inr, ⊎_elim, ◌∙◌}
use Rattle.std.proofs.lemmas.Bool.{cases_lt}
use Rattle.std.proofs.lemmas.Option.{same_Some}
use Rattle.model_history.specs.declared.op_id.OpId.{OpId}
use Rattle.model_history.specs.History.{IsOp, Precedes}
use Rattle.order_causal.specs.Orders.{program_past, StandsAt}
use Rattle.order_causal.proofs.PathsLaws.{leads-edge, leads-back}
use Rattle.order_memory.specs.Memory.{MemoryHistory}
use Rattle.order_memory.specs.Relations.{ReadsFrom, IsEdge, CO, AreRivalWrites, IsPast}
use Rattle.order_memory.specs.SourceOrder.{IsCyclic}
use Rattle.order_memory.proofs.HappenedBeforeLaws.{past-before, past-program}
use Rattle.judge_session_orders.specs.Backward.{IsLeft, last_left, IsBlocked, IsBackward, IsPlacing}
use Rattle.judge_session_orders.specs.BackwardOrder.{IsBackwardOrder}
use Rattle.judge_session_orders.proofs.Placing.{still-left, just-placed}

module _ (h : MemoryHistory) (straight : ¬ IsCyclic h) (o : OpId) (is_op : IsOp h o) (t : ℕ) (left after : ℕ → ℕ)
    (placing : IsPlacing t left after)
    (now : IsBackward h o left) (free : ¬ IsBlocked h o left t) (ops : List OpId) (order : IsBackwardOrder h o left ops) where
  abbrev p : OpId
  p = last_left left t

  abbrev more : List OpId
  more = p ∷ ops

  p-left : IsLeft left p
  p-left = let one = placing.placed in omega arith

  p-placed : ¬ IsLeft after p
  p-placed = let one = placing.placed in λ is_left. omega arith

  p-past : IsPast h o p
  p-past = now.within p p-left

  -- each placed operation is the new one, or has its place in the old list
  place-now : (a : OpId) → IsPast h o a → ¬ IsLeft after a → (k : ℕ) × StandsAt more k a
  place-now a in_past placed = ⊎_elim
      (λ (is_left : a.index < left a.session).
      (0, ap (λ (b : OpId). Some b) (sym (just-placed t left after placing a is_left placed))))
      (λ (above : left a.session ≤ a.index). let old = order.each a in_past (λ below. omega arith) in (suc old.0, old.1))
      (cases_lt a.index (left a.session))

  placed-now : (k : ℕ) (a : OpId) → StandsAt more k a → IsPast h o a × ¬ IsLeft after a
  placed-now zero a at =
      let same = same_Some _ _ at in
      (subst (IsPast h o) same p-past, subst (λ (b : OpId). ¬ IsLeft after b) same p-placed)
  placed-now (suc k) a at =
      let old = order.no_other k a at in (old.0, λ is_left. old.1 (still-left t left after placing a is_left).0)

  once-now : (j k : ℕ) (a : OpId) → StandsAt more j a → StandsAt more k a → j ≡ k
  once-now zero zero a first second = refl
  once-now zero (suc k) a first second = absurd ((order.no_other k a second).1 (subst (IsLeft left) (same_Some _ _ first) p-left))
  once-now (suc j) zero a first second = absurd ((order.no_other j a first).1 (subst (IsLeft left) (same_Some _ _ second) p-left))
  once-now (suc j) (suc k) a first second = ap suc (order.once j k a first second)

  ordered-now : (j k : ℕ) (a b : OpId) → StandsAt more j a → StandsAt more k b → CO h a b → j < k
  ordered-now zero zero a b first second before =
      absurd (straight (a, subst (CO h a) (sym (same_Some _ _ second) ∙ same_Some _ _ first) before))
  ordered-now zero (suc k) a b first second before = omega arith
  ordered-now (suc j) zero a b first second before =
      absurd ((order.no_other j a first).1 (order.causes a b before (subst (IsLeft left) (same_Some _ _ second) p-left)))
  ordered-now (suc j) (suc k) a b first second before = let below = order.ordered j k a b first second before in omega arith

  edge-left : (a b : OpId) → IsEdge h a b → IsLeft after b → IsLeft after a
  edge-left a b edge is_left =
      let was_left = order.causes a b (leads-edge (IsEdge h) a b edge) (still-left t left after placing b is_left).0 in
      ⊎_elim
      (λ (below : a.index < after a.session). below)
      (λ (above : after a.session ≤ a.index).
      let here = just-placed t left after placing a was_left (λ below. omega arith) in
      ⊎_elim
      (λ (program : Precedes a b × IsOp h b).
      let below : b.index < after a.session = subst (λ (s : ℕ). b.index < after s) (sym program.0.0) is_left in
      let next = program.0.1 in
      omega arith)
      (λ (from : ReadsFrom h a b).
      absurd (free (inl (b, (still-left t left after placing b is_left).0, subst (λ (c : OpId). ReadsFrom h c b) here from))))
      edge)
      (cases_lt a.index (after a.session))

  source-behind : (w r : OpId) (k : ℕ) → StandsAt ops k r → IsTrue (program_past o r) → ReadsFrom h w r → AreRivalWrites h p w
      → (j : ℕ) × (0 < j) × StandsAt more j w
  source-behind w r k at kept from rivals = ⊎_elim
      (λ (is_left : w.index < left w.session).
      absurd (free (inr (inl (w, (is_left, (r, (kept, (order.no_other k r at).1), from)), rivals)))))
      (λ (above : left w.session ≤ w.index).
      let in_past = past-before h o w r (leads-edge (IsEdge h) w r (inr from)) (past-program h o r is_op kept) in
      let old = order.each w in_past (λ below. omega arith) in
      (suc old.0, omega arith, old.1))
      (cases_lt w.index (left w.session))

  read-now : (i k : ℕ) (a w r : OpId) → StandsAt more i a → StandsAt more k r → i < k → IsTrue (program_past o r) → ReadsFrom h w r
      → AreRivalWrites h a w → (j : ℕ) × (i < j) × StandsAt more j w
  read-now i zero a w r first second below kept from rivals = absurd (omega arith)
  read-now zero (suc k) a w r first second below kept from rivals =
      source-behind w r k second kept from (subst (λ (b : OpId). AreRivalWrites h b w) (sym (same_Some _ _ first)) rivals)
  read-now (suc i) (suc k) a w r first second below kept from rivals =
      let old = order.read i k a w r first second (omega arith) kept from rivals in
      let later = old.1 in
      (suc old.0, omega arith, old.2)

  pub placed-order : IsBackwardOrder h o after more
  placed-order = record {
    each = place-now;
    no_other = placed-now;
    once = once-now;
    ordered = ordered-now;
    causes = leads-back (IsEdge h) (IsLeft after) edge-left;
    read = read-now;
  }
