-- A session that reads only from lone writes has an order of what is before its last operation.
use Rattle.std.specs.Prelude.{◌≡◌, ◌⊎◌, ℕ, ◌+◌, ◌<◌, ◌≤◌, false, List, [], ◌∷◌, length, Some, slice_index_or}
use Rattle.std.proofs.Common.{zero, suc, arith, refl, sym, ap, subst, inl, inr, ⊎_elim, ◌∙◌}
use Rattle.std.proofs.lemmas.Bool.{cases_lt}
use Rattle.std.proofs.lemmas.Option.{same_Some, slice_get-get_or, slice_get_within}
use Rattle.model_history.specs.declared.op_id.OpId.{OpId}
use Rattle.model_history.specs.History.{IsOp, number}
use Rattle.order_causal.specs.Orders.{op, StandsAt}
use Rattle.order_causal.proofs.Searches.{IsDecided}
use Rattle.order_memory.specs.Memory.{MemoryHistory, IsDifferentiated}
use Rattle.order_memory.specs.Relations.{CO, IsPast}
use Rattle.order_memory.specs.SourceOrder.{LacksSource}
use Rattle.order_memory.proofs.HappenedBeforeLaws.{past-of_history, program_past-parts}
use Rattle.order_memory.proofs.VectorsExist.{vectors-exist}
use Rattle.judge_memory.specs.Steps.{IsAfter, IsListedEdge, IsOrderBy, StandsAs}
use Rattle.judge_memory.proofs.Numbers.{number-once}
use Rattle.judge_memory.proofs.Steps.{steps-from_causal, steps-with}
use Rattle.judge_memory.proofs.Orders.{leads-before, listed-of_history, order_by-straight}
use Rattle.judge_session_orders.specs.LoneSources.{HasLoneSources}
use Rattle.judge_session_orders.specs.SessionOrders.{IsOrderedSession}
use Rattle.judge_session_orders.specs.SessionStates.{IsSessionState}
use Rattle.judge_session_orders.proofs.HappenedBeforeDecided.{past-decided}
use Rattle.judge_session_orders.proofs.SessionSteps.{state-ended_explained}

-- ops has what of the past of o stands at the place m of the order or after it, in that order
record IsListedFrom (h : MemoryHistory) (o : OpId) (order : List ℕ) (m : ℕ) (ops : List OpId) : Type 0 where
  each : (a : OpId) → IsPast h o a → IsAfter h order m a → (k : ℕ) × StandsAt ops k a
  no_other : (k : ℕ) (a : OpId) → StandsAt ops k a → IsPast h o a × IsAfter h order m a
  once : (j k : ℕ) (a : OpId) → StandsAt ops j a → StandsAt ops k a → j ≡ k
  ordered : (j k : ℕ) (a b : OpId) → StandsAt ops j a → StandsAt ops k b → CO h a b → j < k

module _ (h : MemoryHistory) (order : List ℕ) (ordered : IsOrderBy h [] order) (o : OpId) (is_op : IsOp h o) where
  module _ (m : ℕ) (c : OpId) (is_c : IsOp h c) (at : StandsAs h order m c) where
    after-cases : (b : OpId) → IsOp h b → IsAfter h order m b → IsAfter h order (m + 1) b ⊎ (b ≡ c)
    after-cases b is_b (k, from, at_k) = ⊎_elim
        (λ (more : m < k). inl (k, omega arith, at_k))
        (λ (up_to : k ≤ m).
        let here : k ≡ m = omega arith in
        inr (number-once h b c is_b is_c (same_Some _ _ (sym (subst (λ (j : ℕ). StandsAs h order j b) here at_k) ∙ at))))
        (cases_lt m k)

    wider : (b : OpId) → IsAfter h order (m + 1) b → IsAfter h order m b
    wider b (k, from, at_k) = (k, omega arith, at_k)

    -- c stands only here, and what is after here is not before c
    apart : ¬ IsAfter h order (m + 1) c
    apart (k, from, at_k) = let same = ordered.once k m (number h c) at_k at in omega arith

    not_before : (a : OpId) → IsAfter h order (m + 1) a → ¬ CO h a c
    not_before a (k, from, at_k) leads =
        let first = leads-before h (IsListedEdge h []) (listed-of_history h []) order ordered a c
        (steps-with h (IsListedEdge h []) a c (steps-from_causal h a c leads)) m at in
        let same = ordered.once k first.0 (number h a) at_k first.2 in
        let below = first.1 in
        omega arith

    module _ (ops : List OpId) (now : IsListedFrom h o order (m + 1) ops) where
      -- an operation of the past more
      module _ (in_past : IsPast h o c) where
        each-more : (a : OpId) → IsPast h o a → IsAfter h order m a → (k : ℕ) × StandsAt (c ∷ ops) k a
        each-more a past after = ⊎_elim
            (λ (more : IsAfter h order (m + 1) a). let old = now.each a past more in (suc old.0, old.1))
            (λ (same : a ≡ c). (0, ap (λ (b : OpId). Some b) (sym same)))
            (after-cases a (past-of_history h o a is_op past) after)

        other-more : (k : ℕ) (a : OpId) → StandsAt (c ∷ ops) k a → IsPast h o a × IsAfter h order m a
        other-more zero a at_k =
            let same = same_Some _ _ at_k in
            (subst (IsPast h o) same in_past, subst (IsAfter h order m) same (m, omega arith, at))
        other-more (suc k) a at_k = let old = now.no_other k a at_k in (old.0, wider a old.1)

        once-more : (j k : ℕ) (a : OpId) → StandsAt (c ∷ ops) j a → StandsAt (c ∷ ops) k a → j ≡ k
        once-more zero zero a first second = refl
        once-more zero (suc k) a first second =
            absurd (apart (subst (IsAfter h order (m + 1)) (sym (same_Some _ _ first)) (now.no_other k a second).1))
        once-more (suc j) zero a first second =
            absurd (apart (subst (IsAfter h order (m + 1)) (sym (same_Some _ _ second)) (now.no_other j a first).1))
        once-more (suc j) (suc k) a first second = ap suc (now.once j k a first second)

        ordered-more : (j k : ℕ) (a b : OpId) → StandsAt (c ∷ ops) j a → StandsAt (c ∷ ops) k b → CO h a b → j < k
        ordered-more zero zero a b first second leads =
            absurd (order_by-straight h [] order ordered (a, subst (CO h a) (sym (same_Some _ _ second) ∙ same_Some _ _ first) leads))
        ordered-more zero (suc k) a b first second leads = omega arith
        ordered-more (suc j) zero a b first second leads =
            absurd (not_before a (now.no_other j a first).1 (subst (CO h a) (sym (same_Some _ _ second)) leads))
        ordered-more (suc j) (suc k) a b first second leads = let below = now.ordered j k a b first second leads in omega arith

        listed-more : IsListedFrom h o order m (c ∷ ops)
        listed-more = record { each = each-more; no_other = other-more; once = once-more; ordered = ordered-more }

      listed-same : ¬ IsPast h o c → IsListedFrom h o order m ops
      listed-same other = record {
        each = λ a past after. ⊎_elim
            (λ (more : IsAfter h order (m + 1) a). now.each a past more)
            (λ (same : a ≡ c). absurd (other (subst (IsPast h o) same past)))
            (after-cases a (past-of_history h o a is_op past) after);
        no_other = λ k a at_k. let old = now.no_other k a at_k in (old.0, wider a old.1);
        once = now.once;
        ordered = now.ordered;
      }

  module _ (decided : (a : OpId) → IsDecided (IsPast h o a)) where
    listed-from : (n m : ℕ) → m + n ≡ length order → (ops : List OpId) × IsListedFrom h o order m ops
    listed-from zero m whole = (
      [],
      record {
        each = λ a past after.
            let inside = slice_get_within order after.0 (number h a) after.2 in let from = after.1 in absurd (omega arith);
        no_other = λ k a at. let inside = slice_get_within {A = OpId} [] k a at in absurd (omega arith);
        once = λ j k a at. let inside = slice_get_within {A = OpId} [] j a at in absurd (omega arith);
        ordered = λ j k a b at. let inside = slice_get_within {A = OpId} [] j a at in absurd (omega arith);
      },
    )
    listed-from (suc n) m whole =
        let rest = listed-from n (m + 1) (omega arith) in
        let inside : m < length order = omega arith in
        let place = slice_get-get_or order m 0 inside in
        let c = ordered.no_other m (slice_index_or order m 0) place in
        let at : StandsAs h order m c.0 = place ∙ ap (λ (i : ℕ). Some i) (sym c.2) in
        ⊎_elim
        (λ (past : IsPast h o c.0). (c.0 ∷ rest.0, listed-more m c.0 c.1 at rest.0 rest.1 past))
        (λ (other : ¬ IsPast h o c.0). (rest.0, listed-same m c.0 c.1 at rest.0 rest.1 other))
        (decided c.0)

  module _ (lone : HasLoneSources h o.session) (ops : List OpId) (listed : IsListedFrom h o order 0 ops) where
    abbrev nothing : ℕ → ℕ
    nothing t = 0

    after-first : (a : OpId) → IsOp h a → IsAfter h order 0 a
    after-first a is_a = let place = ordered.each a is_a in (place.0, omega arith, place.1)

    listed-state : IsSessionState h o nothing ops false
    listed-state = record {
      backward = record {
        within = λ a left. absurd (omega arith);
        before = λ acyclic a w r left. absurd (omega arith);
      };
      order = record {
        each = λ a past placed. listed.each a past (after-first a (past-of_history h o a is_op past));
        no_other = λ k a at. ((listed.no_other k a at).0, λ left. omega arith);
        once = listed.once;
        ordered = listed.ordered;
        causes = λ a b leads left. absurd (omega arith);
        read = λ i k a w r at_a at_r below own found rivals.
            let in_past = (listed.no_other k r at_r).0 in
            absurd ((lone r (past-of_history h o r is_op in_past) (program_past-parts o r own).0).lone w a found rivals);
      };
      kept = λ start. record {
        placed = λ k r b x v at own reads.
            let in_past = (listed.no_other k r at).0 in
            absurd ((lone r (past-of_history h o r is_op in_past) (program_past-parts o r own).0).unsourced x reads);
        after = λ i k r b x v at own reads.
            let in_past = (listed.no_other k r at).0 in
            absurd ((lone r (past-of_history h o r is_op in_past) (program_past-parts o r own).0).unsourced x reads);
      };
      found = λ bad. absurd cc;
    }

pub lone-ordered : (h : MemoryHistory) → IsDifferentiated h → ¬ LacksSource h → (order : List ℕ) → IsOrderBy h [] order → (t : ℕ)
    → HasLoneSources h t → IsOrderedSession h t
lone-ordered h distinct sources order ordered t lone i size =
    let o : OpId = op t i in
    let is_op : IsOp h o = omega arith in
    let vectors = vectors-exist h (order_by-straight h [] order ordered) sources in
    let list = listed-from h order ordered o is_op (past-decided h vectors.0 vectors.1 distinct o is_op) (length order) 0 (omega arith) in
    (list.0, state-ended_explained h o (λ t. 0) list.0 (λ t is_open. omega arith) sources is_op (listed-state h order ordered o is_op lone list.0 list.1))
