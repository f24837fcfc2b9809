-- A list of what is before an operation and of more, cut to the operation's past, is a linearization of that past.
use Rattle.std.proofs.Common.{◌≡◌, ℕ, ◌<◌, ◌≤◌, List, ⊎_elim, arith, ap, ap₂, sym, ◌∙◌, subst, lt-ltb, eqb-true, length, lt_of_not-le, eq-or-lt_of_le}
use Rattle.std.specs.Prelude.{IsTrue, filter, slice_get, ◌==◌}
use Rattle.std.proofs.lemmas.Bool.{and_parts, or_cases}
use Rattle.std.proofs.lemmas.Option.{same_Some}
use Rattle.model_history.specs.declared.op_id.OpId.{OpId}
use Rattle.model_history.specs.History.{HistoryValue, IsOp, session}
use Rattle.order_causal.specs.Orders.{Ops, Order, only, past, StandsAt, IsLinearization}
use Rattle.cert_check.specs.Criteria.{every, IsCausalOrder}
use Rattle.cert_check.proofs.FilteredLaws.{filter_keeps, filter_from, filter_in_order}

pub only-same : (o a : OpId) → IsTrue (only o a) → a ≡ o
only-same o a t =
    let parts = and_parts (a.session == o.session) (a.index == o.index) t in
    let same_session : a.session ≡ o.session = eqb-true a.session o.session parts.0 in
    let same_index : a.index ≡ o.index = eqb-true a.index o.index parts.1 in
    let named : ℕ → ℕ → OpId = λ s i. record { session = s; index = i } in
    ap₂ named same_session same_index

equal_unless_apart : (j k : ℕ) → (j < k → ⊥) → (k < j → ⊥) → j ≡ k
equal_unless_apart j k not_below not_above = omega arith

module _ {S C R : Type 0} (h : HistoryValue S C R) (co : Order) (causal : IsCausalOrder h co) where
  pub past_of_history : (o a : OpId) → IsOp h o → IsTrue (past co o a) → IsTrue (every h a)
  past_of_history o a is_op inside =
      ⊎_elim
      (λ (alone : IsTrue (only o a)). let same = only-same o a alone in subst (λ (x : OpId). IsTrue (every h x)) (sym same) (lt-ltb o.index (length (session h o.session)) is_op))
      (λ (before : IsTrue (co a o)). lt-ltb a.index (length (session h a.session)) (causal.of_history a o before).0)
      (or_cases (only o a) (co a o) inside)

  -- a linearization of a set that has the past of an operation, cut to this past, is a linearization of it
  module _ (set : Ops) (ops : List OpId) (whole : IsLinearization set co ops) (o : OpId)
      (inside : (a : OpId) → IsTrue (past co o a) → IsTrue (set a)) where
    twice : (j k : ℕ) (a : OpId) → StandsAt (filter (past co o) ops) j a → StandsAt (filter (past co o) ops) k a → j < k → ⊥
    twice j k a first second below =
        let r = filter_in_order (past co o) ops j k a a below first second in
        let same : r.0 ≡ r.1 = whole.once r.0 r.1 a r.3 r.4 in
        omega arith

    not_after : (j k : ℕ) (a b : OpId) → StandsAt (filter (past co o) ops) j a → StandsAt (filter (past co o) ops) k b
        → IsTrue (co a b) → k ≤ j → ⊥
    not_after j k a b at_j at_k before above =
        ⊎_elim
        (λ (same : k ≡ j). let one : a ≡ b = same_Some a b (sym at_j ∙ ap (slice_get (filter (past co o) ops)) (sym same) ∙ at_k) in
        causal.irreflexive b (subst (λ (x : OpId). IsTrue (co x b)) one before))
        (λ (below : k < j). let r = filter_in_order (past co o) ops k j b a below at_k at_j in
        let other : r.1 < r.0 = whole.ordered r.1 r.0 a b r.4 r.3 before in
        omega arith)
        (eq-or-lt_of_le above)

    pub cut_to_past : IsLinearization (past co o) co (filter (past co o) ops)
    cut_to_past = record {
      each = λ a among. let place = whole.each a (inside a among) in filter_keeps (past co o) ops place.0 a place.1 among;
      no_other = λ k a stands. (filter_from (past co o) ops k a stands).2;
      once = λ j k a first second. equal_unless_apart j k (twice j k a first second) (twice k j a second first);
      ordered = λ j k a b at_j at_k before. lt_of_not-le (not_after j k a b at_j at_k before);
    }

  -- so is a linearization of the history, cut to it
  pub cut_is_linearization : (arb : List OpId) → IsLinearization (every h) co arb → (o : OpId) → IsOp h o
      → IsLinearization (past co o) co (filter (past co o) arb)
  cut_is_linearization arb whole o is_op = cut_to_past (every h) arb whole o (λ a. past_of_history o a is_op)
