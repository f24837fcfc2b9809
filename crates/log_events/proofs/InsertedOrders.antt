-- A causal order of a history with an operation more, and linearizations of it.
use Rattle.std.proofs.Common.{◌≡◌, ℕ, ◌+◌, ◌<◌, ◌≤◌, false, List, length, refl, ap, sym, subst, ◌∙◌, inl, inr, ⊎_elim, arith, lt_of_not-le}
use Rattle.std.specs.Prelude.{◌⊎◌, ◌&&◌, if◌then◌else◌, IsTrue, Option, Some, None}
use Rattle.std.proofs.lemmas.Bool.{and_from, and_parts, or_cases, or_left, or_right, cases_lt, false_from_ne_true}
use Rattle.std.proofs.lemmas.Option.{same_Some}
use Rattle.model_history.specs.declared.op_id.OpId.{OpId}
use Rattle.model_history.specs.History.{IsOp, Precedes, session}
use Rattle.order_causal.specs.Orders.{Ops, Order, only, past, op, StandsAt, IsLinearization}
use Rattle.order_causal.proofs.OrdersLaws.{same_op}
use Rattle.order_memory.specs.Memory.{MemoryHistory}
use Rattle.cert_check.specs.Criteria.{every, IsCausalOrder}
use Rattle.cert_check.proofs.ConvergentLaws.{only-same}
use Rattle.cert_check.proofs.Pasts.{only-itself, every-op, op-every}
use Rattle.cert_subhistories.proofs.KeptLists.{passing_before, passing_before-le}
use Rattle.log_events.specs.Histories.{Operation}
use Rattle.log_events.specs.Insertions.{IsInserted}
use Rattle.log_events.proofs.InsertedOperations.{new_place, old_place, is_other, is_other-new_place, each-place, new_place-cases, new_place-apart, new_place-order_back, old_place-new_place, new_place-op, old_place-op, inserted-op}
use Rattle.log_events.proofs.InsertedPlaces.{with_inserted, cut-with_inserted, inserted-next, inserted-found, cut-stands, cut-place, passing_before-lt}

-- what comes before the new operation: an operation of the history and its past, or nothing; it has all that is before s.i in its session
pub record IsSourceOfInserted (h : MemoryHistory) (s i : ℕ) (from : Option OpId) : Type 0 where
  pub is_op : (q : OpId) → from ≡ Some q → IsOp h q
  pub covers : (a : OpId) → IsOp h a → a.session ≡ s → a.index < i → (q : OpId) × (from ≡ Some q) × ((a ≡ q) ⊎ Precedes a q)
  pub ahead : (q : OpId) → from ≡ Some q → IsOp h (op s i) → Precedes q (op s i)

-- the operations that come before it, by a causal order of the history
abbrev pub is_before : Order → Option OpId → Ops
is_before co None a = false
is_before co (Some q) a = past co q a

module _ (co : Order) where
  pub past-parts : (o a : OpId) → IsTrue (past co o a) → (a ≡ o) ⊎ IsTrue (co a o)
  past-parts o a inside = ⊎_elim
      (λ (alone : IsTrue (only o a)). inl (only-same o a alone))
      (λ (before : IsTrue (co a o)). inr before)
      (or_cases (only o a) (co a o) inside)

  pub past-from : (o a : OpId) → (a ≡ o) ⊎ IsTrue (co a o) → IsTrue (past co o a)
  past-from o a (inl same) = or_left (only o a) (co a o) (subst (λ (b : OpId). IsTrue (only o b)) (sym same) (only-itself o))
  past-from o a (inr before) = or_right (only o a) (co a o) before

  pub is_before-parts : (from : Option OpId) (a : OpId) → IsTrue (is_before co from a) → (q : OpId) × (from ≡ Some q) × IsTrue (past co q a)
  is_before-parts None a inside = absurd cc
  is_before-parts (Some q) a inside = (q, refl, inside)

  pub is_before-from : (from : Option OpId) (q a : OpId) → from ≡ Some q → IsTrue (past co q a) → IsTrue (is_before co from a)
  is_before-from from q a is inside = subst (λ (o : Option OpId). IsTrue (is_before co o a)) (sym is) inside

module _ (h : MemoryHistory) (s i : ℕ) (from : Option OpId) (co : Order) where
  -- those that come after it: the operation that was s.i and what comes after that
  abbrev pub is_after : Ops
  is_after b = every h (op s i) && past co b (op s i)

  -- the order of the longer history
  abbrev pub whole_order : Order
  whole_order a b =
      if only (op s i) a then (if only (op s i) b then false else is_after (old_place s i b))
      else (if only (op s i) b then is_before co from (old_place s i a) else co (old_place s i a) (old_place s i b))

  new-only : (a : OpId) → only (op s i) (new_place s i a) ≡ false
  new-only a = false_from_ne_true (only (op s i) (new_place s i a)) (λ same. new_place-apart s i a (only-same (op s i) (new_place s i a) same))

  pub order-new_new : whole_order (op s i) (op s i) ≡ false
  order-new_new = rw (only-itself (op s i)) refl

  pub order-new_old : (b : OpId) → whole_order (op s i) (new_place s i b) ≡ is_after b
  order-new_old b = rw (only-itself (op s i), new-only b) (ap is_after (old_place-new_place s i b))

  pub order-old_new : (a : OpId) → whole_order (new_place s i a) (op s i) ≡ is_before co from a
  order-old_new a = rw (only-itself (op s i), new-only a) (ap (is_before co from) (old_place-new_place s i a))

  pub order-old_old : (a b : OpId) → whole_order (new_place s i a) (new_place s i b) ≡ co a b
  order-old_old a b = rw (new-only a, new-only b) (λ j. co (old_place-new_place s i a j) (old_place-new_place s i b j))

module _ (h whole : MemoryHistory) (s i : ℕ) (e : Operation) (more : IsInserted h whole s i e) (from : Option OpId) (source : IsSourceOfInserted h s i from)
    (co : Order) (causal : IsCausalOrder h co) where
  abbrev pub order : Order
  order = whole_order h s i from co

  abbrev UpTo : OpId → OpId → Type 0
  UpTo a b = (a ≡ b) ⊎ IsTrue (co a b)

  up_to-before : (a b c : OpId) → UpTo a b → IsTrue (co b c) → IsTrue (co a c)
  up_to-before a b c (inl same) before = subst (λ (d : OpId). IsTrue (co d c)) (sym same) before
  up_to-before a b c (inr first) before = causal.transitive a b c first before

  before-up_to : (a b c : OpId) → IsTrue (co a b) → UpTo b c → IsTrue (co a c)
  before-up_to a b c before (inl same) = subst (λ (d : OpId). IsTrue (co a d)) same before
  before-up_to a b c before (inr next) = causal.transitive a b c before next

  -- what comes before the new one comes before the operation that was s.i
  pub is_before-old : (a : OpId) → IsTrue (is_before co from a) → IsOp h (op s i) → IsTrue (co a (op s i))
  is_before-old a inside is_op =
      let (q, is, below) = is_before-parts co from a inside in
      up_to-before a q (op s i) (past-parts co q a below) (causal.program_order q (op s i) is_op (source.ahead q is is_op))

  pub is_after-parts : (b : OpId) → IsTrue (is_after h s i from co b) → IsOp h (op s i) × UpTo (op s i) b
  is_after-parts b inside =
      let both = and_parts (every h (op s i)) (past co b (op s i)) inside in (every-op h (op s i) both.0, past-parts co b (op s i) both.1)

  pub is_after-from : (b : OpId) → IsOp h (op s i) → UpTo (op s i) b → IsTrue (is_after h s i from co b)
  is_after-from b is_op up_to = and_from (every h (op s i)) (past co b (op s i)) (op-every h (op s i) is_op) (past-from co b (op s i) up_to)

  -- the order of the new operation and the others
  pub new_old-to : (b : OpId) → IsTrue (is_after h s i from co b) → IsTrue (order (op s i) (new_place s i b))
  new_old-to b holds = order-new_old h s i from co b ∙ holds

  pub new_old-from : (b : OpId) → IsTrue (order (op s i) (new_place s i b)) → IsTrue (is_after h s i from co b)
  new_old-from b holds = sym (order-new_old h s i from co b) ∙ holds

  pub old_new-to : (a : OpId) → IsTrue (is_before co from a) → IsTrue (order (new_place s i a) (op s i))
  old_new-to a holds = order-old_new h s i from co a ∙ holds

  pub old_new-from : (a : OpId) → IsTrue (order (new_place s i a) (op s i)) → IsTrue (is_before co from a)
  old_new-from a holds = sym (order-old_new h s i from co a) ∙ holds

  pub old_old-to : (a b : OpId) → IsTrue (co a b) → IsTrue (order (new_place s i a) (new_place s i b))
  old_old-to a b holds = order-old_old h s i from co a b ∙ holds

  pub old_old-from : (a b : OpId) → IsTrue (order (new_place s i a) (new_place s i b)) → IsTrue (co a b)
  old_old-from a b holds = sym (order-old_old h s i from co a b) ∙ holds

  pub new_new-none : ¬ IsTrue (order (op s i) (op s i))
  new_new-none holds = let none = order-new_new h s i from co in absurd cc

  pub is_before-op : (a : OpId) → IsTrue (is_before co from a) → IsOp h a
  is_before-op a inside =
      let (q, is, below) = is_before-parts co from a inside in
      ⊎_elim
      (λ (same : a ≡ q). subst (λ (b : OpId). IsOp h b) (sym same) (source.is_op q is))
      (λ (before : IsTrue (co a q)). (causal.of_history a q before).0)
      (past-parts co q a below)

  is_after-op : (b : OpId) → IsTrue (is_after h s i from co b) → IsOp h b
  is_after-op b inside =
      let (is_op, up_to) = is_after-parts b inside in
      ⊎_elim
      (λ (same : op s i ≡ b). subst (λ (c : OpId). IsOp h c) same is_op)
      (λ (before : IsTrue (co (op s i) b)). (causal.of_history (op s i) b before).1)
      up_to

  pub order-of_history : (a b : OpId) → IsTrue (order a b) → IsOp whole a × IsOp whole b
  order-of_history = each-place s i (λ (a : OpId). (b : OpId) → IsTrue (order a b) → IsOp whole a × IsOp whole b)
      (each-place s i (λ (b : OpId). IsTrue (order (op s i) b) → IsOp whole (op s i) × IsOp whole b)
      (λ holds. absurd (new_new-none holds))
      (λ b holds. (inserted-op h whole s i e more, new_place-op h whole s i e more b (is_after-op b (new_old-from b holds)))))
      (λ a. each-place s i (λ (b : OpId). IsTrue (order (new_place s i a) b) → IsOp whole (new_place s i a) × IsOp whole b)
      (λ holds. (new_place-op h whole s i e more a (is_before-op a (old_new-from a holds)), inserted-op h whole s i e more))
      (λ b holds. let both = causal.of_history a b (old_old-from a b holds) in (new_place-op h whole s i e more a both.0, new_place-op h whole s i e more b both.1)))

  pub order-transitive : (a b c : OpId) → IsTrue (order a b) → IsTrue (order b c) → IsTrue (order a c)
  order-transitive = each-place s i (λ (a : OpId). (b c : OpId) → IsTrue (order a b) → IsTrue (order b c) → IsTrue (order a c))
      (each-place s i (λ (b : OpId). (c : OpId) → IsTrue (order (op s i) b) → IsTrue (order b c) → IsTrue (order (op s i) c))
      (λ c first second. absurd (new_new-none first))
      (λ b. each-place s i (λ (c : OpId). IsTrue (order (op s i) (new_place s i b)) → IsTrue (order (new_place s i b) c) → IsTrue (order (op s i) c))
      (λ first second.
      let (is_op, up_to) = is_after-parts b (new_old-from b first) in
      absurd (causal.irreflexive (op s i) (up_to-before (op s i) b (op s i) up_to (is_before-old b (old_new-from b second) is_op))))
      (λ c first second.
      let (is_op, up_to) = is_after-parts b (new_old-from b first) in
      new_old-to c (is_after-from c is_op (inr (up_to-before (op s i) b c up_to (old_old-from b c second)))))))
      (λ a. each-place s i (λ (b : OpId). (c : OpId) → IsTrue (order (new_place s i a) b) → IsTrue (order b c) → IsTrue (order (new_place s i a) c))
      (each-place s i (λ (c : OpId). IsTrue (order (new_place s i a) (op s i)) → IsTrue (order (op s i) c) → IsTrue (order (new_place s i a) c))
      (λ first second. absurd (new_new-none second))
      (λ c first second.
      let (is_op, up_to) = is_after-parts c (new_old-from c second) in
      old_old-to a c (before-up_to a (op s i) c (is_before-old a (old_new-from a first) is_op) up_to)))
      (λ b. each-place s i (λ (c : OpId). IsTrue (order (new_place s i a) (new_place s i b)) → IsTrue (order (new_place s i b) c) → IsTrue (order (new_place s i a) c))
      (λ first second.
      let (q, is, below) = is_before-parts co from b (old_new-from b second) in
      old_new-to a (is_before-from co from q a is (past-from co q a (inr (before-up_to a b q (old_old-from a b first) (past-parts co q b below))))))
      (λ c first second. old_old-to a c (causal.transitive a b c (old_old-from a b first) (old_old-from b c second)))))

  pub order-irreflexive : (a : OpId) → ¬ IsTrue (order a a)
  order-irreflexive = each-place s i (λ (a : OpId). ¬ IsTrue (order a a)) new_new-none (λ a holds. causal.irreflexive a (old_old-from a a holds))

  pub new_place-is_op : (b : OpId) → IsOp whole (new_place s i b) → IsOp h b
  new_place-is_op b is_op = subst (λ (c : OpId). IsOp h c) (old_place-new_place s i b) (old_place-op h whole s i e more (new_place s i b) is_op (new_place-apart s i b))

  new-before : (b : OpId) → IsOp whole (new_place s i b) → Precedes (op s i) (new_place s i b) → IsTrue (is_after h s i from co b)
  new-before b is_op before =
      let here = new_place-is_op b is_op in
      ⊎_elim
      (λ (up : (b.session ≡ s) × (i ≤ b.index) × (new_place s i b ≡ op b.session (b.index + 1))).
      let high = up.1 in
      let size : b.index < length (session h s) = subst (λ (t : ℕ). b.index < length (session h t)) up.0 here in
      let there : IsOp h (op s i) = omega arith in
      ⊎_elim
      (λ (less : i < b.index). is_after-from b there (inr (causal.program_order (op s i) b here (sym up.0, less))))
      (λ (most : b.index ≤ i). is_after-from b there (inl (same_op (op s i) b (sym up.0) (omega arith))))
      (cases_lt i b.index))
      (λ (still : (b.session ≡ s → b.index < i) × (new_place s i b ≡ b)).
      let same : Precedes (op s i) b = subst (λ (d : OpId). Precedes (op s i) d) still.1 before in
      let low = still.0 (sym same.0) in let high = same.1 in absurd (omega arith))
      (new_place-cases s i b)

  before-new : (a : OpId) → Precedes (new_place s i a) (op s i) → IsTrue (is_before co from a)
  before-new a before = ⊎_elim
      (λ (up : (a.session ≡ s) × (i ≤ a.index) × (new_place s i a ≡ op a.session (a.index + 1))).
      let same : Precedes (op a.session (a.index + 1)) (op s i) = subst (λ (d : OpId). Precedes d (op s i)) up.2 before in
      let low = same.1 in let high = up.1 in absurd (omega arith))
      (λ (still : (a.session ≡ s → a.index < i) × (new_place s i a ≡ a)).
      let same : Precedes a (op s i) = subst (λ (d : OpId). Precedes d (op s i)) still.1 before in
      let low = same.1 in
      let inside = more.inside in
      let size : a.index < length (session h s) = omega arith in
      let is_op : IsOp h a = subst (λ (t : ℕ). a.index < length (session h t)) (sym same.0) size in
      let (q, is, up_to) = source.covers a is_op same.0 same.1 in
      is_before-from co from q a is (⊎_elim
      (λ (one : a ≡ q). past-from co q a (inl one))
      (λ (program : Precedes a q). past-from co q a (inr (causal.program_order a q (source.is_op q is) program)))
      up_to))
      (new_place-cases s i a)

  pub order-program_order : (a b : OpId) → IsOp whole b → Precedes a b → IsTrue (order a b)
  order-program_order = each-place s i (λ (a : OpId). (b : OpId) → IsOp whole b → Precedes a b → IsTrue (order a b))
      (each-place s i (λ (b : OpId). IsOp whole b → Precedes (op s i) b → IsTrue (order (op s i) b))
      (λ is_op before. let less = before.1 in absurd (omega arith))
      (λ b is_op before. new_old-to b (new-before b is_op before)))
      (λ a. each-place s i (λ (b : OpId). IsOp whole b → Precedes (new_place s i a) b → IsTrue (order (new_place s i a) b))
      (λ is_op before. old_new-to a (before-new a before))
      (λ b is_op before. old_old-to a b (causal.program_order a b (new_place-is_op b is_op) (new_place-order_back s i a b before))))

  pub order-causal : IsCausalOrder whole order
  order-causal = record { of_history = order-of_history; transitive = order-transitive; irreflexive = order-irreflexive; program_order = order-program_order }

  -- a linearization with the new operation in it
  module _ (set whole_set : Ops) (are_ops : (a : OpId) → IsTrue (set a) → IsOp h a)
      (old_to : (a : OpId) → IsTrue (whole_set (new_place s i a)) → IsTrue (set a)) (old_from : (a : OpId) → IsTrue (set a) → IsTrue (whole_set (new_place s i a)))
      (new_to : IsTrue (whole_set (op s i)) → IsTrue (set (op s i))) (new_from : IsTrue (set (op s i)) → IsTrue (whole_set (op s i)))
      (ops : List OpId) (linear : IsLinearization set co ops) where
    old-at : (k : ℕ) (a : OpId) → StandsAt (with_inserted s i ops) k (new_place s i a) → StandsAt ops (passing_before (is_other s i) (with_inserted s i ops) k) a
    old-at k a at = subst (λ (l : List OpId). StandsAt l (passing_before (is_other s i) (with_inserted s i ops) k) a) (cut-with_inserted s i ops) (cut-stands s i (with_inserted s i ops) k a at)

    old-found : (j : ℕ) (a : OpId) → StandsAt ops j a → (k : ℕ) × StandsAt (with_inserted s i ops) k (new_place s i a)
    old-found j a at = cut-place s i (with_inserted s i ops) j a (subst (λ (l : List OpId). StandsAt l j a) (sym (cut-with_inserted s i ops)) at)

    old-once : (a : OpId) (j k : ℕ) → StandsAt (with_inserted s i ops) j (new_place s i a) → StandsAt (with_inserted s i ops) k (new_place s i a) → j ≡ k
    old-once a j k first second =
        let same = linear.once _ _ a (old-at j a first) (old-at k a second) in
        ⊎_elim
        (λ (below : j < k). let less = passing_before-lt (is_other s i) (with_inserted s i ops) j k (new_place s i a) first (is_other-new_place s i a) below in absurd (omega arith))
        (λ (over : k ≤ j). ⊎_elim
        (λ (above : k < j). let less = passing_before-lt (is_other s i) (with_inserted s i ops) k j (new_place s i a) second (is_other-new_place s i a) above in absurd (omega arith))
        (λ (up_to : j ≤ k). omega arith)
        (cases_lt k j))
        (cases_lt j k)

    old-ordered : (a b : OpId) (j k : ℕ) → StandsAt (with_inserted s i ops) j (new_place s i a) → StandsAt (with_inserted s i ops) k (new_place s i b) → IsTrue (co a b) → j < k
    old-ordered a b j k first second before =
        let less = linear.ordered _ _ a b (old-at j a first) (old-at k b second) before in
        lt_of_not-le (λ (over : k ≤ j). let up_to = passing_before-le (is_other s i) (with_inserted s i ops) k j over in omega arith)

    pub inserted-linear : IsLinearization whole_set order (with_inserted s i ops)
    inserted-linear = record {
      each = each-place s i (λ (a : OpId). IsTrue (whole_set a) → (k : ℕ) × StandsAt (with_inserted s i ops) k a)
          (λ inside. let j = linear.each (op s i) (new_to inside) in inserted-found s i ops j.0 j.1)
          (λ a inside. let j = linear.each a (old_to a inside) in old-found j.0 a j.1);
      no_other = λ k. each-place s i (λ (a : OpId). StandsAt (with_inserted s i ops) k a → IsTrue (whole_set a))
          (λ at. let j = inserted-next s i ops k at in new_from (linear.no_other j.0.0 (op s i) j.0.1))
          (λ a at. old_from a (linear.no_other _ a (old-at k a at)));
      once = λ j k. each-place s i (λ (a : OpId). StandsAt (with_inserted s i ops) j a → StandsAt (with_inserted s i ops) k a → j ≡ k)
          (λ first second.
          let same = old-once (op s i) (j + 1) (k + 1) (inserted-next s i ops j first).1 (inserted-next s i ops k second).1 in omega arith)
          (λ a. old-once a j k);
      ordered = λ j k. each-place s i (λ (a : OpId). (b : OpId) → StandsAt (with_inserted s i ops) j a → StandsAt (with_inserted s i ops) k b → IsTrue (order a b) → j < k)
          (each-place s i (λ (b : OpId). StandsAt (with_inserted s i ops) j (op s i) → StandsAt (with_inserted s i ops) k b → IsTrue (order (op s i) b) → j < k)
          (λ first second before. absurd (new_new-none before))
          (λ b first second before.
          let next = (inserted-next s i ops j first).1 in
          ⊎_elim
          (λ (same : op s i ≡ b).
          let there : j + 1 ≡ k = old-once b (j + 1) k (subst (λ (c : OpId). StandsAt (with_inserted s i ops) (j + 1) (new_place s i c)) same next) second in omega arith)
          (λ (later : IsTrue (co (op s i) b)). let less = old-ordered (op s i) b (j + 1) k next second later in omega arith)
          (is_after-parts b (new_old-from b before)).1))
          (λ a. each-place s i (λ (b : OpId). StandsAt (with_inserted s i ops) j (new_place s i a) → StandsAt (with_inserted s i ops) k b → IsTrue (order (new_place s i a) b) → j < k)
          (λ first second before.
          let there = inserted-next s i ops k second in
          let is_op = are_ops (op s i) (linear.no_other there.0.0 (op s i) there.0.1) in
          let less = old-ordered a (op s i) j (k + 1) first there.1 (is_before-old a (old_new-from a before) is_op) in
          ⊎_elim
          (λ (below : j < k). below)
          (λ (over : k ≤ j). let same : j ≡ k = omega arith in
          absurd (new_place-apart s i a (same_Some _ _ (sym (subst (λ (n : ℕ). StandsAt (with_inserted s i ops) n (new_place s i a)) same first) ∙ second))))
          (cases_lt j k))
          (λ b first second before. old-ordered a b j k first second (old_old-from a b before)));
    }
