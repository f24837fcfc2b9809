-- What the vectors of the order of program order and sources tell of it.
use Rattle.std.specs.Prelude.{◌≡◌, ◌≢◌, ◌↔◌, ℕ, ◌<◌, ◌≤◌, Bool, IsTrue, List, [], ◌∷◌, length, Option, Some, None, MatchOption}
use Rattle.std.specs.List.{sum_by}
use Rattle.std.proofs.Common.{arith, get_or, sym, ap, subst, inr, ⊎_elim, refl, lt_of_not-le, zero, suc}
use Rattle.std.proofs.lemmas.List.{get_or_past}
use Rattle.std.proofs.lemmas.List.Sums.{sum_by-cons}
use Rattle.model_history.specs.declared.op_id.OpId.{OpId}
use Rattle.model_history.specs.History.{IsOp, Precedes, session}
use Rattle.order_memory.specs.Memory.{MemoryHistory}
use Rattle.order_causal.specs.Orders.{op}
use Rattle.order_memory.specs.SourceOrder.{CountsSourceOrder, IsSource, IsSourceEdge, SourceOrder}
use Rattle.order_memory.specs.Steps.Indexed.{IsSourceIfAny, IsSourcePast, HasNoWriteBefore, HasNoWriteOfPast, IsLastWriteBefore, IsLastWriteOfPast}
use Rattle.order_causal.specs.Vectors.{Counts, count, list_of, IsCounted}
use Rattle.order_memory.proofs.FirstWrites.{CO-from_sources, source-unique}
use Rattle.order_memory.proofs.GrowingOrdersLaws.{SourceOrder-of_history}
use Rattle.order_causal.proofs.OrdersLaws.{same_op}
use Rattle.order_memory.proofs.RelationsLaws.{CO-of_history}
use Rattle.order_causal.proofs.PathsLaws.{last-edge, leads-edge, leads-leads}
use Rattle.order_memory.proofs.SourceVectors.{before-counted, counted-within, counts-before, own-count}

-- lists that are nowhere larger have no larger sum
sum-within : (xs ys : List ℕ) → length xs ≡ length ys → ((s : ℕ) → get_or xs s 0 ≤ get_or ys s 0) → sum_by (λ (n : ℕ). n) xs ≤ sum_by (λ (n : ℕ). n) ys
sum-within [] ys same within = omega arith
sum-within (x ∷ xs) [] same within = absurd (omega arith)
sum-within (x ∷ xs) (y ∷ ys) same within =
    let rest = sum-within xs ys (omega arith) (λ s. within (suc s)) in
    let first : x ≤ y = within zero in
    let left = sum_by-cons (λ (n : ℕ). n) x xs in
    let right = sum_by-cons (λ (n : ℕ). n) y ys in
    omega arith

-- and a smaller one, where one is smaller
sum-below : (xs ys : List ℕ) → length xs ≡ length ys → ((s : ℕ) → get_or xs s 0 ≤ get_or ys s 0)
    → (s : ℕ) → get_or xs s 0 < get_or ys s 0 → sum_by (λ (n : ℕ). n) xs < sum_by (λ (n : ℕ). n) ys
sum-below xs [] same within s below = let none = get_or_past {X = ℕ} [] s 0 (omega arith) in absurd (omega arith)
sum-below [] (y ∷ ys) same within s below = absurd (omega arith)
sum-below (x ∷ xs) (y ∷ ys) same within zero below =
    let rest = sum-within xs ys (omega arith) (λ s. within (suc s)) in
    let first : x < y = below in
    let left = sum_by-cons (λ (n : ℕ). n) x xs in
    let right = sum_by-cons (λ (n : ℕ). n) y ys in
    omega arith
sum-below (x ∷ xs) (y ∷ ys) same within (suc s) below =
    let rest = sum-below xs ys (omega arith) (λ t. within (suc t)) s below in
    let first : x ≤ y = within zero in
    let left = sum_by-cons (λ (n : ℕ). n) x xs in
    let right = sum_by-cons (λ (n : ℕ). n) y ys in
    omega arith

module _ (h : MemoryHistory) where
  -- the end of what comes before is of the history
  pub later-of_history : (a b : OpId) → SourceOrder h a b → IsOp h b
  later-of_history a b before = (CO-of_history h a b (CO-from_sources h a b before)).1

module _ (h : MemoryHistory) (v : Counts) (order : CountsSourceOrder h v) where
  -- what counts an operation is of the history
  counting-of_history : (o a : OpId) → IsCounted v o a → IsOp h o
  counting-of_history o a counted = lt_of_not-le (λ (past : length (session h o.session) ≤ o.index).
      let same = order.vectors.one_each.operations o.session in
      let none : list_of v o ≡ [] = get_or_past (get_or v o.session []) o.index [] (omega arith) in
      let less : a.index < get_or [] a.session 0 = subst (λ (xs : List ℕ). a.index < get_or xs a.session 0) none counted in
      let zero_there = get_or_past {X = ℕ} [] a.session 0 (omega arith) in
      omega arith)

  -- the vector of an operation counts its past
  pub counted-past : (o a : OpId) → IsCounted v o a ↔ IsSourcePast h o a
  counted-past o a = (
    (λ counted. let is_op = counting-of_history o a counted in (is_op, (order.counted o a is_op).0 counted)),
    λ past. (order.counted o a past.0).1 past.1,
  )

  -- so does a number that is one of its counts, and a test of what it counts
  pub count-past : (o : OpId) (s n : ℕ) → n ≡ count v o s → (i : ℕ) → (i < n) ↔ IsSourcePast h o (op s i)
  count-past o s n is i =
      let exact = counted-past o (op s i) in ((λ below. exact.0 (omega arith)), λ past. let below = exact.1 past in omega arith)

  pub test-past : (o a : OpId) (b : Bool) → IsTrue b ↔ IsCounted v o a → IsTrue b ↔ IsSourcePast h o a
  test-past o a b test = let exact = counted-past o a in ((λ yes. exact.0 (test.0 yes)), λ past. test.1 (exact.1 past))

  -- what is in the past of another operation comes before it
  pub past-before : (a b : OpId) → a ≢ b → IsSourcePast h b a → SourceOrder h a b
  past-before a b apart past = ⊎_elim (λ (same : a ≡ b). absurd (apart same)) (λ (before : SourceOrder h a b). before) past.1

  pub before-past : (a b : OpId) → SourceOrder h a b → (a ≢ b) × IsSourcePast h b a
  before-past a b before = (
    (λ same. order.acyclic b (subst (λ (x : OpId). SourceOrder h x b) same before)),
    (later-of_history h a b before, inr before),
  )

  -- a test of what the vector of another operation counts
  pub test-before : (a b : OpId) (t : Bool) → IsTrue t ↔ ((a ≢ b) × IsCounted v b a) → IsTrue t ↔ SourceOrder h a b
  test-before a b t test = (
    (λ yes. let both = test.0 yes in past-before a b both.0 ((counted-past b a).0 both.1)),
    λ before. let both = before-past a b before in test.1 (both.0, (counted-past b a).1 both.1),
  )

  -- the first operation of a session that counts a has a source that counts a
  entering : (a b : OpId) → IsCounted v b a → a.session ≢ b.session → ((i : ℕ) → i < b.index → ¬ IsCounted v (op b.session i) a)
      → (p : OpId) × IsSource h p b × IsCounted v p a
  entering a b counted apart first =
      let is_op = counting-of_history b a counted in
      let before = before-counted h v order b a is_op counted (λ same. apart (ap (λ (x : OpId). x.session) same)) in
      let edge = last-edge (IsSourceEdge h) a b before in
      let counts : IsOp h edge.0 → IsCounted v edge.0 a = λ there. (order.counted edge.0 a there).1 edge.1 in
      ⊎_elim
      (λ (precedes : Precedes edge.0 b × IsOp h b).
      let is : edge.0 ≡ op b.session edge.0.index = same_op edge.0 (op b.session edge.0.index) precedes.0.0 refl in
      let there : IsOp h edge.0 = let below = precedes.0.1 in subst (λ (x : OpId). IsOp h x) (sym is) (omega arith) in
      absurd (first edge.0.index precedes.0.1 (subst (λ (x : OpId). IsCounted v x a) is (counts there))))
      (λ (source : IsSource h edge.0 b). (edge.0, source, counts (SourceOrder-of_history h edge.0 b (leads-edge (IsSourceEdge h) edge.0 b (inr source)))))
      edge.2

  -- it is the source that is known of it
  pub entering-source : (a b : OpId) → IsCounted v b a → a.session ≢ b.session → ((i : ℕ) → i < b.index → ¬ IsCounted v (op b.session i) a)
      → (e : Option OpId) → IsSourceIfAny h b e → MatchOption e ⊥ (λ w. IsSource h w b × IsCounted v w a)
  entering-source a b counted apart first None none = let from = entering a b counted apart first in none from.0 from.1.0
  entering-source a b counted apart first (Some w) source =
      let from = entering a b counted apart first in
      (source, subst (λ (x : OpId). IsCounted v x a) (source-unique h from.0 w b from.1 source) from.2)

  -- what comes before an operation has fewer operations in its past
  pub before-fewer : (a b : OpId) → SourceOrder h a b → sum_by (λ (n : ℕ). n) (list_of v a) < sum_by (λ (n : ℕ). n) (list_of v b)
  before-fewer a b before =
      let is_op = later-of_history h a b before in
      let is_op_a = SourceOrder-of_history h a b before in
      let within = counted-within h v order b a is_op (counts-before h v order b a is_op before) in
      let own = own-count h v order b is_op in
      let size_a = order.vectors.counts a is_op_a in
      let size_b = order.vectors.counts b is_op in
      let fewer : count v a b.session < count v b b.session = lt_of_not-le (λ (many : count v b b.session ≤ count v a b.session).
      let back : IsCounted v a b = omega arith in
      let after = (order.counted a b is_op_a).0 back in
      ⊎_elim
      (λ (same : b ≡ a). order.acyclic b (subst (λ (x : OpId). SourceOrder h x b) (sym same) before))
      (λ (behind : SourceOrder h b a). order.acyclic a (leads-leads (IsSourceEdge h) a b a before behind))
      after) in
      sum-below (list_of v a) (list_of v b) (omega arith) within b.session fewer

module _ (h : MemoryHistory) (x s n : ℕ) (o : OpId) (bound : (i : ℕ) → (i < n) ↔ IsSourcePast h o (op s i)) where
  -- the last write before what is in the past of an operation is the last one in its past
  pub last-past : (e : Option OpId) → MatchOption e (HasNoWriteBefore h x (op s n)) (IsLastWriteBefore h x (op s n))
      → MatchOption e (HasNoWriteOfPast h x s o) (IsLastWriteOfPast h x s o)
  last-past None none = λ i v past wrote. none i v ((bound i).1 past) wrote
  last-past (Some w) last =
      let is : op s w.index ≡ w = same_op (op s w.index) w (sym last.session) refl in
      record {
        session = last.session;
        past = subst (λ (a : OpId). IsSourcePast h o a) is ((bound w.index).0 last.before);
        value = last.value;
        writes = last.writes;
        last = λ i v past wrote. last.last i v ((bound i).1 past) wrote;
      }
