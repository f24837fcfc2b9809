-- The pieces that a causal order gives: vectors that count its pasts, and the session numbers of its linearizations.
use Rattle.std.proofs.Common.{◌≡◌, ◌≢◌, ℕ, ◌+◌, ◌<◌, ◌≤◌, ◌↔◌, ⊎_elim, List, length, filter, arith, refl, sym, ap, subst, lt-ltb, ltb-true}
use Rattle.std.specs.Prelude.{IsTrue}
use Rattle.std.specs.Cmp.{both_ways}
use Rattle.std.proofs.lemmas.Bool.{cases_lt, or_cases, or_left, or_right}
use Rattle.model_history.specs.declared.op_id.OpId.{OpId}
use Rattle.model_history.specs.History.{HistoryValue, IsOp, session}
use Rattle.order_causal.specs.Orders.{op, Ops, Order, only, past, IsLinearization}
use Rattle.order_causal.specs.Vectors.{Counts, count, IsCounted, IsWithin, IsVectorOk}
use Rattle.cert_check.specs.Criteria.{every, IsCausalOrder, Explains}
use Rattle.cert_check.specs.Schedules.{named, IsSchedule}
use Rattle.order_causal.specs.Schedules.{placed}
use Rattle.cert_check.specs.Certificates.{counted, IsArbitratedPiece}
use Rattle.cert_check.proofs.ConvergentLaws.{only-same}
use Rattle.cert_check.proofs.Counting.{past-of_history, past-closed}
use Rattle.cert_check.proofs.Named.{named_each, named_within}
use Rattle.cert_check.proofs.Pasts.{only-itself, every-op, op-every}
use Rattle.cert_check.proofs.Sessions.{sessions_of, IsInProgramOrder, named-sessions}

-- two numbers are equal where the same numbers are below them
same_count : (m n : ℕ) → ((i : ℕ) → i < m → i < n) → ((i : ℕ) → i < n → i < m) → m ≡ n
same_count m n up down = ⊎_elim
    (λ (below : m < n). let less = down m below in absurd (omega arith))
    (λ (up_to : n ≤ m). ⊎_elim
    (λ (above : n < m). let less = up n above in absurd (omega arith))
    (λ (other : m ≤ n). omega arith)
    (cases_lt n m))
    (cases_lt m n)

module _ {S C R : Type 0} (h : HistoryValue S C R) (co : Order) (causal : IsCausalOrder h co) where
  -- a linearization of a set that is closed under co stands in program order
  linearization-in_order : (set : Ops) (ops : List OpId) → ((a : OpId) → IsTrue (set a) → IsOp h a)
      → ((a b : OpId) → IsTrue (set b) → IsTrue (co a b) → IsTrue (set a)) → IsLinearization set co ops → IsInProgramOrder ops
  linearization-in_order set ops of_history closed linear = record {
    once = linear.once;
    behind = λ k a b stands earlier.
        let inside = linear.no_other k b stands in
        let before = causal.program_order a b (of_history b inside) earlier in
        let there = linear.each a (closed a b inside before) in
        (there.0, linear.ordered there.0 k a b there.1 stands before, there.1);
  }

  -- the session numbers of a linearization of a past name it
  pub named_past : (o : OpId) (ops : List OpId) → IsOp h o → IsLinearization (past co o) co ops → named (sessions_of ops) ≡ ops
  named_past o ops is_op linear = named-sessions ops
      (linearization-in_order (past co o) ops (λ a inside. past-of_history h co causal o a is_op inside) (λ a b inside before. past-closed h co causal o a b inside before) linear)

  -- the session numbers of a linearization of the history name it
  pub named_whole : (ops : List OpId) → IsLinearization (every h) co ops → named (sessions_of ops) ≡ ops
  named_whole ops linear = named-sessions ops
      (linearization-in_order (every h) ops (λ a inside. every-op h a inside) (λ a b inside before. op-every h a (causal.of_history a b before).0) linear)

  -- the session numbers of a linearization of the history are one list for all
  pub whole-ends : (arbitration : List ℕ) → IsLinearization (every h) co (named arbitration) → (s : ℕ) → placed arbitration s ≡ length (session h s)
  whole-ends arbitration linear s = same_count (placed arbitration s) (length (session h s))
      (λ i below. let there = named_each arbitration (op s i) below in every-op h (op s i) (linear.no_other there.0 (op s i) there.1))
      (λ i below. let there = linear.each (op s i) (op-every h (op s i) below) in named_within arbitration there.0 (op s i) there.1)

  module _ (v : Counts) (counts : (o : OpId) → IsOp h o → (a : OpId) → IsCounted v o a ↔ IsTrue (past co o a)) where
    -- the vector of an operation is at least those of its past
    past_within : (o a : OpId) → IsOp h o → IsTrue (past co o a) → IsWithin v o a
    past_within o a is_op inside = λ t. ⊎_elim
        (λ (above : count v o t < count v a t).
        let last : OpId = op t (count v o t) in
        let is_op_a = past-of_history h co causal o a is_op inside in
        let deeper : IsTrue (past co o last) = ⊎_elim
        (λ (alone : IsTrue (only a last)). let same = only-same a last alone in subst (λ (x : OpId). IsTrue (past co o x)) (sym same) inside)
        (λ (before : IsTrue (co last a)). past-closed h co causal o last a inside before)
        (or_cases (only a last) (co last a) ((counts a is_op_a last).0 above)) in
        let again : count v o t < count v o t = (counts o is_op last).1 deeper in
        absurd (omega arith))
        (λ (up_to : count v a t ≤ count v o t). up_to)
        (cases_lt (count v o t) (count v a t))

    -- nothing is before an operation of its past and behind it
    no_way_back : (o a : OpId) → (a ≡ o → ⊥) → IsTrue (past co o a) → IsTrue (past co a o) → ⊥
    no_way_back o a apart inside back = ⊎_elim
        (λ (alone : IsTrue (only o a)). apart (only-same o a alone))
        (λ (before : IsTrue (co a o)). ⊎_elim
        (λ (alone : IsTrue (only a o)). apart (sym (only-same a o alone)))
        (λ (after : IsTrue (co o a)). causal.irreflexive o (causal.transitive o a o after before))
        (or_cases (only a o) (co o a) back))
        (or_cases (only o a) (co a o) inside)

    counts_itself : (o : OpId) → IsOp h o → IsCounted v o o
    counts_itself o is_op = (counts o is_op o).1 (or_left (only o o) (co o o) (only-itself o))

    own_count : (o : OpId) → IsOp h o → count v o o.session ≡ o.index + 1
    own_count o is_op =
        let itself = counts_itself o is_op in
        ⊎_elim
        (λ (above : o.index + 1 < count v o o.session).
        let next : OpId = op o.session (o.index + 1) in
        let inside = (counts o is_op next).0 above in
        let later = causal.program_order o next (past-of_history h co causal o next is_op inside) (refl, omega arith) in
        let apart : next ≡ o → ⊥ = λ (same : next ≡ o). let index : o.index + 1 ≡ o.index = ap (λ (x : OpId). x.index) same in omega arith in
        absurd (no_way_back o next apart inside (or_right (only next o) (co o next) later)))
        (λ (up_to : count v o o.session ≤ o.index + 1). omega arith)
        (cases_lt (o.index + 1) (count v o o.session))

    pub past_vector-ok : (o : OpId) → IsOp h o → IsVectorOk h v o
    past_vector-ok o is_op = record {
      own = own_count o is_op;
      existing = λ s. ⊎_elim
          (λ (above : length (session h s) < count v o s).
          let there = past-of_history h co causal o (op s (length (session h s))) is_op ((counts o is_op (op s (length (session h s)))).0 above) in
          absurd (omega arith))
          (λ (up_to : count v o s ≤ length (session h s)). up_to)
          (cases_lt (length (session h s)) (count v o s));
      predecessor = λ i e. past_within o (op o.session i) is_op
          (or_right (only o (op o.session i)) (co (op o.session i) o) (causal.program_order (op o.session i) o is_op (refl, omega arith)));
      others = λ s i last. past_within o (op s i) is_op ((counts o is_op (op s i)).0 (let e = last.1 in omega arith));
      uncounted = λ s i last back.
          let inside = (counts o is_op (op s i)).0 (let e = last.1 in omega arith) in
          no_way_back o (op s i) (λ same. last.0 (ap (λ (x : OpId). x.session) same)) inside
          ((counts (op s i) (past-of_history h co causal o (op s i) is_op inside) o).0 back);
    }

    -- the vector of an operation counts what comes before it in co
    counted_before-order : (o a : OpId) → IsOp h o → IsCounted v o a → a ≢ o → IsTrue (co a o)
    counted_before-order o a is_op counted apart = ⊎_elim
        (λ (alone : IsTrue (only o a)). absurd (apart (only-same o a alone)))
        (λ (before : IsTrue (co a o)). before)
        (or_cases (only o a) (co a o) ((counts o is_op a).0 counted))

    -- the session numbers of a linearization are a schedule
    pub past-schedule : (o : OpId) (schedule : List ℕ) → IsOp h o → IsLinearization (past co o) co (named schedule) → IsSchedule h v o schedule
    past-schedule o schedule is_op linear = record {
      existing = λ k a stands. past-of_history h co causal o a is_op (linear.no_other k a stands);
      after_counted = λ k b a stands counted apart.
          let inside = linear.no_other k b stands in
          let before = counted_before-order b a (past-of_history h co causal o b is_op inside) counted apart in
          let there = linear.each a (past-closed h co causal o a b inside before) in
          (there.0, linear.ordered there.0 k a b there.1 stands before, there.1);
      ends = λ s. same_count (placed schedule s) (count v o s)
          (λ i below. let there = named_each schedule (op s i) below in (counts o is_op (op s i)).1 (linear.no_other there.0 (op s i) there.1))
          (λ i below. let there = linear.each (op s i) ((counts o is_op (op s i)).0 below) in named_within schedule there.0 (op s i) there.1);
    }

    -- the past of an operation is what its vector counts
    counted-is_past : (o a : OpId) → IsOp h o → counted v o a ≡ past co o a
    counted-is_past o a is_op = both_ways (counted v o a) (past co o a)
        (λ inside. (counts o is_op a).0 (ltb-true a.index (count v o a.session) inside))
        (λ inside. lt-ltb a.index (count v o a.session) ((counts o is_op a).1 inside))

    -- the piece of an operation by the one list
    pub whole-piece : (answer : S → List C → C → R) (arbitration : List ℕ) (o : OpId) → IsOp h o → IsLinearization (every h) co (named arbitration)
        → Explains answer h (filter (past co o) (named arbitration)) (only o) → IsArbitratedPiece answer h v arbitration o
    whole-piece answer arbitration o is_op linear explained = record {
      vector = past_vector-ok o is_op;
      after_counted = λ k a stands counted apart.
          let before = counted_before-order o a is_op counted apart in
          let there = linear.each a (op-every h a (causal.of_history a o before).0) in
          (there.0, linear.ordered there.0 k a o there.1 stands before, there.1);
      explains = subst (λ (ops : List OpId). Explains answer h ops (only o)) (λ i. filter (λ a. sym (counted-is_past o a is_op) i) (named arbitration)) explained;
    }
