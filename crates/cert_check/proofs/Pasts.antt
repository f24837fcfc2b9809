-- Where each vector is good, to be counted by it is a causal order.
use Rattle.std.proofs.Common.{◌≡◌, ℕ, zero, suc, ◌+◌, ◌-◌, ◌<◌, ◌≤◌, ⊎_elim, Bool, true, false, not, ◌&&◌, length, arith, ap, refl, sym, ◌∙◌, subst, lt-ltb, ltb-true, eq-eqb, ◌==◌}
use Rattle.std.specs.Prelude.{IsTrue}
use Rattle.std.specs.Cmp.{both_ways}
use Rattle.std.proofs.lemmas.Bool.{and_parts, and_from, or_cases, or_left, or_right, cases_Bool, cases_eq, false_from_ne_true, not_from_true, not_from_false, true≢false}
use Rattle.model_history.specs.declared.op_id.OpId.{OpId}
use Rattle.model_history.specs.History.{HistoryValue, IsOp, session}
use Rattle.order_causal.specs.Orders.{op, only, past}
use Rattle.order_causal.proofs.OrdersLaws.{same_op}
use Rattle.order_causal.specs.Vectors.{Counts, count, IsCounted, IsWithin, IsVectorOk}
use Rattle.cert_check.specs.Criteria.{every, IsCausalOrder}
use Rattle.cert_check.specs.Certificates.{counted}
use Rattle.cert_check.specs.Witnesses.{counted_before}
use Rattle.cert_check.proofs.ConvergentLaws.{only-same}

-- an operation is itself, and no other
pub only-itself : (o : OpId) → IsTrue (only o o)
only-itself o = and_from (o.session == o.session) (o.index == o.index) (eq-eqb o.session o.session refl) (eq-eqb o.index o.index refl)

pub only-other : (o a : OpId) → (a ≡ o → ⊥) → only o a ≡ false
only-other o a apart = false_from_ne_true (only o a) (λ alone. apart (only-same o a alone))

not_both : (b : Bool) → not b ≡ true → b ≡ true → ⊥
not_both b e holds = true≢false (sym e ∙ not_from_true b holds)

module _ {S C R : Type 0} (h : HistoryValue S C R) where
  pub every-op : (a : OpId) → IsTrue (every h a) → IsOp h a
  every-op a inside = ltb-true a.index (length (session h a.session)) inside

  pub op-every : (a : OpId) → IsOp h a → IsTrue (every h a)
  op-every a is_op = lt-ltb a.index (length (session h a.session)) is_op

module _ {S C R : Type 0} (h : HistoryValue S C R) (v : Counts) where
  -- another operation of the history that the vector of b counts
  pub record IsCountedBefore (a b : OpId) : Type 0 where
    pub apart : a ≡ b → ⊥
    pub first : IsOp h a
    pub second : IsOp h b
    pub counts : IsCounted v b a

  pub counted_before-parts : (a b : OpId) → IsTrue (counted_before h v a b) → IsCountedBefore a b
  counted_before-parts a b before =
      let other = and_parts (not (only b a)) (every h a && (every h b && counted v b a)) before in
      let one = and_parts (every h a) (every h b && counted v b a) other.1 in
      let two = and_parts (every h b) (counted v b a) one.1 in
      record {
        apart = λ same. not_both (only b a) other.0 (subst (λ (x : OpId). IsTrue (only b x)) (sym same) (only-itself b));
        first = every-op h a one.0;
        second = every-op h b two.0;
        counts = ltb-true a.index (count v b a.session) two.1;
      }

  pub counted_before-from : (a b : OpId) → IsCountedBefore a b → IsTrue (counted_before h v a b)
  counted_before-from a b p =
      and_from (not (only b a)) (every h a && (every h b && counted v b a)) (not_from_false (only b a) (only-other b a p.apart))
      (and_from (every h a) (every h b && counted v b a) (op-every h a p.first)
      (and_from (every h b) (counted v b a) (op-every h b p.second) (lt-ltb a.index (count v b a.session) p.counts)))

  module _ (good : (o : OpId) → IsOp h o → IsVectorOk h v o) where
    -- what a good vector counts is there
    pub counted-of_history : (o a : OpId) → IsOp h o → IsCounted v o a → IsOp h a
    counted-of_history o a is_op counts = let up_to = (good o is_op).existing a.session in omega arith

    within_session : (s i j n : ℕ) → i + n ≡ j → IsOp h (op s j) → IsWithin v (op s j) (op s i)
    within_session s i j zero e is_op = λ t.
        let same : i ≡ j = omega arith in
        subst (λ (k : ℕ). count v (op s i) t ≤ count v (op s k) t) same (omega arith)
    within_session s i j (suc n) e is_op = λ t.
        let before = within_session s i (i + n) n refl (omega arith) t in
        let here = (good (op s j) is_op).predecessor (i + n) (omega arith) t in
        omega arith

    -- a vector is at least those of the operations before it in program order
    earlier_within : (o a : OpId) → IsOp h o → a.session ≡ o.session → a.index ≤ o.index → IsWithin v o a
    earlier_within o a is_op same up_to = λ t.
        subst (λ (s : ℕ). count v (op s a.index) t ≤ count v o t) (sym same)
        (within_session o.session a.index o.index (o.index - a.index) (omega arith) is_op t)

    -- how many operations of its own session a vector counts
    own_count : (o a : OpId) → IsOp h o → a.session ≡ o.session → count v o a.session ≡ o.index + 1
    own_count o a is_op same = ap (λ (s : ℕ). count v o s) same ∙ (good o is_op).own

    -- a vector is at least those of the operations that it counts
    pub counted_within : (o a : OpId) → IsOp h o → IsCounted v o a → IsWithin v o a
    counted_within o a is_op counts = ⊎_elim
        (λ (same : a.session ≡ o.session). let own = own_count o a is_op same in
        earlier_within o a is_op same (omega arith))
        (λ (other : a.session ≡ o.session → ⊥). λ t.
        let i : ℕ = count v o a.session - 1 in
        let last : count v o a.session ≡ i + 1 = omega arith in
        let there = (good o is_op).existing a.session in
        let before = earlier_within (op a.session i) a (omega arith) refl (omega arith) t in
        let up_to = (good o is_op).others a.session i (other, last) t in
        omega arith)
        (cases_eq a.session o.session)

    -- of two operations at most one counts the other
    pub counted_apart : (o a : OpId) → IsOp h o → IsOp h a → IsCounted v o a → IsCounted v a o → a ≡ o
    counted_apart o a is_op is_op_a counts back = ⊎_elim
        (λ (same : a.session ≡ o.session).
        let own = own_count o a is_op same in
        let own_a = own_count a o is_op_a (sym same) in
        same_op a o same (omega arith))
        (λ (other : a.session ≡ o.session → ⊥).
        let i : ℕ = count v o a.session - 1 in
        let last : count v o a.session ≡ i + 1 = omega arith in
        let there = (good o is_op).existing a.session in
        let before = earlier_within (op a.session i) a (omega arith) refl (omega arith) o.session in
        absurd ((good o is_op).uncounted a.session i (other, last) (omega arith)))
        (cases_eq a.session o.session)

    pub counted_before-causal : IsCausalOrder h (counted_before h v)
    counted_before-causal = record {
      of_history = λ a b before. let p = counted_before-parts a b before in (p.first, p.second);
      transitive = λ a b c before after.
          let p = counted_before-parts a b before in
          let q = counted_before-parts b c after in
          let within = counted_within c b q.second q.counts a.session in
          let counts = p.counts in
          counted_before-from a c (record {
            apart = λ same. p.apart (counted_apart b a p.second p.first p.counts (subst (λ (x : OpId). IsCounted v x b) (sym same) q.counts));
            first = p.first;
            second = q.second;
            counts = omega arith;
          });
      irreflexive = λ a before. (counted_before-parts a a before).apart refl;
      program_order = λ a b is_op earlier.
          let same : a.session ≡ b.session = earlier.0 in
          let below : a.index < b.index = earlier.1 in
          let own = own_count b a is_op same in
          let long : length (session h a.session) ≡ length (session h b.session) = ap (λ (s : ℕ). length (session h s)) same in
          counted_before-from a b (record {
            apart = λ one. let index : a.index ≡ b.index = ap (λ (x : OpId). x.index) one in omega arith;
            first = omega arith;
            second = is_op;
            counts = omega arith;
          });
    }

    -- the past of an operation is what its vector counts
    pub past-from_counted : (o a : OpId) → IsOp h o → IsCounted v o a → IsTrue (past (counted_before h v) o a)
    past-from_counted o a is_op counts = ⊎_elim
        (λ (alone : only o a ≡ true). or_left (only o a) (counted_before h v a o) alone)
        (λ (other : only o a ≡ false). or_right (only o a) (counted_before h v a o)
        (counted_before-from a o (record {
          apart = λ same. let alone = subst (λ (x : OpId). IsTrue (only o x)) (sym same) (only-itself o) in absurd cc;
          first = counted-of_history o a is_op counts;
          second = is_op;
          counts = counts;
        })))
        (cases_Bool (only o a))

    pub counted-from_past : (o a : OpId) → IsOp h o → IsTrue (past (counted_before h v) o a) → IsCounted v o a
    counted-from_past o a is_op inside = ⊎_elim
        (λ (alone : IsTrue (only o a)). let same = only-same o a alone in
        let own = (good o is_op).own in
        subst (λ (x : OpId). IsCounted v o x) (sym same) (omega arith))
        (λ (before : IsTrue (counted_before h v a o)). (counted_before-parts a o before).counts)
        (or_cases (only o a) (counted_before h v a o) inside)

    pub past-is_counted : (o a : OpId) → IsOp h o → past (counted_before h v) o a ≡ counted v o a
    past-is_counted o a is_op = both_ways (past (counted_before h v) o a) (counted v o a)
        (λ inside. lt-ltb a.index (count v o a.session) (counted-from_past o a is_op inside))
        (λ counts. past-from_counted o a is_op (ltb-true a.index (count v o a.session) counts))
