-- What follows for vectors.
use Rattle.std.proofs.Common.{arith, get_or, subst, lt_of_not-le}
use Rattle.model_history.specs.declared.op_id.OpId.{OpId}
use Rattle.model_history.specs.History.{HistoryValue, IsOp, session}
use Rattle.order_causal.proofs.OrdersLaws.{session-of_history}
use Rattle.order_causal.specs.Vectors.{ByOperation, HasListOf, HasOneEach, Counts, IsCounted, IsListed, IsPastLastOf, IsPastPredecessor, IsVectorOk, count}
use Rattle.std.specs.Prelude.{◌≡◌, ◌≢◌, ℕ, ◌+◌, ◌<◌, ◌≤◌, List, [], length}
use Rattle.std.proofs.lemmas.List.{get_or_past}

-- what has no vector counts nothing
pub counted-listed : (v : Counts) (o a : OpId) → IsCounted v o a → IsListed v o
counted-listed v o a counted = lt_of_not-le (λ (past : length (get_or v o.session []) ≤ o.index).
    let none = get_or_past (get_or v o.session []) o.index [] past in
    let nothing = subst (λ (xs : List ℕ). a.index < get_or xs a.session 0) none counted in
    omega arith)

module _ {S C R : Type 0} (h : HistoryValue S C R) where
  -- each operation of the history has a list
  pub HasListOf-of_history : {A : Type 0} (lists : ByOperation A) (o : OpId) → HasOneEach h lists → IsOp h o → HasListOf lists o
  HasListOf-of_history lists o one_each is_op =
      let inside = session-of_history h o is_op in
      let sessions = one_each.sessions in
      let operations = one_each.operations o.session in
      record { session = omega arith; index = omega arith }

module _ {S C R : Type 0} (h : HistoryValue S C R) (v : Counts) (o : OpId) where
  -- what is asked of a vector, from its parts
  pub vector_ok-made : count v o o.session ≡ o.index + 1 → ((s : ℕ) → count v o s ≤ length (session h s)) → IsPastPredecessor v o
      → ((s : ℕ) → s ≢ o.session → IsPastLastOf v o s) → IsVectorOk h v o
  vector_ok-made own existing predecessor others = record {
    own = own;
    existing = existing;
    predecessor = predecessor;
    others = λ s i last. (others s last.0 i last.1).0;
    uncounted = λ s i last. (others s last.0 i last.1).1;
  }

  -- and its part on the other sessions
  pub vector_ok-others : IsVectorOk h v o → (s : ℕ) → s ≢ o.session → IsPastLastOf v o s
  vector_ok-others ok s apart i last = (ok.others s i (apart, last), ok.uncounted s i (apart, last))
