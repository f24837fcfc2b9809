-- Known returns of a session that are asked for from the end of a schedule back.
use Rattle.std.proofs.Common.{◌≡◌, ℕ, ◌+◌, ◌<◌, ◌≤◌, ⊎_elim, List, length, take, subst, arith}
use Rattle.std.proofs.lemmas.Bool.{cases_lt}
use Rattle.model_history.specs.declared.op_id.OpId.{OpId}
use Rattle.model_history.specs.History.{HistoryValue}
use Rattle.order_causal.specs.Orders.{Ops, StandsAt, program_past}
use Rattle.order_causal.specs.Vectors.{Counts, IsVectorOk}
use Rattle.cert_check.specs.Schedules.{named, IsSchedule}
use Rattle.cert_check.specs.Steps.Replays.{AreAnswered, IsAnsweredAfter, IsAnsweredAt}
use Rattle.cert_check.proofs.SchedulePieces.{own_kept}

module _ {S C R : Type 0} (answer : S → List C → C → R) (h : HistoryValue S C R) (kept : Ops) (list : List ℕ) where
  -- from a place on, the known returns that are kept are answered
  abbrev pub AreAnsweredFrom : ℕ → Type 0
  AreAnsweredFrom i = (k : ℕ) → i ≤ k → k < length list → IsAnsweredAt answer h kept list k

  pub answered_more : (i k : ℕ) → i ≡ k + 1 → IsAnsweredAt answer h kept list k → AreAnsweredFrom i → AreAnsweredFrom k
  answered_more i k next here behind j from below = ⊎_elim
      (λ (above : k < j). behind j (omega arith) below)
      (λ (up_to : j ≤ k). let same : k ≡ j = omega arith in subst (λ (n : ℕ). IsAnsweredAt answer h kept list n) same here)
      (cases_lt k j)

  -- what is answered up to a place and from there on is answered everywhere
  pub answered_whole : (front i : ℕ) → i ≤ front → AreAnswered answer h kept list front → AreAnsweredFrom i → AreAnswered answer h kept list (length list)
  answered_whole front i most before behind = record {
    each = λ j below. ⊎_elim
        (λ (inside : j < front). before.each j inside)
        (λ (past : front ≤ j). behind j (omega arith) below)
        (cases_lt j front);
  }

module _ {S C R : Type 0} (answer : S → List C → C → R) (h : HistoryValue S C R) (o : OpId) (list : List ℕ) (k : ℕ) (next : OpId) (there : StandsAt (named list) k next) where
  -- one of the session that is not answered
  pub own_unanswered : (v : Counts) → IsVectorOk h v o → IsSchedule h v o list → next.session ≡ o.session → k < length list
      → (IsAnsweredAfter answer h (take k (named list)) next → ⊥) → AreAnswered answer h (program_past o) list (length list) → ⊥
  own_unanswered v vector good same below wrong all = wrong (all.each k below next there (own_kept answer h v o list good vector k next there same))
