-- How much a schedule places, and what is no operation.
use Rattle.std.specs.Prelude.{◌≡◌, ◌==◌, ℕ, ◌+◌, ◌<◌, ◌≤◌, ◌++◌, Bool, cond, IsTrue, List, Option, length, option_map, replicate}
use Rattle.std.proofs.Common.{ap, subst, ◌∙◌}
use Rattle.std.proofs.lemmas.Bool.{false≢true}
use Rattle.std.proofs.lemmas.List.Sums.{sum_by-append}
use Rattle.std.proofs.lemmas.Option.{slice_get_past}
use Rattle.model_history.specs.declared.op_id.OpId.{OpId}
use Rattle.model_history.specs.History.{HistoryValue, session}
use Rattle.order_causal.specs.Orders.{op}
use Rattle.order_causal.specs.Schedules.{placed}
use Rattle.order_causal.proofs.OrdersLaws.{session-of_history}
use Rattle.cert_make.specs.ByOrder.{is_update, is_update_call}
use Rattle.cert_make.proofs.InTurn.{placed-replicate}

-- so many operations more of a session are placed
pub placed_more : (schedule : List ℕ) (s n : ℕ) → placed (schedule ++ replicate n s) s ≡ placed schedule s + n
placed_more schedule s n =
    sum_by-append (λ t. cond (t == s) 1 0) schedule (replicate n s) ∙ ap (λ (m : ℕ). placed schedule s + m) (placed-replicate n s)

-- an operation is of one of the sessions
pub session_there : {S C R : Type 0} (h : HistoryValue S C R) (s i : ℕ) → i < length (session h s) → s < length h.1
session_there h s i below = session-of_history h (op s i) below

module _ {S C R : Type 0} (query : C → Bool) (h : HistoryValue S C R) (o : OpId) (past : length (session h o.session) ≤ o.index) where
  -- what is no operation is no update
  pub past_update : ¬ IsTrue (is_update query h o)
  past_update update = false≢true (subst (λ (e : Option (C × Option R)). IsTrue (is_update_call query (option_map (λ (x : C × Option R). x.0) e)))
      (slice_get_past (session h o.session) o.index past) update)
