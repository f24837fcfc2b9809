-- What it says of a session that nothing can be placed any more.
use Rattle.std.specs.Prelude.{◌≡◌, ℕ, ◌-◌, ◌<◌, ◌≤◌, true, false, None, length, slice_index_or}
use Rattle.std.proofs.Common.{arith, sym, ap, subst, ⊎_elim, ◌∙◌}
use Rattle.std.proofs.lemmas.Bool.{cases_lt}
use Rattle.std.proofs.lemmas.List.{get_or_past}
use Rattle.model_history.specs.declared.op_id.OpId.{OpId}
use Rattle.model_history.specs.History.{session}
use Rattle.order_causal.specs.Orders.{op}
use Rattle.order_memory.specs.HappenedBeforePatterns.{HasHBCycle, HasStartOverwrittenInHB}
use Rattle.order_memory.specs.Memory.{MemoryHistory}
use Rattle.order_memory.specs.Relations.{ReadsFrom}
use Rattle.order_memory.specs.SourceOrder.{LacksSource}
use Rattle.order_memory.proofs.VectorsExist.{vectors-exist}
use Rattle.judge_memory.specs.Steps.{many}
use Rattle.judge_memory.proofs.Numbers.{number-found}
use Rattle.judge_memory.specs.Indexed.{Indexed}
use Rattle.judge_session_orders.specs.declared.backward.Backward.{Backward}
use Rattle.judge_session_orders.specs.Backward.{IsOpen}
use Rattle.judge_session_orders.specs.OnItsWay.{IsClear, IsOnItsWay, IsStopped, left_of}
use Rattle.judge_session_orders.specs.SessionOrders.{IsOrderOfPast, IsOrderedSession, last_op}
use Rattle.judge_session_orders.specs.SessionStates.{IsSessionState}
use Rattle.judge_session_orders.specs.Tables.{WritesNumber}
use Rattle.judge_session_orders.proofs.HappenedBeforeDecided.{cycle-found}
use Rattle.judge_session_orders.proofs.LeftSums.{left-none}
use Rattle.judge_session_orders.proofs.Locks.{ended-unlocked}
use Rattle.judge_session_orders.proofs.SessionSteps.{state-ended_overwritten, state-ended_explained}
use Rattle.judge_session_orders.proofs.Stuck.{stuck-cyclic}
use Rattle.judge_session_orders.proofs.Tests.{test-of, writes_number-decided, reads_from-decided}

module _ (index : Indexed) (b : Backward) (now : IsOnItsWay index b) where
  abbrev h : MemoryHistory
  h = index.history

  abbrev o : OpId
  o = last_op index.history b.own

  abbrev left : ℕ → ℕ
  left = left_of index.history b

  -- where something is left and stopped, something happened before itself
  pub stuck-outcome : ¬ LacksSource h → ((t : ℕ) → IsOpen left t → IsStopped index b t) → (t : ℕ) → IsOpen left t → HasHBCycle h
  stuck-outcome sources stuck t is_open =
      let vectors = vectors-exist h now.known.straight sources in
      let cycle = cycle-found h vectors.0 vectors.1 now.known.distinct o now.known.operation
      (stuck-cyclic h o now.known.operation left now.state.backward stuck t is_open) in
      (o, cycle.0, cycle.1)

  module _ (ended : (t : ℕ) → ¬ IsOpen left t) where
    pub overwritten-outcome : b.start ≡ true → HasStartOverwrittenInHB h
    overwritten-outcome start =
        let found = state-ended_overwritten h o left now.ops ended (subst (IsSessionState h o left now.ops) start now.state) in
        (o, found.0, found.1, found.2, found.3, found.4, found.5, found.6, found.7)

    pub explained-outcome : ¬ LacksSource h → b.start ≡ false → IsOrderedSession h b.own
    explained-outcome sources start i size =
        let list = state-ended_explained h o left now.ops ended sources now.known.operation (subst (IsSessionState h o left now.ops)
        start now.state) in
        let last : length (session h b.own) - 1 ≡ i = omega arith in
        (now.ops, subst (λ (j : ℕ). IsOrderOfPast h (op b.own j) now.ops) last list)

    no-readers : (n : ℕ) → slice_index_or b.readers.items n 0 ≡ 0
    no-readers n = ⊎_elim
        (λ (inside : n < many h).
        let found = number-found h n inside in
        let test = test-of (ReadsFrom h found.0) (reads_from-decided h found.0) in
        let counted = now.counts.reads_left found.0 found.1 test.0 test.1 in
        let none = left-none (length h.1) test.0 left ended in
        ap (λ (m : ℕ). slice_index_or b.readers.items m 0) (sym found.2) ∙ counted ∙ none)
        (λ (past : many h ≤ n). get_or_past b.readers.items n 0 (let size = now.sizes.readers in omega arith))
        (cases_lt n (many h))

    no-writers : (x : ℕ) → slice_index_or b.writes.items x 0 ≡ 0
    no-writers x =
        let test = test-of (WritesNumber h index.variables x) (writes_number-decided h index.variables x) in
        now.counts.writes_left x test.0 test.1 ∙ left-none (length h.1) test.0 left ended

    -- where nothing is left, nothing is counted or locked
    pub ended-clear : IsClear index b
    ended-clear = record {
      few = now.known.few;
      sizes = now.sizes;
      none = ended;
      zero = record {
        readers = λ n. (let zero_of = no-readers n in omega arith);
        writes = λ x. (let zero_of = no-writers x in omega arith);
      };
      unlocked = ended-unlocked h index.variables now.known.variables o left (λ x. slice_index_or b.locks.items x None) now.locks ended;
    }
