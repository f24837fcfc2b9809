-- How much is placed when the operations of a session take turns with what is before each in its happened-before relation.
use Rattle.std.proofs.Common.{◌≡◌, ℕ, zero, suc, ◌+◌, ◌<◌, ◌≤◌, List, ⊎_elim, arith, refl, sym, ap, subst}
use Rattle.std.specs.Prelude.{◌≢◌}
use Rattle.std.proofs.lemmas.Bool.{cases_eq}
use Rattle.model_history.specs.declared.op_id.OpId.{OpId}
use Rattle.model_history.specs.History.{IsOp}
use Rattle.order_causal.proofs.FullWalks.{walk-within, full-walk_reaches}
use Rattle.order_memory.proofs.HappenedBeforeCounts.{counted-happened, happened-counted, counted-in_past, own-happened, happened-within}
use Rattle.order_memory.proofs.HappenedBeforeLaws.{program_past-from, past-program, past-of_history, HB-transitive}
use Rattle.order_memory.proofs.SourcedLaws.{listed-op}
use Rattle.order_causal.proofs.TopologicalLaws.{placed-same}
use Rattle.order_causal.proofs.Walked.{placed-other}
use Rattle.order_memory.specs.HappenedBeforeVectors.{IsHBVectors}
use Rattle.order_memory.specs.Memory.{MemoryHistory, IsDifferentiated}
use Rattle.order_causal.specs.Orders.{op}
use Rattle.order_memory.specs.Relations.{IsPast, HB}
use Rattle.order_memory.specs.SourceOrder.{CountsSourceOrder}
use Rattle.order_causal.specs.Schedules.{placed, next_of}
use Rattle.order_causal.specs.Vectors.{Counts, count, list_of}
use Rattle.cert_make_cm.specs.Turns.{IsTurn, AreTurns}

module _ (h : MemoryHistory) (v : Counts) (order : CountsSourceOrder h v) (distinct : IsDifferentiated h) (o : OpId) (is_op : IsOp h o)
    (now : Counts) (happened : IsHBVectors h o now) (acyclic : (a : OpId) → ¬ HB h o a a) where
  -- the operations that take turns are in the past of the operation
  pub turn-past : (m : ℕ) → m ≤ o.index → IsPast h o (op o.session m)
  turn-past m up_to = past-program h o (op o.session m) is_op (program_past-from o (op o.session m) refl up_to)

  module _ (m : ℕ) (up_to : m ≤ o.index) (before whole : List ℕ) (turn : IsTurn now o.session m before whole)
      (begun : (u : ℕ) → placed before u ≤ count now (op o.session m) u) where
    open-past : (u : ℕ) → placed turn.counted u < count now (op o.session m) u → IsPast h o (next_of turn.counted u)
    open-past u open_u =
        counted-in_past h v order distinct o is_op now happened acyclic (next_of turn.counted u) (op o.session m)
        (turn-past m up_to) open_u

    -- before a turn just what its operation counts is placed
    pub turn-counted : (u : ℕ) → placed turn.counted u ≡ count now (op o.session m) u
    turn-counted u =
        let q : OpId = op o.session m in
        let in_q : IsPast h o q = turn-past m up_to in
        let most = walk-within now (list_of now q) before turn.counted turn.walk.walk u in
        let start = begun u in
        let least = full-walk_reaches now (list_of now q) before turn.counted turn.walk (HB h o) acyclic (HB-transitive h o)
        (λ s open_s.
        let b : OpId = next_of turn.counted s in
        listed-op h now happened.held.vectors b (past-of_history h o b is_op (open-past s open_s)))
        (λ s t open_s apart missing.
        let a : OpId = next_of turn.counted t in
        let b : OpId = next_of turn.counted s in
        let earlier = counted-happened h v order distinct o is_op now happened acyclic a b (open-past s open_s) missing in
        let later = counted-happened h v order distinct o is_op now happened acyclic b q in_q open_s in
        (happened-counted h v order distinct o is_op now happened acyclic a q in_q (HB-transitive h o a b q earlier later), earlier)) u in
        omega arith

    -- behind it of its session one more is
    pub turn-own : placed whole o.session ≡ m + 1
    turn-own =
        let own = own-happened h v order distinct o is_op now happened acyclic (op o.session m) (turn-past m up_to) in
        let places = turn-counted o.session in
        let more = placed-same turn.counted o.session in
        subst (λ (xs : List ℕ). placed xs o.session ≡ m + 1) (sym turn.last) (omega arith)

    pub turn-other : (u : ℕ) → u ≢ o.session → placed whole u ≡ count now (op o.session m) u
    turn-other u apart =
        let places = turn-counted u in
        let same = placed-other turn.counted o.session u apart in
        subst (λ (xs : List ℕ). placed xs u ≡ count now (op o.session m) u) (sym turn.last) (omega arith)

    -- and no more than the operation behind it in its session counts
    turn-within : (n : ℕ) → n ≡ m + 1 → n ≤ o.index → (u : ℕ) → placed whole u ≤ count now (op o.session n) u
    turn-within n next inside u =
        let in_n : IsPast h o (op o.session n) = turn-past n inside in
        let own = own-happened h v order distinct o is_op now happened acyclic (op o.session n) in_n in
        ⊎_elim
        (λ (same : u ≡ o.session).
        let places = turn-own in
        subst (λ (s : ℕ). placed whole s ≤ count now (op o.session n) s) (sym same) (omega arith))
        (λ (apart : u ≢ o.session).
        let places = turn-other u apart in
        let within = happened-within h v order distinct o is_op now happened acyclic (op o.session n) (op o.session m) in_n
        (omega arith) u in
        omega arith)
        (cases_eq u o.session)

  -- what is placed behind some turns is counted by the operation whose turn is next
  pub turns-within : (n : ℕ) → n ≤ o.index → (schedule : List ℕ) → AreTurns now o.session n schedule
      → (u : ℕ) → placed schedule u ≤ count now (op o.session n) u
  turns-within zero up_to schedule none u = subst (λ (xs : List ℕ). placed xs u ≤ count now (op o.session zero) u) (sym none) (omega arith)
  turns-within (suc n) up_to schedule (before, earlier, turn) u =
      turn-within n (omega arith) before schedule turn (turns-within n (omega arith) before earlier) (suc n) (omega arith) up_to u

  -- of its session as many are placed as have taken turns
  pub turns-own : (n : ℕ) → n ≤ o.index + 1 → (schedule : List ℕ) → AreTurns now o.session n schedule → placed schedule o.session ≡ n
  turns-own zero up_to schedule none = ap (λ (xs : List ℕ). placed xs o.session) none
  turns-own (suc n) up_to schedule (before, earlier, turn) =
      let own = turn-own n (omega arith) before schedule turn (turns-within n (omega arith) before earlier) in omega arith
