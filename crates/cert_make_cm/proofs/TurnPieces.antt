-- The schedule in which the operations of a session take turns up to one is a schedule of the past of that one.
use Rattle.std.proofs.Common.{◌≡◌, ℕ, suc, ◌+◌, ◌≤◌, List, take, ⊎_elim, arith, sym, subst, ◌∙◌}
use Rattle.std.specs.Prelude.{◌≢◌}
use Rattle.std.proofs.lemmas.Bool.{cases_eq}
use Rattle.model_history.specs.declared.op_id.OpId.{OpId}
use Rattle.model_history.specs.History.{IsOp}
use Rattle.order_memory.proofs.FirstWrites.{CO-from_sources}
use Rattle.order_memory.proofs.HappenedBeforeCounts.{counted-happened, happened-counted, other-happened}
use Rattle.order_memory.proofs.HappenedBeforeLaws.{past-before, past-of_history, HB-causal}
use Rattle.order_memory.proofs.SourceVectors.{before-counted, own-count}
use Rattle.order_memory.specs.HappenedBeforeVectors.{IsHBVectors}
use Rattle.order_memory.specs.Memory.{MemoryHistory, IsDifferentiated}
use Rattle.order_causal.specs.Orders.{StandsAt}
use Rattle.order_memory.specs.Relations.{CO, IsPast, HB}
use Rattle.order_memory.specs.SourceOrder.{CountsSourceOrder}
use Rattle.order_causal.specs.Schedules.{placed}
use Rattle.order_causal.specs.Vectors.{Counts, count}
use Rattle.cert_check.specs.Schedules.{named, StandsBefore, IsSchedule}
use Rattle.cert_check.proofs.Named.{named_is, counted_from_before, before_from_counted}
use Rattle.cert_make.proofs.WalkedSchedules.{next-is}
use Rattle.cert_make_cm.specs.Turns.{AreTurns}
use Rattle.cert_make_cm.proofs.TurnPlaces.{turn-own, turn-other, turns-within}
use Rattle.cert_make_cm.proofs.TurnSchedules.{IsReached, turns-reached}

module _ (h : MemoryHistory) (v : Counts) (order : CountsSourceOrder h v) (distinct : IsDifferentiated h) (o : OpId) (is_op : IsOp h o)
    (now : Counts) (happened : IsHBVectors h o now) (acyclic : (a : OpId) → ¬ HB h o a a)
    (schedule : List ℕ) (turns : AreTurns now o.session (o.index + 1) schedule) where
  reached : (k : ℕ) (b : OpId) → StandsAt (named schedule) k b → IsReached h o now (take k schedule) b.session
  reached k b stands =
      turns-reached h v order distinct o is_op now happened acyclic (o.index + 1) (omega arith) schedule turns k b.session
      (named_is schedule k b stands).0

  -- what stands in the schedule is in the past of the operation
  pub stands-past : (k : ℕ) (b : OpId) → StandsAt (named schedule) k b → IsPast h o b
  stands-past k b stands = subst (λ (x : OpId). IsPast h o x) (next-is schedule k b stands) (reached k b stands).in_past

  -- what is before it in the happened-before relation stands before it
  pub happened-stands : (k : ℕ) (a b : OpId) → StandsAt (named schedule) k b → HB h o a b → StandsBefore (named schedule) k a
  happened-stands k a b stands before =
      let counted = happened-counted h v order distinct o is_op now happened acyclic a b (stands-past k b stands) before in
      let all : count now b a.session ≤ placed (take k schedule) a.session =
      subst (λ (x : OpId). count now x a.session ≤ placed (take k schedule) a.session) (next-is schedule k b stands)
      ((reached k b stands).counted a.session) in
      before_from_counted schedule k a (omega arith)

  -- and before an operation of the session of the operation stands nothing else
  pub stands-happened : (k : ℕ) (a r : OpId) → StandsAt (named schedule) k r → r.session ≡ o.session
      → StandsBefore (named schedule) k a → HB h o a r
  stands-happened k a r stands same before =
      let within = counted_from_before schedule k a before in
      let none : placed (take k schedule) a.session ≤ count now r a.session =
      subst (λ (x : OpId). placed (take k schedule) a.session ≤ count now x a.session) (next-is schedule k r stands)
      ((reached k r stands).exact same a.session) in
      counted-happened h v order distinct o is_op now happened acyclic a r (stands-past k r stands) (omega arith)

  -- what is before it in the causal order stands before it
  pub causal-stands : (k : ℕ) (a b : OpId) → StandsAt (named schedule) k b → CO h a b → StandsBefore (named schedule) k a
  causal-stands k a b stands leads =
      let in_b = stands-past k b stands in
      happened-stands k a b stands (HB-causal h o a b (past-before h o a b leads in_b) in_b leads)

  turns-end : (u : ℕ) → placed schedule u ≡ count v o u
  turns-end u =
      let all : AreTurns now o.session (suc o.index) schedule =
      (let next : o.index + 1 ≡ suc o.index = omega arith in subst (λ (n : ℕ). AreTurns now o.session n schedule) next turns) in
      let begun = turns-within h v order distinct o is_op now happened acyclic o.index (omega arith) all.0 all.1 in
      ⊎_elim
      (λ (same : u ≡ o.session).
      let places = turn-own h v order distinct o is_op now happened acyclic o.index (omega arith) all.0 schedule all.2 begun in
      let own = own-count h v order o is_op in
      let here : placed schedule o.session ≡ count v o o.session = omega arith in
      subst (λ (s : ℕ). placed schedule s ≡ count v o s) (sym same) here)
      (λ (apart : u ≢ o.session).
      turn-other h v order distinct o is_op now happened acyclic o.index (omega arith) all.0 schedule all.2 begun u apart
      ∙ other-happened h v order distinct o is_op now happened acyclic u apart)
      (cases_eq u o.session)

  -- so it is a schedule of the operation
  pub turns-schedule : IsSchedule h v o schedule
  turns-schedule = record {
    existing = λ k a stands. past-of_history h o a is_op (stands-past k a stands);
    after_counted = λ k b a stands counted apart.
        let b_op = past-of_history h o b is_op (stands-past k b stands) in
        causal-stands k a b stands (CO-from_sources h a b (before-counted h v order b a b_op counted apart));
    ends = turns-end;
  }
