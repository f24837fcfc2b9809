use Rattle.std.proofs.Math.Path.{ap₂}
use Rattle.std.proofs.Common.{◌≡◌, Option, Some, List, ℕ, ◌+◌, inl, inr, ⊎_elim, length, ap, sym, subst, subst₂, arith, ◌∙◌}
use Rattle.model_history.specs.declared.op_id.OpId.{OpId}
use Rattle.model_history.specs.History.{IsOp, session}
use Rattle.order_memory.specs.Memory.{MemoryHistory}
use Rattle.order_memory.specs.declared.happened_before.Saturation.{Saturation}
use Rattle.order_memory.specs.declared.happened_before.Saturation.TheVariants.{Saturated, Cyclic, GivenUp}
use Rattle.order_memory.specs.HappenedBeforeVectors.{IsHBVectors}
use Rattle.order_causal.specs.Orders.{op}
use Rattle.order_memory.specs.Raises.{IsRaisedSince}
use Rattle.order_memory.specs.Relations.{HB}
use Rattle.order_memory.specs.declared.growing_order.Raise.{Raise}
use Rattle.order_memory.specs.Steps.HappenedBefores.{HasFewPairs, Tells, IsOutcome, session_of, taken_of, most_of, raises_of, vectors_of}
use Rattle.order_causal.specs.Vectors.{Counts}
use Rattle.order_causal.proofs.GatheredLaws.{gathered-session, gathered-push, gathered-end}
use Rattle.cert_make_cm.proofs.RisingTurns.{made-rising}
use Rattle.cert_make_cm.proofs.TurnsKept.{AreUnraised, kept-started}
use Rattle.cert_make_cm.specs.ByTurns.{TakesTurns}
use Rattle.cert_make_cm.specs.Steps.Started.{AreRising, AreStarted}
use Rattle.cert_make_cm.specs.Turns.{AreTurns}
use Rattle.cert_make_cm.proofs.by_happened_before.push_schedules.Goals as goal

pub loop-index-init : goal.loop-index-init
loop-index-init c = record {
  so_far = rw c.in_ok-push_session.ensures.ok (gathered-session c.args.order.now (TakesTurns c.args.order.now) c.args.session c.args.schedules.now c.requires.so_far);
  made = c.in_ok-happened.ensures.made;
  session = c.in_ok-happened.ensures.session;
  taken = c.in_ok-happened.ensures.taken;
  most = c.in_ok-happened.ensures.most;
  started = c.new-turns.ensures (vectors_of c.in_ok-happened.happened) c.args.session;
}

pub loop-index-preserved : goal.loop-index-preserved
loop-index-preserved c =
    let h = c.args.order.now in
    let s = c.args.session in
    let i = c.loop-index.index in
    let v = c.vectors.result.now in
    let before = c.loop-index.invariant in
    let taken = c.in_ok-happened-2.ensures in
    let told : Tells c.in_ok-happened-2.happened Saturated = rw c.in-Saturated.is at c.saturation.ensures in
    let is : op (session_of c.loop-index.happened) (taken_of c.loop-index.happened) ≡ op s i = ap₂ op before.session before.taken in
    let turns : TakesTurns h (op s i) c.schedule.result.now = λ distinct.
    let outcome = taken.outcome distinct Saturated told in (
      record {
        vectors = v;
        happened = subst₂ (λ (o : OpId) (now : Counts). IsHBVectors h o now) is (sym c.vectors.ensures) outcome.0;
        turns = subst (λ (xs : List ℕ). AreTurns v s (i + 1) xs) (sym c.schedule.ensures) c.in_ok-go_on.ensures.turns;
      },
      record {
        acyclic = subst (λ (o : OpId). (a : OpId) → ¬ HB h o a a) is outcome.1;
        few = subst₂ (λ (o : OpId) (n : Option ℕ). HasFewPairs h o n) is (taken.most ∙ before.most) (taken.few distinct told.0);
      },
    ) in
    record {
      so_far = rw c.in_ok-push.ensures.ok
          (gathered-push h (TakesTurns h) s i c.loop-index.schedules c.schedule.result.now before.so_far turns);
      made = taken.made;
      session = let same = taken.session in let was = before.session in omega arith;
      taken = let more = taken.taken in let was = before.taken in omega arith;
      most = taken.most ∙ before.most;
      started = subst (λ (w : Counts). AreStarted w s (i + 1) c.go_on.new.self.walk c.go_on.new.self.starts.items) c.vectors.ensures c.in_ok-go_on.ensures;
    }

pub standing-requires-clause-rising : goal.standing-requires-clause-rising
standing-requires-clause-rising c =
    let before = c.loop-index.invariant in
    let taken = c.in_ok-happened-2.ensures in
    let happened = c.in_ok-happened-2.happened in
    let told : Tells happened Saturated = rw c.in-Saturated.is at c.saturation.ensures in
    let more = taken.taken in
    let was = before.taken in
    subst (λ (t : ℕ). AreRising (vectors_of happened) t c.loop-index.index) (taken.session ∙ before.session)
    (made-rising c.args.order.now happened taken.made told.0 c.loop-index.index (omega arith))

pub go_on-requires-clause-started : goal.go_on-requires-clause-started
go_on-requires-clause-started c =
    let s = c.args.session in
    let before = c.loop-index.invariant in
    let turns = c.loop-index.turns in
    let happened = c.in_ok-happened-2.happened in
    let kept = c.keep.new.self in
    let unraised : AreUnraised c.loop-index.happened happened s c.standing.result = λ m p below since.
    c.standing.ensures.unraised m p below
    (subst (λ (es : List Raise). IsRaisedSince (raises_of happened) (length es) p) (sym c.raises-raises.ensures) since) in
    subst (λ (w : Counts). AreStarted w s (length kept.starts.items) kept.walk kept.starts.items) (sym c.vectors.ensures)
    (kept-started c.args.order.now c.loop-index.happened happened before.made c.in_ok-happened-2.ensures s c.standing.result c.loop-index.index
    c.standing.ensures.ordered unraised turns.walk turns.starts.items kept.walk kept.starts.items before.started c.keep.ensures)

pub returns-in-Cyclic : goal.returns-in-Cyclic
returns-in-Cyclic c = record {
  all = λ no. absurd cc;
  none = λ distinct no.
      let h = c.args.order.now in
      let s = c.args.session in
      let i = c.loop-index.index in
      let before = c.loop-index.invariant in
      let after = c.in_ok-happened-2.ensures in
      let happened = c.in_ok-happened-2.happened in
      let test = c.loop-index-test.true in
      let count = c.len-index-end.ensures.count in
      let lengths = ap (λ (g : MemoryHistory). length (session g s)) c.history-h.ensures in
      let is_op : IsOp h (op s i) = (omega arith) in
      let is : op (session_of c.loop-index.happened) (taken_of c.loop-index.happened) ≡ op s i = ap₂ op before.session before.taken in
      let most : most_of happened ≡ Some 100000 = after.most ∙ before.most in
      let outcome : (told : Saturation) → Tells happened told → IsOutcome h (op s i) (Some 100000) (vectors_of happened) told =
      λ told tells. subst₂ (λ (o : OpId) (n : Option ℕ). IsOutcome h o n (vectors_of happened) told) is most (after.outcome distinct told tells) in (
        op s i,
        is_op,
        ⊎_elim
            (λ (cyclic : c.saturation.result ≡ Cyclic). inl (outcome Cyclic (rw cyclic at c.saturation.ensures)).1)
            (λ (given_up : c.saturation.result ≡ GivenUp). inr (outcome GivenUp (rw given_up at c.saturation.ensures)))
            c.in-Cyclic.is,
      );
}

pub returns-clause-all : goal.returns-clause-all
returns-clause-all c all =
    let count = c.len-index-end.ensures.count in
    let up_to = c.loop-index.auto.index-end in
    let test = c.loop-index-test.false in
    let lengths = ap (λ (g : MemoryHistory). length (session g c.args.session)) c.history-h.ensures in
    gathered-end c.args.order.now (TakesTurns c.args.order.now) c.args.session c.loop-index.index c.loop-index.schedules c.loop-index.invariant.so_far (omega arith)

pub take_next-requires-clause-made : goal.take_next-requires-clause-made
take_next-requires-clause-made c = c.loop-index.invariant.made

pub take_next-requires-clause-next : goal.take_next-requires-clause-next
take_next-requires-clause-next c =
    let below = c.loop-index-test.true in
    let count = c.len-index-end.ensures.count in
    rw (c.loop-index.invariant.taken, c.loop-index.invariant.session, ← c.history-h.ensures) (omega arith)

pub standing-requires-clause-inside : goal.standing-requires-clause-inside
standing-requires-clause-inside c = let below = c.loop-index-test.true in let count = c.len-index-end.ensures.count in omega arith

pub go_on-requires-clause-few : goal.go_on-requires-clause-few
go_on-requires-clause-few c = rw c.history-h.ensures c.requires.few

pub go_on-requires-clause-short : goal.go_on-requires-clause-short
go_on-requires-clause-short c = let count = c.len-index-end.ensures.count in let short = c.len-index-end.ensures.short in omega arith

pub go_on-requires-clause-inside : goal.go_on-requires-clause-inside
go_on-requires-clause-inside c = let below = c.loop-index-test.true in let count = c.len-index-end.ensures.count in omega arith

pub returns-clause-none : goal.returns-clause-none
returns-clause-none c = λ distinct no. absurd cc

pub standing-requires-clause-vectors : goal.standing-requires-clause-vectors
standing-requires-clause-vectors c = rw c.history-h.ensures c.in_ok-happened-2.ensures.made.well_formed.order.counts

pub go_on-requires-clause-vectors : goal.go_on-requires-clause-vectors
go_on-requires-clause-vectors c = rw (c.history-h.ensures, c.vectors.ensures) c.in_ok-happened-2.ensures.made.well_formed.order.counts
