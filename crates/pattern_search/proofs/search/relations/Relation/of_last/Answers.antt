use Rattle.std.proofs.Math.Path.{ap₂}
use Rattle.std.proofs.Common.{◌≡◌, ℕ, ◌+◌, ◌-◌, ◌≤◌, Option, length, ⊎_elim, arith, refl, sym, ap, subst, subst₂, ◌∙◌, inl}
use Rattle.model_history.specs.declared.op_id.OpId.{OpId}
use Rattle.model_history.specs.History.{IsOp, session}
use Rattle.order_memory.specs.Memory.{MemoryHistory}
use Rattle.order_memory.specs.declared.happened_before.Saturation.TheVariants.{Saturated, Cyclic, GivenUp}
use Rattle.order_memory.specs.HappenedBeforeVectors.{IsHBVectors}
use Rattle.order_memory.specs.Raises.{AreRightRaises}
use Rattle.order_causal.specs.Orders.{op}
use Rattle.order_memory.specs.Steps.GrowthSteps.{IsGivenUp}
use Rattle.order_memory.specs.Steps.HappenedBefores.{HasFewPairs, HasMorePairs, IsOutcome, most_of, raises_of, session_of, taken_of, vectors_of}
use Rattle.pattern_search.proofs.SearchedLaws.{given-up}
use Rattle.pattern_search.proofs.search.relations.Relation.of_last.Goals as goal

pub returns-in-GivenUp : goal.returns-in-GivenUp
returns-in-GivenUp c =
    let h = c.args.order.now in
    let s = c.args.session in
    let i = c.loop-index.index in
    let before = c.loop-index.invariant in
    let after = c.in_ok-happened-2.ensures in
    let happened = c.in_ok-happened-2.happened in
    let test = c.loop-index-test.true in
    let count = c.len-operations.ensures.count in
    let lengths = ap (λ (g : MemoryHistory). length (session g s)) c.history.ensures in
    let is_op : IsOp h (op s i) = omega arith in
    let is : op (session_of c.loop-index.happened) (taken_of c.loop-index.happened) ≡ op s i = ap₂ op before.session before.taken in
    let most : most_of happened ≡ c.args.most = after.most ∙ before.most in
    let outcome : IsOutcome h (op s i) c.args.most (vectors_of happened) GivenUp =
    subst₂ (λ (o : OpId) (n : Option ℕ). IsOutcome h o n (vectors_of happened) GivenUp) is most
    (after.outcome c.requires.distinct GivenUp (rw c.in-GivenUp.is at c.saturation.ensures)) in
    given-up h c.requires.distinct s i is_op c.args.most outcome

pub loop-index-preserved : goal.loop-index-preserved
loop-index-preserved c =
    let h = c.args.order.now in
    let s = c.args.session in
    let i = c.loop-index.index in
    let before = c.loop-index.invariant in
    let after = c.in_ok-happened-2.ensures in
    let happened = c.in_ok-happened-2.happened in
    let is : op (session_of c.loop-index.happened) (taken_of c.loop-index.happened) ≡ op s i = ap₂ op before.session before.taken in
    let exact : IsHBVectors h (op (session_of c.loop-index.happened) (taken_of c.loop-index.happened)) (vectors_of happened) =
    ⊎_elim
    (λ (saturated : c.saturation.result ≡ Saturated). (after.outcome c.requires.distinct Saturated (rw saturated at c.saturation.ensures)).0)
    (λ (cyclic : c.saturation.result ≡ Cyclic). (after.outcome c.requires.distinct Cyclic (rw cyclic at c.saturation.ensures)).0)
    c.in-Saturated.is in
    let kept : ¬ IsGivenUp happened.order =
    ⊎_elim
    (λ (saturated : c.saturation.result ≡ Saturated). (rw saturated at c.saturation.ensures).0)
    (λ (cyclic : c.saturation.result ≡ Cyclic). (rw cyclic at c.saturation.ensures).0)
    c.in-Saturated.is in
    record {
      made = after.made;
      session = after.session ∙ before.session;
      taken = let more = after.taken in let was = before.taken in omega arith;
      most = after.most ∙ before.most;
      exact = λ n next.
          let here : op s i ≡ op s n = ap (λ (j : ℕ). op s j) (omega arith) in
          subst (λ (o : OpId). IsHBVectors h o (vectors_of happened)) (is ∙ here) exact;
      few = λ n next.
          let here : op s i ≡ op s n = ap (λ (j : ℕ). op s j) (omega arith) in
          subst₂ (λ (o : OpId) (m : Option ℕ). HasFewPairs h o m) (is ∙ here) (after.most ∙ before.most) (after.few c.requires.distinct kept);
      more = λ n next k below.
          let here : op s i ≡ op s n = ap (λ (j : ℕ). op s j) (omega arith) in
          subst (λ (o : OpId). HasMorePairs h o k) (is ∙ here) (after.raised c.requires.distinct k below);
    }

pub returns : goal.returns
returns c =
    let h = c.args.order.now in
    let s = c.args.session in
    let i = c.loop-index.index in
    let some = c.if-operations-eq0.false in
    let count = c.len-operations.ensures.count in
    let up_to = c.loop-index.auto.index-end in
    let ended = c.loop-index-test.false in
    let lengths = ap (λ (g : MemoryHistory). length (session g s)) c.history.ensures in
    let happened = c.loop-index.happened in
    let before = c.loop-index.invariant in
    let made = before.made in
    let last : ℕ = c.len-operations.result - 1 in
    let is_op : IsOp h (op s last) = omega arith in
    let same : session_of happened ≡ s = before.session in
    let is_here : IsOp h (op (session_of happened) last) = subst (λ (t : ℕ). IsOp h (op t last)) (sym same) is_op in
    let taken : taken_of happened ≤ last + 1 = (let is = before.taken in omega arith) in
    rw c.at-op.ensures (record {
      made = record {
        relation_of = record {
          is_op = is_op;
          causal = made.causal;
          order = made.counts;
          counts = before.exact last (omega arith);
          strict = made.strict;
          begun = made.begun;
          raises = subst (λ (t : ℕ). AreRightRaises h (op t last) made.strict (raises_of happened)) same (made.right last is_here taken);
          reached = made.reached;
          more = before.more last (omega arith);
        };
        of_session = refl;
        last = omega arith;
      };
      few = before.few last (omega arith);
    })

pub loop-index-init : goal.loop-index-init
loop-index-init c = record {
  made = c.in_ok-happened.ensures.made;
  session = c.in_ok-happened.ensures.session;
  taken = c.in_ok-happened.ensures.taken;
  most = c.in_ok-happened.ensures.most;
  exact = λ n next. absurd (omega arith);
  few = λ n next. absurd (omega arith);
  more = λ n next k below. absurd (omega arith);
}

pub take_next-requires-clause-made : goal.take_next-requires-clause-made
take_next-requires-clause-made c = c.loop-index.invariant.made

pub take_next-requires-clause-next : goal.take_next-requires-clause-next
take_next-requires-clause-next c =
    let count = c.len-operations.ensures.count in
    let lengths = ap (λ (g : MemoryHistory). length (session g c.args.session)) c.history.ensures in
    let test = c.loop-index-test.true in
    rw (c.loop-index.invariant.taken, c.loop-index.invariant.session) (omega arith)

pub returns-then-operations-eq0 : goal.returns-then-operations-eq0
returns-then-operations-eq0 c =
    let count = c.len-operations.ensures.count in
    let lengths = ap (λ (g : MemoryHistory). length (session g c.args.session)) c.history.ensures in
    let none = c.if-operations-eq0.true in
    inl (omega arith)
