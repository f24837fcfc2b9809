use Rattle.std.proofs.Common.{ℕ, List, length, get_or, sym, ap, subst, arith, ◌∙◌}
use Rattle.std.proofs.lemmas.List.{length-replicate}
use Rattle.order_causal.specs.Steps.Waiting.{AreZeros}
use Rattle.order_causal.proofs.GatheredLaws.{gathered-session, gathered-push, gathered-end}
use Rattle.order_causal.proofs.OwnVectors.{zeros-at}
use Rattle.order_causal.proofs.waits.push_zeros.Goals as goal

pub loop-index-init : goal.loop-index-init
loop-index-init g c =
    rw c.in_ok-push_session.ensures.ok
    (gathered-session c.args.h.now (λ _. AreZeros (length c.args.h.now.1)) c.args.session c.args.counts.now c.requires.so_far)

pub push-requires : goal.push-requires
push-requires g c = let sessions = c.loop-index.invariant.sessions in omega arith

pub loop-index-preserved : goal.loop-index-preserved
loop-index-preserved g c =
    let n = length c.args.h.now.1 in
    let zeros = c.in_ok-zeros.ensures.items_if_clones_equal (λ y same. same) in
    let row : AreZeros n c.in_ok-zeros.zeros.items = record {
      size = ap (λ (xs : List ℕ). length xs) zeros ∙ length-replicate c.sessions.result 0 ∙ c.sessions.ensures.count;
      zero = λ s. ap (λ (xs : List ℕ). get_or xs s 0) zeros ∙ zeros-at c.sessions.result s;
    } in
    rw c.in_ok-push.ensures.ok
    (gathered-push c.args.h.now (λ _. AreZeros n) c.args.session c.loop-index._index c.loop-index.counts c.deref.result.now c.loop-index.invariant
    (subst (λ (xs : List ℕ). AreZeros n xs) (sym c.deref.ensures.value) row))

pub returns-clause-so_far : goal.returns-clause-so_far
returns-clause-so_far g c =
    gathered-end c.args.h.now (λ _. AreZeros (length c.args.h.now.1)) c.args.session c.loop-index._index c.loop-index.counts c.loop-index.invariant
    (omega arith)
