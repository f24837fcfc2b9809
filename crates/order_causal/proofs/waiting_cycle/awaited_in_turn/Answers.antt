use Rattle.std.proofs.Common.{ℕ, arith, sym, subst, refl}
use Rattle.std.proofs.lemmas.List.{length_push}
use Rattle.order_causal.specs.Schedules.{next_of}
use Rattle.order_causal.specs.Waits.{IsAwaited}
use Rattle.order_causal.proofs.WaitRoutes.{chain-none, chain-push, unplaced-open, last-pushed}
use Rattle.order_causal.proofs.waiting_cycle.awaited_in_turn.Goals as goal

pub loop-session-init : goal.loop-session-init
loop-session-init c = rw c.new-chain.ensures.items (record {
  chain = chain-none c.args.waits.now c.args.walk.now;
  count = refl;
  is_open = c.requires.is_open;
  last = λ j a next at. absurd (omega arith);
})

pub loop-session-preserved : goal.loop-session-preserved
loop-session-preserved c =
    let inv = c.loop-session.invariant in
    let op = c.awaited-op.result in
    let more = length_push c.loop-session.chain.items op in
    rw c.in_ok-push.ensures.items (record {
      chain = chain-push c.args.waits.now c.args.walk.now c.loop-session.chain.items op inv.chain c.awaited-op.ensures.unplaced
          (λ a j next at. subst (λ (s : ℕ). IsAwaited c.args.waits.now (next_of c.args.walk.now s) op) (sym (inv.last j a next at)) c.awaited-op.ensures.awaited);
      count = let count = inv.count in omega arith;
      is_open = rw c.session_place-last.ensures (unplaced-open c.args.waits.now c.args.walk.now op c.awaited-op.ensures.unplaced);
      last = λ j a next at. rw c.session_place-last.ensures (last-pushed c.loop-session.chain.items op j a next at);
    })
