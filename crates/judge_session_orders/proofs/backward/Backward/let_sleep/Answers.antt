use Rattle.std.specs.Prelude.{◌-◌, ◌<◌, ℕ, List, length}
use Rattle.std.proofs.Common.{arith, refl, sym, subst}
use Rattle.std.proofs.lemmas.List.{get_or_read}
use Rattle.std.proofs.lemmas.Option.{slice_get_read}
use Rattle.judge_session_orders.proofs.Awake.{awake-exists, awake-without}
use Rattle.judge_session_orders.proofs.backward.Backward.let_sleep.Goals as goal

pub is_asleep-requires-clause-exists : goal.is_asleep-requires-clause-exists
is_asleep-requires-clause-exists c =
    let bound = c.loop-place.invariant.bound in
    let list : List ℕ = c.loop-place.awake.items in
    let place : ℕ = c.loop-place.place - 1 in
    let inside : place < length list = grind arith in
    subst (λ (n : ℕ). n < length c.args.index.now.history.1) (sym (get_or_read list place c.index.result.now inside c.index.ensures 0))
    (awake-exists c.args.index.now c.args.self.now list c.loop-place.invariant.awake place inside)

pub loop-place-preserved-then-is_asleep : goal.loop-place-preserved-then-is_asleep
loop-place-preserved-then-is_asleep c =
    let bound = c.loop-place.invariant.bound in
    let list : List ℕ = c.loop-place.awake.items in
    let place : ℕ = c.loop-place.place - 1 in
    let inside : place < length list = grind arith in
    record {
      bound = (let size = c.take_out.ensures.size in omega arith);
      awake = awake-without c.args.index.now c.args.self.now list c.loop-place.invariant.awake place c.index.result.now
          (slice_get_read list (length list) place c.index.result.now refl inside c.index.ensures) (c.is_asleep.ensures c.if-is_asleep.true)
          c.take_out.new.list.items c.take_out.ensures;
    }
