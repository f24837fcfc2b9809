use Rattle.std.proofs.Common.{ap, arith, length}
use Rattle.model_history.specs.declared.op_id.OpId.{OpId}
use Rattle.model_history.specs.History.{IsOp}
use Rattle.order_causal.specs.Orders.{op}
use Rattle.order_causal.specs.Vectors.{list_of}
use Rattle.order_memory.proofs.HeldItems.{held-item, listed-held}
use Rattle.order_memory.proofs.StrictVectors.{strict-next, strict-session}
use Rattle.order_memory.proofs.strict.leave_out_own.Goals as goal

pub set-requires-clause-listed : goal.set-requires-clause-listed
set-requires-clause-listed c =
    let is_op : IsOp c.args.h.now (op c.args.session c.loop-index.index) = omega arith in
    rw c.at-op.ensures (listed-held c.args.h.now c.loop-index.strict c.loop-index.invariant.held (op c.args.session c.loop-index.index) is_op c.args.session c.loop-index.index c.requires.exists)

pub set-requires-clause-inside : goal.set-requires-clause-inside
set-requires-clause-inside c =
    let is_op : IsOp c.args.h.now (op c.args.session c.loop-index.index) = omega arith in
    let size = c.loop-index.invariant.held.vectors.counts (op c.args.session c.loop-index.index) is_op in
    let exists = c.requires.exists in
    let at = ap (λ (o : OpId). length (list_of c.loop-index.strict o)) c.at-op.ensures in
    omega arith

pub loop-index-preserved : goal.loop-index-preserved
loop-index-preserved c =
    let h = c.args.h.now in
    let s = c.args.session in
    let i = c.loop-index.index in
    let before = c.loop-index.invariant in
    let is_op : IsOp h (op s i) = omega arith in
    rw (c.set.ensures, c.at-op.ensures) (record {
      held = held-item h c.loop-index.strict before.held (op s i) is_op s i c.requires.exists (omega arith);
      strict = λ v begun. strict-next h v c.loop-index.strict s i before.held is_op c.requires.exists (before.strict v begun);
    })

pub returns-clause-strict : goal.returns-clause-strict
returns-clause-strict c = λ v begun.
    let ended = c.loop-index-test.false in
    let count = c.len-index-end.ensures.count in
    strict-session c.args.h.now v c.loop-index.strict c.args.session c.loop-index.index (omega arith) (c.loop-index.invariant.strict v begun)
