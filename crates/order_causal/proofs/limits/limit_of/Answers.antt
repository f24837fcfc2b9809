use Rattle.std.proofs.Common.{List, ℕ, length, ap, arith}
use Rattle.model_history.specs.declared.op_id.OpId.{OpId}
use Rattle.order_causal.specs.Orders.{op}
use Rattle.order_causal.specs.Vectors.{list_of}
use Rattle.order_causal.proofs.limits.limit_of.Goals as goal

pub offset_bounds-get-session : goal.offset_bounds-get-session
offset_bounds-get-session c =
    let size = c.requires.waits.square (op c.args.session c.loop-index.index) (omega arith) in
    let read = ap (λ (xs : List ℕ). length xs) c.get.ensures in
    let same = ap (λ (o : OpId). length (list_of c.args.waits.now o)) c.at-op.ensures in
    omega arith

pub bounds-get-session : goal.bounds-get-session
bounds-get-session c =
    let size = c.requires.waits.square (op c.args.session c.loop-index.index) (omega arith) in
    let read = ap (λ (xs : List ℕ). length xs) c.get.ensures in
    let same = ap (λ (o : OpId). length (list_of c.args.waits.now o)) c.at-op.ensures in
    omega arith
