use Rattle.std.proofs.Common.{arith, refl, ◌<◌, ◌≤◌, length}
use Rattle.std.proofs.lemmas.Bool.{both_ways}
use Rattle.order_memory.specs.Relations.{IsEdge}
use Rattle.pattern_check.proofs.Neighbours.{related-at, related-end, related-next}
use Rattle.pattern_check.proofs.routes.is_path.Goals as goal

pub loop-i-preserved : goal.loop-i-preserved
loop-i-preserved g c =
    let some : 0 < c.loop-i.i = omega arith in
    related-next (IsEdge (g.M.KnownMemory.history c.args.h.now)) c.args.ops.now c.loop-i.i _ _ some c.loop-i.invariant (c.if-not-is_edge.ensures.0 refl)

pub returns : goal.returns
returns g c =
    let ended : length c.args.ops.now ≤ c.loop-i.i = omega arith in
    (λ _. related-end (IsEdge (g.M.KnownMemory.history c.args.h.now)) c.args.ops.now c.loop-i.i ended c.loop-i.invariant, λ _. refl)

pub loop-i-init : goal.loop-i-init
loop-i-init g c = λ k a b below at next. absurd (omega arith)

pub returns-then-not-is_edge : goal.returns-then-not-is_edge
returns-then-not-is_edge g c = (
  (λ t. absurd cc),
  λ joined.
      let some : 0 < c.loop-i.i = omega arith in
      absurd (both_ways c.is_edge.result c.if-not-is_edge.true
      (c.is_edge.ensures.1 (related-at (IsEdge (g.M.KnownMemory.history c.args.h.now)) c.args.ops.now c.loop-i.i _ _ some c.loop-i-test.true joined))),
)
