use Rattle.std.specs.Prelude.{◌≡◌, length}
use Rattle.std.proofs.Common.{arith, sym, subst}
use Rattle.judge_memory.specs.Placements.{IsPlacement}
use Rattle.judge_memory.proofs.Placings.{placement-first}
use Rattle.judge_memory.proofs.rounds.Placement.empty.Goals as goal

pub returns : goal.returns
returns c edges =
    let count : length c.loop-session.next.items ≡ length c.args.index.now.history.1 = grind arith in
    subst (IsPlacement c.args.index.now.history edges c.loop-session.next.items) (sym c.in_ok-order.ensures.items)
    (placement-first c.args.index.now.history edges c.loop-session.next.items count
    (λ t below. c.loop-session.invariant.starts t (grind arith)))
