use Rattle.std.proofs.Common.{arith, sym, refl, ◌-◌, ◌<◌, length}
use Rattle.std.proofs.lemmas.List.Elements.{Contains-get_or}
use Rattle.order_memory.proofs.Sorted.{once_from_neighbours, other_operation}
use Rattle.order_memory.proofs.differentiation.are_once.Goals as goal

pub returns-then-ne : goal.returns-then-ne
returns-then-ne c =
    let below : c.loop-i.i - 1 < length c.args.writes.now = omega arith in (
      (λ e. absurd cc),
      λ once. absurd (other_operation _ _ (sym c.if-ne.ensures)
          (once _ _ (Contains-get_or _ _ _ below) (Contains-get_or _ _ _ c.loop-i-test.true) c.if-before-after.true c.if-before-after-2.true)),
    )

pub returns : goal.returns
returns c = (
  (λ _. once_from_neighbours c.args.writes.now c.requires (λ k d below. c.loop-i.invariant k d (omega arith))),
  λ _. refl,
)
