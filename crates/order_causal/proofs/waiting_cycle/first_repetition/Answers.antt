use Rattle.std.proofs.Common.{arith}
use Rattle.std.proofs.lemmas.Option.{slice_get_within}
use Rattle.order_causal.proofs.WaitRoutes.{some-repetition}
use Rattle.order_causal.proofs.waiting_cycle.first_repetition.Goals as goal

pub unreachable-requires : goal.unreachable-requires
unreachable-requires c = some-repetition c.args.ops.now c.args.sessions c.requires.many c.requires.few
    (λ j b at. let inside = slice_get_within c.args.ops.now j b at in c.loop-later.invariant j b (omega arith) at)
