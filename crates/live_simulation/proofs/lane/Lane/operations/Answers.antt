use Rattle.std.proofs.Common.{rules, ◌≡◌, ◌<◌, length, take, slice_get, subst}
use Rattle.std.specs.Prelude.{Some}
use Rattle.live_cut_plan.proofs.ListPlaces.{read_at}
use Rattle.live_simulation.proofs.Kept.{operations_pushed}
use Rattle.live_simulation.proofs.lane.Lane.operations.Goals as goal

pub loop-i-preserved : goal.loop-i-preserved
loop-i-preserved g c =
    let within : c.loop-i.i < length c.self.inside.calls.items = search rules in
    operations_pushed c.args.self.now.0 (take c.args.returns c.args.self.now.1) c.loop-i.i c.index.result.now c.return_at.result c.loop-i.ops.items c.push.new.self.items
    (subst (λ lane. slice_get lane.0 c.loop-i.i ≡ Some c.index.result.now) c.self.view_is (read_at c.self.inside.calls.items c.loop-i.i c.index.result.now within c.index.ensures))
    c.return_at.ensures c.loop-i.invariant c.in_ok-push.ensures.items
