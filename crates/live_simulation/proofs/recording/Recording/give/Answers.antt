use Rattle.std.proofs.Common.{◌≡◌, ap, subst, sym, ◌∙◌, slice_get}
use Rattle.std.specs.Prelude.{Some}
use Rattle.std.proofs.lemmas.Option.{get_or_from_slice_get}
use Rattle.live_cut_plan.specs.Walks.{Stands}
use Rattle.live_simulation.specs.Steps.Recordings.{with_look}
use Rattle.live_simulation.proofs.recording.Recording.give.Goals as goal

pub returns : goal.returns
returns g c = λ st at.
    let here = subst (λ w. slice_get w.plans c.args.z ≡ Some st) (sym c.self.view_is) at in
    let same = sym (get_or_from_slice_get c.self.inside.plans.items c.args.z st c.index_mut.result.now here) ∙ sym c.index_mut.ensures.value in
    (c.give.new.self, ap (λ w. with_look w c.args.z c.give.new.self) c.self.view_is, λ p stands. c.give.ensures.rule p (subst (λ x. Stands x p) same stands))
