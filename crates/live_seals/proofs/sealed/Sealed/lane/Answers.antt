use Rattle.std.proofs.Common.{◌<◌, length, ap, sym, ◌∙◌, subst}
use Rattle.model_history.specs.History.{session}
use Rattle.live_recorder.proofs.Telling.{length_map}
use Rattle.live_cut_plan.proofs.ListPlaces.{read_at}
use Rattle.live_seals.specs.Steps.Tables.{IsSealedSession, names}
use Rattle.live_seals.proofs.sealed.Sealed.lane.Goals as goal

pub returns-clause-session : goal.returns-clause-session
returns-clause-session g c =
    let place : c.args.s < length c.self.inside.lanes.items = subst (λ n. c.args.s < n) (sym (ap (λ v. length v.cells) c.self.view_is) ∙ length_map names c.self.inside.lanes.items) c.requires in
    let at = read_at c.self.inside.lanes.items c.args.s c.index.result.now place c.index.ensures in
    subst (λ v. IsSealedSession g.O.SeqObject.matches (session v.history c.args.s) c.index.result.now) c.self.view_is (c.self.invariant.0.each c.args.s c.index.result.now at)
