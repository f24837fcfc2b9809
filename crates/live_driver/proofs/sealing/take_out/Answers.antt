use Rattle.std.proofs.Common.{◌≡◌, ◌<◌, length, refl, subst, arith}
use Rattle.std.proofs.lemmas.Option.{slice_get_read}
use Rattle.live_seals.specs.Seals.{IsSealOf, SealState}
use Rattle.live_driver.proofs.Calls.{seals_left}
use Rattle.live_driver.proofs.sealing.take_out.Goals as goal

pub returns-clause-left : goal.returns-clause-left
returns-clause-left g c = seals_left c.args.run.now.lanes.now c.args.taken.now.items c.remove.new.self.items c.args.at c.remove.ensures.items c.requires.seals

pub returns-clause-seal : goal.returns-clause-seal
returns-clause-seal g c =
    let items = c.args.taken.now.items in
    let inside : c.args.at < length items = omega (arith, c.requires.place, c.args.taken.now.ok.0) in
    let P : SealState g.row.O-Start.Denot g.row.O-Call.Denot g.row.O-Ret.Denot → Type 0 = λ x. IsSealOf c.args.run.now.lanes.now x in
    let v = c.result.view_is in
    let e : c.remove.result ≡ c.result.inside.sealed = cc in
    subst P e (c.requires.seals c.args.at c.remove.result (slice_get_read items (length items) c.args.at c.remove.result refl inside c.remove.ensures.value))
