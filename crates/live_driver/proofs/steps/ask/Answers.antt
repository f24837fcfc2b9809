use Rattle.std.proofs.Common.{◌≡◌, true, refl, sym, subst}
use Rattle.live_replica.specs.Updates.{calls}
use Rattle.live_driver.proofs.steps.ask.Goals as goal

pub returns-in-Ok-clause-fits : goal.returns-in-Ok-clause-fits
returns-in-Ok-clause-fits g c =
    let old = c.args.replica.now in
    let P : g.row.O-Ret.Denot → Type 0 = λ r. g.O.SeqObject.matches c.args.call r ≡ true in
    subst P (sym (c.in-Ok.ensures.reply (calls old.taken) refl)) (g.met.O.SeqObject.answer_fits old.start (calls old.taken) c.args.call)
