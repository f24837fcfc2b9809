use Rattle.std.proofs.Common.{◌≡◌, take, ◌∙◌, sym}
use Rattle.std.specs.Prelude.{filter}
use Rattle.std.proofs.lemmas.Option.{MatchOption-at_some}
use Rattle.model_history.specs.History.{calls}
use Rattle.cert_check.specs.Certificates.{counted}
use Rattle.cert_check.specs.Schedules.{named}
use Rattle.cert_check.specs.Steps.Replays.{considered}
use Rattle.cert_check.proofs.ConsideredCalls.{answered_alike, dropped}
use Rattle.cert_check.proofs.considered.is_answered_back_to.Goals as goal

pub returns-clause-exact : goal.returns-clause-exact
returns-clause-exact g c =
    let answer = g.O.SeqObject.answer in
    let h = c.args.h.now in
    let o = c.args.op in
    let asked = c.call-asked.result in
    let ops = filter (counted c.args.v.now c.args.of) (take c.args.place (named c.args.list.now)) in
    let before = c.in-Some.before.items in
    let found = MatchOption-at_some _ (λ vec. answer h.0 vec.items asked ≡ answer h.0 (considered g.O.SeqObject.depends h c.args.v.now c.args.of asked (take c.args.place (named c.args.list.now))) asked)
    c.in-Some.before c.in-Some.is c.in_ok-before.ensures.found in
    let same = found ∙ dropped answer g.O.SeqObject.depends g.met.O.SeqObject.others_change_nothing h.0 asked (calls h ops) in
    let answered = rw (c.deref.ensures.value) at c.in_ok-yes.ensures in (
      (λ t. answered_alike answer h o asked c.call-asked.ensures (calls h ops) before (sym same) (answered.0 t)),
      λ known. answered.1 (answered_alike answer h o asked c.call-asked.ensures before (calls h ops) same known),
    )
