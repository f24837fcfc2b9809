use Rattle.std.proofs.Common.{subst}
use Rattle.live_simulation.specs.Steps.KeptCases.{IsRefusal}
use Rattle.live_simulation.proofs.RefuteSteps.{refute_refused, refute_kept}
use Rattle.std.specs.Prelude.{slice_get}
use Rattle.live_simulation.proofs.cases.Cases.refute.Goals as goal

pub returns-in-Some : goal.returns-in-Some
returns-in-Some g c =
    refute_refused g.O.SeqObject.answer g.O.Refutable.passes c.args.self.now c.args.c c.args.pattern.now c.in-Some.refusal
    (subst (IsRefusal g.O.Refutable.passes c.args.pattern.now (slice_get c.args.self.now.files c.args.c)) c.in-Some.is c.in_ok-why.ensures)

pub returns-in_ok-kept-in-None : goal.returns-in_ok-kept-in-None
returns-in_ok-kept-in-None g c =
    refute_kept g.O.SeqObject.answer g.O.Refutable.passes c.args.self.now c.args.c c.args.pattern.now c.keep.new.self c.in_ok-kept-in-None.kept c.in_ok-kept-in-None.ensures
    (subst (IsRefusal g.O.Refutable.passes c.args.pattern.now (slice_get c.args.self.now.files c.args.c)) c.in-None.is c.in_ok-why.ensures) c.keep.ensures
