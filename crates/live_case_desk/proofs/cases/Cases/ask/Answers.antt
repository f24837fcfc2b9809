use Rattle.std.proofs.Common.{subst, sym}
use Rattle.live_case_desk.proofs.TrueCases.{Agrees}
use Rattle.live_case_desk.proofs.TrueAnswers.{asked_by}
use Rattle.live_case_desk.proofs.cases.Cases.ask.Goals as goal

pub returns-clause-truth : goal.returns-clause-truth
returns-clause-truth g c =
    asked_by g.O.SeqObject.answer g.O.Refutable.passes c.self.inside.board c.args.ticket.now c.index.result c.token.result.now c.ask.result
    c.index.ensures c.token.ensures c.self.invariant (subst (λ b. Agrees b c.args.ticket.now) (sym c.self.view_is) c.agree.ensures) c.ask.ensures.accepted c.ask.ensures.standing
