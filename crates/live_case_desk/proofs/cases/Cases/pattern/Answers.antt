use Rattle.std.proofs.Common.{subst, sym}
use Rattle.live_case_desk.proofs.TrueCases.{Agrees}
use Rattle.live_case_desk.proofs.TrueAnswers.{patterns_by}
use Rattle.live_case_desk.proofs.cases.Cases.pattern.Goals as goal

pub returns-clause-passes : goal.returns-clause-passes
returns-clause-passes g c =
    patterns_by g.O.SeqObject.answer g.O.Refutable.passes c.self.inside.board c.args.ticket.now c.index.result c.token.result.now c.pattern.result
    c.index.ensures c.token.ensures c.self.invariant (subst (λ b. Agrees b c.args.ticket.now) (sym c.self.view_is) c.agree.ensures) c.pattern.ensures.accepted c.pattern.ensures.pattern
