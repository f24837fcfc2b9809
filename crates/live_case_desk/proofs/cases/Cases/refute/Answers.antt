use Rattle.std.proofs.Common.{subst, sym}
use Rattle.live_case_desk.proofs.TrueCases.{Agrees, refuting_by}
use Rattle.live_case_desk.proofs.cases.Cases.refute.Goals as goal

pub invariant_of-self : goal.invariant_of-self
invariant_of-self g c =
    refuting_by g.O.SeqObject.answer g.O.Refutable.passes c.self.inside.board c.refute.new.self c.args.ticket.now c.args.pattern c.index.result
    c.token.result.now c.refute.result c.index.ensures c.token.ensures c.self.invariant (subst (λ b. Agrees b c.args.ticket.now) (sym c.self.view_is) c.agree.ensures) c.requires.passes
    c.refute.ensures.accepted c.refute.ensures.refuted c.refute.ensures.unchanged
