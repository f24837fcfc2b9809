use Rattle.std.proofs.Common.{◌∙◌, ap, subst, sym}
use Rattle.live_case_desk.specs.Files.{file_at}
use Rattle.live_case_desk.proofs.TrueCases.{putting_by, Agrees}
use Rattle.live_case_desk.proofs.cases.Cases.put.Goals as goal

pub invariant_of-self : goal.invariant_of-self
invariant_of-self g c =
    let same = c.ticket-ticket.ensures in
    let agree : Agrees c.self.inside.board c.args.verdict.now.case_of =
    subst (λ b. Agrees b c.args.verdict.now.case_of) (sym c.self.view_is) (subst (λ t. Agrees c.args.self.now t) same c.agree.ensures) in
    putting_by g.O.SeqObject.answer g.O.Refutable.passes c.self.inside.board c.put.new.self c.args.verdict.now c.index.result c.token.result.now
    c.op.result c.outcome.result c.put.result (c.index.ensures ∙ ap (λ t. t.number) same) (c.token.ensures ∙ ap file_at same) c.op.ensures.op
    c.outcome.ensures.outcome c.self.invariant agree c.outcome.ensures.truth c.put.ensures.accepted c.put.ensures.filled c.put.ensures.unchanged
