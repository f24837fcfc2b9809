use Rattle.live_case_desk.proofs.TrueCases.{filing_leaves}
use Rattle.live_case_desk.proofs.cases.Cases.file.Goals as goal

pub invariant_of-self : goal.invariant_of-self
invariant_of-self g c =
    filing_leaves g.O.SeqObject.answer g.O.Refutable.passes c.self.inside.board c.file.new.self c.args.token c.args.rows c.file.result
    c.self.invariant c.requires.rows c.file.ensures.filed c.file.ensures.unchanged
