use Rattle.std.proofs.Common.{refl, sym, subst}
use Rattle.std.specs.Prelude.{◌≡◌, IsSomeAnd}
use Rattle.cert_check.specs.Certificates.{IsExplainedThroughout}
use Rattle.app_judging.proofs.JudgedLaws.{made-case_file}
use Rattle.app_judging.proofs.making.made_file.Goals as goal

pub returns-in_err-file-clause-error : goal.returns-in_err-file-clause-error
returns-in_err-file-clause-error g c =
    absurd (c.in_err-file.ensures.refused.1
    (made-case_file c.args.h c.args.criterion c.in_ok-made.made c.in_ok-made.ensures.criterion c.in_ok-made.ensures.shape))

pub returns-clause-file : goal.returns-clause-file
returns-clause-file g c =
    subst (λ f. f ≡ (c.args.h, c.args.criterion, f.2)) (sym c.in_ok-file.ensures.made) refl

pub returns-clause-decided : goal.returns-clause-decided
returns-clause-decided g c = λ decides met.
    subst (λ f. IsSomeAnd f.2 (IsExplainedThroughout g.O.SeqObject.answer c.args.h)) (sym c.in_ok-file.ensures.made)
    (c.in_ok-made.ensures.decided decides met)
