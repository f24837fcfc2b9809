use Rattle.std.proofs.Common.{◌∙◌, ap, subst, sym}
use Rattle.app_findings.specs.declared.finding.Finding.{Finding}
use Rattle.app_findings.specs.Steps.FoundByCertificate.{IsFoundByCertificate, finding_from}
use Rattle.app_findings.proofs.ByCertificate.{found_by}
use Rattle.app_findings.proofs.by_certificate.shown_by.Goals as goal

pub returns-in-Ok-answer_of-clause-found : goal.returns-in-Ok-answer_of-clause-found
returns-in-Ok-answer_of-clause-found g c =
    let said = c.in-Ok-answer_of.ensures in
    let history = c.args.history in
    let kept = c.args.kept in
    subst (λ (f : Finding). IsFoundByCertificate history c.args._criterion f)
    (sym (c.finding_of.ensures ∙ ap (finding_from kept c.in-Ok-answer_of.answer) c.in-Ok.ensures))
    (found_by history c.args._criterion c.args.certificate kept c.in-Ok-answer_of.answer c.requires.criterion c.requires.shape said.shown said.truth said.range)
