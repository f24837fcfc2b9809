use Rattle.std.proofs.Common.{subst}
use Rattle.std.specs.Prelude.{IsNone}
use Rattle.std.proofs.lemmas.Result.{IfOk-weaker}
use Rattle.cert_check.specs.declared.criterion.Criterion.{Criterion}
use Rattle.cert_check.specs.Certificates.{IsExplainedThroughout, IsFirstUnexplained}
use Rattle.cert_check.specs.Criteria.{Meets}
use Rattle.cert_check.proofs.Firsts.{none_found}
use Rattle.cert_check.proofs.checking.first_unexplained.Goals as goal

pub returns-clause-meets : goal.returns-clause-meets
returns-clause-meets g c =
    let answer = g.O.SeqObject.answer in
    let file = c.args.file.now in
    IfOk-weaker c.first_of_history-first.result _ (λ first. IsNone first → Meets answer file.0 file.1)
    (λ first found none.
    let held = none_found file.2 first (IsExplainedThroughout answer file.0) (IsFirstUnexplained answer file.0) c.requires found none in
    let good = c.certificate-is_case_file.ensures.is_case_file held.0 held.1 in
    subst (λ (k : Criterion). Meets answer file.0 k) good.0
    (c.explained_certificates_show_their_criterion.ensures file.0 held.0 good.1 held.2))
    (rw c.in_ok-checker.ensures at c.first_of_history-first.ensures)

pub returns-clause-first : goal.returns-clause-first
returns-clause-first g c = λ certificate is.
    IfOk-weaker c.first_of_history-first.result _ _ (λ first found. found certificate is) (rw c.in_ok-checker.ensures at c.first_of_history-first.ensures)
