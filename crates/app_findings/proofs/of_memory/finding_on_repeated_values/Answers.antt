use Rattle.std.proofs.Common.{◌∙◌, IfOk, subst}
use Rattle.order_memory.specs.Memory.{MemoryHistory}
use Rattle.json_histories.specs.declared.any_history.AnyHistory.TheVariants as histories
use Rattle.app_findings.specs.Findings.{KeepsCertificate}
use Rattle.app_findings.specs.Steps.FoundByCertificate.{IsFoundByCertificate}
use Rattle.app_findings.proofs.ByCertificate.{found_on_open}
use Rattle.app_findings.proofs.of_memory.finding_on_repeated_values.Goals as goal

pub returns-in-Ok : goal.returns-in-Ok
returns-in-Ok g c =
    let found = c.finding_by_certificate in
    let same = c.in-Ok.ensures ∙ c.history.ensures in
    found_on_open c.args.kept (histories.Memory c.args.memory.now) c.args.criterion found.result c.requires.repeated
    (subst (λ (h : MemoryHistory). IfOk found.result (IsFoundByCertificate (histories.Memory h) c.args.criterion)) same found.ensures.found)
    (λ wanted. subst (λ (h : MemoryHistory). IfOk found.result (KeepsCertificate (histories.Memory h) c.args.criterion)) same (found.ensures.keeps wanted))
