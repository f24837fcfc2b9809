use Rattle.std.proofs.Common.{subst, sym}
use Rattle.json_histories.specs.declared.any_history.AnyHistory.TheVariants as histories
use Rattle.app_findings.specs.declared.finding.Finding.TheVariants.{Met}
use Rattle.app_findings.specs.declared.kept.Kept.{Kept}
use Rattle.app_findings.specs.Findings.{IsFound}
use Rattle.app_findings.proofs.OfMemory.{found_certified}
use Rattle.app_findings.proofs.of_memory.finding_of_met.Goals as goal

pub returns-in_ok-certificate-in-Certificates : goal.returns-in_ok-certificate-in-Certificates
returns-in_ok-certificate-in-Certificates c =
    let h = c.args.memory.now in
    let made = c.in_ok-certificate-in-Certificates in
    subst (λ (kept : Kept). IsFound kept (histories.Memory h) c.args.criterion (Met made.certificate)) (sym c.in-Certificates.is)
    (found_certified h _ _ (rw c.history.ensures at c.value_is_history.ensures) c.args.criterion made.certificate c.requires.met made.ensures.certified
    made.ensures.made)
