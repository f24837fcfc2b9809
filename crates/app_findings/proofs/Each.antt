-- What is found of each criterion, and what follows from it.
use Rattle.std.proofs.Common.{Some, None, Result, Ok, Err, IfOk}
use Rattle.cert_check.specs.declared.criterion.Criterion.{Criterion}
use Rattle.cert_check.specs.declared.criterion.Criterion.TheVariants.{Cc, Cm, Ccv}
use Rattle.json_histories.specs.declared.any_history.AnyHistory.{AnyHistory}
use Rattle.app_findings.specs.declared.finding.Finding.{Finding}
use Rattle.app_findings.specs.declared.finding.Finding.TheVariants.{Met, Shown, Present, Unexplained}
use Rattle.app_findings.specs.declared.finding.Findings.{Findings}
use Rattle.app_findings.specs.declared.kept.Kept.{Kept}
use Rattle.app_findings.specs.Answers.{IsKnownOnDistinctValues, NamesUnexplained}
use Rattle.live_case_board.specs.declared.answer.Answer.{Answer}
use Rattle.app_findings.specs.Findings.{EachIsFinding, EachIsFound, EachIsKnownOnDistinctValues, EachIsTrueOf, EachNamesUnexplained, IsFinding, IsFound, answer_for, answer_of, finding_for}

-- what is so of each of three findings is so of all
pub each_of_three : (holds : Criterion → Finding → Type 0) (findings : Findings) → holds Cc findings.cc → holds Cm findings.cm → holds Ccv findings.ccv
    → (criterion : Criterion) → holds criterion (finding_for findings criterion)
each_of_three holds findings of_cc of_cm of_ccv Cc = of_cc
each_of_three holds findings of_cc of_cm of_ccv Cm = of_cm
each_of_three holds findings of_cc of_cm of_ccv Ccv = of_ccv

pub each_found : (kept : Kept) (history : AnyHistory) (findings : Findings) → IsFound kept history Cc findings.cc → IsFound kept history Cm findings.cm
    → IsFound kept history Ccv findings.ccv → EachIsFound kept history findings
each_found kept history findings of_cc of_cm of_ccv = each_of_three (λ k finding. IsFound kept history k finding) findings of_cc of_cm of_ccv

pub each_finding : (history : AnyHistory) (findings : Findings) → IsFinding history Cc findings.cc → IsFinding history Cm findings.cm
    → IsFinding history Ccv findings.ccv → EachIsFinding history findings
each_finding history findings of_cc of_cm of_ccv = each_of_three (λ k finding. IsFinding history k finding) findings of_cc of_cm of_ccv

-- the answer of a finding is left unknown, and names an operation, only as it may
known : (history : AnyHistory) (criterion : Criterion) (finding : Finding) → IsFinding history criterion finding → IsKnownOnDistinctValues history (answer_of finding)
known history criterion (Met certificate) is = tt
known history criterion (Shown pattern) is = tt
known history criterion (Present kind) is = tt
known history criterion (Unexplained place certificate) is = is.0

names : (history : AnyHistory) (criterion : Criterion) (finding : Finding) → IsFinding history criterion finding → NamesUnexplained history criterion (answer_of finding)
names history criterion (Met certificate) is = tt
names history criterion (Shown pattern) is = tt
names history criterion (Present kind) is = tt
names history criterion (Unexplained place certificate) is = is.1

module _ (kept : Kept) (history : AnyHistory) (findings : Findings) (found : EachIsFound kept history findings) where
  pub found-is : EachIsFinding history findings
  found-is criterion = (found criterion).is_finding

  pub found-true : EachIsTrueOf history findings
  found-true criterion = (found criterion).is_true

  pub found-known : EachIsKnownOnDistinctValues history findings
  found-known criterion = known history criterion (finding_for findings criterion) (found criterion).is_finding

  pub found-names : EachNamesUnexplained history findings
  found-names criterion = names history criterion (finding_for findings criterion) (found criterion).is_finding

module _ {E : Type 0} (kept : Kept) (history : AnyHistory) where
  pub all-found-is : (r : Result Findings E) → IfOk r (EachIsFound kept history) → IfOk r (EachIsFinding history)
  all-found-is (Ok findings) found = found-is kept history findings found
  all-found-is (Err e) found = tt

  pub all-found-known : (r : Result Findings E) → IfOk r (EachIsFound kept history) → IfOk r (EachIsKnownOnDistinctValues history)
  all-found-known (Ok findings) found = found-known kept history findings found
  all-found-known (Err e) found = tt

  pub all-found-names : (r : Result Findings E) → IfOk r (EachIsFound kept history) → IfOk r (EachNamesUnexplained history)
  all-found-names (Ok findings) found = found-names kept history findings found
  all-found-names (Err e) found = tt

-- what is so of the answer of each of three findings is so of all
pub each_answer : (holds : Criterion → Answer → Type 0) (findings : Findings) → holds Cc (answer_of findings.cc) → holds Cm (answer_of findings.cm)
    → holds Ccv (answer_of findings.ccv) → (criterion : Criterion) → holds criterion (answer_for findings criterion)
each_answer holds findings of_cc of_cm of_ccv = each_of_three (λ k finding. holds k (answer_of finding)) findings of_cc of_cm of_ccv
