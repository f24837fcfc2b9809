-- What is known of orders that explain every read, criterion by criterion.
use Rattle.std.proofs.Common.{◌≡◌, ◌∙◌, sym}
use Rattle.std.specs.Prelude.{◌⊎◌}
use Rattle.live_case_board.specs.declared.answer.Answer.TheVariants.{Yes}
use Rattle.cert_check.specs.declared.criterion.Criterion.{Criterion}
use Rattle.cert_check.specs.declared.criterion.Criterion.TheVariants.{Cc, Cm, Ccv}
use Rattle.app_findings.specs.Findings.{answer_for, answer_of}
use Rattle.app_findings.specs.declared.finding.Findings.{Findings}
use Rattle.show_log_names.specs.Witnesses.{witness_for}
use Rattle.show_log_names.specs.declared.witnesses.Witness.{Witness}
use Rattle.show_log_names.specs.declared.witnesses.Witness.TheVariants.{Found, Unwanted}
use Rattle.show_log_names.specs.declared.witnesses.Witnesses.{Witnesses}

-- what is found was known, or comes of a yes in a report
pub each_found : (known next : Witnesses) (report : Findings)
    → (next.cc ≡ Found → (known.cc ≡ Found) ⊎ (answer_of report.cc ≡ Yes))
    → (next.cm ≡ Found → (known.cm ≡ Found) ⊎ (answer_of report.cm ≡ Yes))
    → (next.ccv ≡ Found → (known.ccv ≡ Found) ⊎ (answer_of report.ccv ≡ Yes))
    → (criterion : Criterion) → witness_for next criterion ≡ Found → (witness_for known criterion ≡ Found) ⊎ (answer_for report criterion ≡ Yes)
each_found known next report of_cc of_cm of_ccv Cc = of_cc
each_found known next report of_cc of_cm of_ccv Cm = of_cm
each_found known next report of_cc of_cm of_ccv Ccv = of_ccv

-- nothing is found
pub none_found : (witnesses : Witnesses) → ¬ (witnesses.cc ≡ Found) → ¬ (witnesses.cm ≡ Found) → ¬ (witnesses.ccv ≡ Found)
    → (criterion : Criterion) → ¬ (witness_for witnesses criterion ≡ Found)
none_found witnesses of_cc of_cm of_ccv Cc = of_cc
none_found witnesses of_cc of_cm of_ccv Cm = of_cm
none_found witnesses of_cc of_cm of_ccv Ccv = of_ccv

-- nor where none is wanted
unwanted-unfound : (witness : Witness) → witness ≡ Unwanted → ¬ (witness ≡ Found)
unwanted-unfound witness unwanted found = let same = sym unwanted ∙ found in absurd cc

pub none_wanted : (witnesses : Witnesses) → witness_for witnesses Cc ≡ Unwanted → witness_for witnesses Cm ≡ Unwanted → witness_for witnesses Ccv ≡ Unwanted
    → (criterion : Criterion) → ¬ (witness_for witnesses criterion ≡ Found)
none_wanted witnesses of_cc of_cm of_ccv Cc = unwanted-unfound witnesses.cc of_cc
none_wanted witnesses of_cc of_cm of_ccv Cm = unwanted-unfound witnesses.cm of_cm
none_wanted witnesses of_cc of_cm of_ccv Ccv = unwanted-unfound witnesses.ccv of_ccv
