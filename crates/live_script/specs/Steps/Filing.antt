-- What is read of a value that a case is filed with.
use Rattle.std.specs.Prelude.{◌≡◌, ◌≢◌, ℕ, List, Option, Some, None, option_map}
use Rattle.serde_json.specs.Data.{Data, string}
use Rattle.cert_check.specs.declared.certificate.Certificate.{Certificate}
use Rattle.cert_check.specs.declared.criterion.Criterion.{Criterion}
use Rattle.pattern_json.specs.Shortened.{shortened}
use Rattle.live_script.specs.StepForm.{case_form, IsCase}

abbrev pub kept_case : Criterion × Option Certificate → Criterion × Option Certificate
kept_case case = (case.0, option_map shortened case.1)

-- what is kept of the case whose form the value is; or it is the form of none
abbrev pub IsCaseIn : Data → Option (Criterion × Option Certificate) → Type 0
IsCaseIn d (Some kept) = (case : Criterion × Option Certificate) × (d ≡ case_form case) × IsCase case × (kept ≡ kept_case case)
IsCaseIn d None = (case : Criterion × Option Certificate) → IsCase case → d ≢ case_form case

-- the value is no text
abbrev pub IsNoText : Data → Type 0
IsNoText d = (text : List ℕ) → d ≢ string text
