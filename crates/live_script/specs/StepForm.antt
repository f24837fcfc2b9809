-- The JSON form of a step of a script: a list of a word and what the step names (this project's profile).
use Rattle.std.specs.Prelude.{◌≡◌, ⊤, ℕ, ◌<◌, ◌≤◌, List, [], ◌∷◌, All, length, replicate, Option, Some, None}
use Rattle.std.specs.List.{flat_map}
use Rattle.model_history.specs.declared.limits.TheConstants.{MAX_OPERATIONS}
use Rattle.serde_json.specs.Data.{Data, string}
use Rattle.json_histories.specs.Reads.{number_form, list_form, worded}
use Rattle.cert_check.specs.declared.criterion.Criterion.{Criterion}
use Rattle.cert_check.specs.declared.certificate.Certificate.{Certificate}
use Rattle.cert_check.specs.Certificates.{criterion_of}
use Rattle.cert_check.specs.CertificateForm.{form_of as certificate_form, IsCertificate}
use Rattle.cert_check.specs.CriterionNames.{name_of as criterion_name}
use Rattle.pattern_json.specs.PatternForm.{form_of as pattern_form}
use Rattle.live_simulation.specs.declared.step.StepOf.{StepOf}
use Rattle.live_simulation.specs.declared.step.StepOf.TheVariants.{Begin, End, Start, Look, Show, File, Take, Work, Put, Refute, Ask}
use Rattle.live_script.specs.declared.step_word.StepWord.{StepWord}
use Rattle.live_script.specs.declared.step_word.StepWord.TheVariants as words
use Rattle.live_script.specs.declared.written_step.WrittenStep.{WrittenStep}
use Rattle.live_script.specs.declared.written_step.WrittenStep.TheVariants.{Once, StartUntold, Looks}
use Rattle.live_script.specs.declared.written_step.TheConstants.{MAX_LOOKS}
use Rattle.live_script.specs.StepWords.{name_of}

-- what a case is filed with: a certificate, or the name of a criterion alone
abbrev pub filed_form : Criterion → Option Certificate → Data
filed_form criterion None = string (criterion_name criterion)
filed_form criterion (Some certificate) = certificate_form certificate

abbrev pub case_form : Criterion × Option Certificate → Data
case_form p = filed_form p.0 p.1

module _ {C R : Type 0} where
  abbrev pub step_word : StepOf C R → StepWord
  step_word (Begin s c) = words.Begin
  step_word (End s r) = words.End
  step_word (Start told) = words.Start
  step_word (Look z) = words.Look
  step_word (Show z) = words.Show
  step_word (File z criterion certificate) = words.File
  step_word Take = words.Take
  step_word (Work c o) = words.Work
  step_word (Put c v) = words.Put
  step_word (Refute c pattern) = words.Refute
  step_word (Ask c) = words.Ask

  -- the word of a step
  abbrev pub word_of : WrittenStep C R → StepWord
  word_of (Once step) = step_word step
  word_of StartUntold = words.Start
  word_of (Looks z n) = words.Look

module _ {C R : Type 0} (call_form : C → Data) (return_form : R → Data) where
  abbrev pub step_arguments : StepOf C R → List Data
  step_arguments (Begin s c) = number_form s ∷ call_form c ∷ []
  step_arguments (End s r) = number_form s ∷ return_form r ∷ []
  step_arguments (Start told) = list_form number_form told ∷ []
  step_arguments (Look z) = number_form z ∷ []
  step_arguments (Show z) = number_form z ∷ []
  step_arguments (File z criterion certificate) = number_form z ∷ filed_form criterion certificate ∷ []
  step_arguments Take = []
  step_arguments (Work c o) = number_form c ∷ number_form o.session ∷ number_form o.index ∷ []
  step_arguments (Put c v) = number_form c ∷ number_form v ∷ []
  step_arguments (Refute c pattern) = number_form c ∷ pattern_form pattern ∷ []
  step_arguments (Ask c) = number_form c ∷ []

  -- what a step names
  abbrev pub arguments_of : WrittenStep C R → List Data
  arguments_of (Once step) = step_arguments step
  arguments_of StartUntold = []
  arguments_of (Looks z n) = number_form z ∷ number_form n ∷ []

  -- the form of a step
  abbrev pub written_form : WrittenStep C R → Data
  written_form step = worded (name_of (word_of step)) (arguments_of step)

-- one count for each of k sessions, each from 0 to 256
abbrev pub IsTold : ℕ → List ℕ → Type 0
IsTold k told = (length told ≡ k) × All (λ n. n ≤ MAX_OPERATIONS) told

-- a case is filed with a certificate of its criterion, or with none
abbrev pub IsFiled : Criterion → Option Certificate → Type 0
IsFiled criterion None = ⊤
IsFiled criterion (Some certificate) = IsCertificate certificate × (criterion_of certificate ≡ criterion)

abbrev pub IsCase : Criterion × Option Certificate → Type 0
IsCase p = IsFiled p.0 p.1

module _ {C R : Type 0} (is_call : C → Type 0) (k : ℕ) where
  abbrev pub IsStep : StepOf C R → Type 0
  IsStep (Begin s c) = is_call c
  IsStep (Start told) = IsTold k told
  IsStep (File z criterion certificate) = IsFiled criterion certificate
  IsStep _ = ⊤

  -- what a step names is in range, where there are k sessions
  abbrev pub IsWritten : WrittenStep C R → Type 0
  IsWritten (Once step) = IsStep step
  IsWritten StartUntold = ⊤
  IsWritten (Looks z n) = (0 < n) × (n ≤ MAX_LOOKS)

module _ {C R : Type 0} (k : ℕ) where
  -- the steps of the world that a step of a script represents
  abbrev pub steps_of : WrittenStep C R → List (StepOf C R)
  steps_of (Once step) = step ∷ []
  steps_of StartUntold = Start (replicate k 0) ∷ []
  steps_of (Looks z n) = replicate n (Look z)

  abbrev pub written_out : List (WrittenStep C R) → List (StepOf C R)
  written_out ws = flat_map steps_of ws
