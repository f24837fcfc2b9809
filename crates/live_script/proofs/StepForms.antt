-- The elements of no step: where no word of a step comes first, or what comes after it is named by no step.
use Rattle.std.proofs.Common.{◌≡◌, ℕ, ◌+◌, ◌<◌, ◌≤◌, List, [], ◌∷◌, All, length, refl, ap, sym, subst, ◌∙◌, arith}
use Rattle.std.specs.Prelude.{◌≢◌, nat_eq, codes, Option, Some, if◌then◌else◌}
use Rattle.std.specs.Cmp.Lexicographic.{pointwise}
use Rattle.std.proofs.lemmas.Option.{same_Some}
use Rattle.model_history.specs.declared.limits.TheConstants.{MAX_OPERATIONS}
use Rattle.serde_json.specs.Data.{Data}
use Rattle.json_histories.specs.Reads.{number_form, list_form}
use Rattle.cert_check.specs.declared.criterion.Criterion.{Criterion}
use Rattle.cert_check.specs.declared.certificate.Certificate.{Certificate}
use Rattle.pattern_check.specs.declared.pattern.Pattern.{Pattern}
use Rattle.pattern_json.specs.PatternForm.{form_of as pattern_form}
use Rattle.pattern_json.specs.Words.{word_form}
use Rattle.live_simulation.specs.declared.step.StepOf.TheVariants.{Begin, End, Start, Look, Show, File, Take, Work, Put, Refute, Ask}
use Rattle.live_script.specs.declared.step_word.StepWord.{StepWord}
use Rattle.live_script.specs.declared.step_word.StepWord.TheVariants as words
use Rattle.live_script.specs.declared.written_step.TheConstants.{MAX_LOOKS}
use Rattle.live_script.specs.declared.written_step.WrittenStep.{WrittenStep}
use Rattle.live_script.specs.declared.written_step.WrittenStep.TheVariants.{Once, StartUntold, Looks}
use Rattle.live_script.specs.StepForm.{filed_form, word_of, arguments_of, IsFiled}
use Rattle.live_script.specs.StepWords.{name_of}
use Rattle.live_script.specs.Steps.StepParts.{AreNoStep, IsAnyWritten, TakesNumber, elements_of, most_elements}

-- ---- words

abbrev word_at : List ℕ → Option StepWord
word_at word =
    if pointwise nat_eq word (codes "begin") then Some words.Begin
    else (if pointwise nat_eq word (codes "end") then Some words.End
    else (if pointwise nat_eq word (codes "start") then Some words.Start
    else (if pointwise nat_eq word (codes "look") then Some words.Look
    else (if pointwise nat_eq word (codes "show") then Some words.Show
    else (if pointwise nat_eq word (codes "file") then Some words.File
    else (if pointwise nat_eq word (codes "take") then Some words.Take
    else (if pointwise nat_eq word (codes "work") then Some words.Work
    else (if pointwise nat_eq word (codes "put") then Some words.Put
    else (if pointwise nat_eq word (codes "refute") then Some words.Refute else Some words.Ask)))))))))

at_name : (a : StepWord) → word_at (name_of a) ≡ Some a
at_name words.Begin = refl
at_name words.End = refl
at_name words.Start = refl
at_name words.Look = refl
at_name words.Show = refl
at_name words.File = refl
at_name words.Take = refl
at_name words.Work = refl
at_name words.Put = refl
at_name words.Refute = refl
at_name words.Ask = refl

one_name : (a b : StepWord) → name_of a ≡ name_of b → a ≡ b
one_name a b same = same_Some a b (sym (at_name a) ∙ ap word_at same ∙ at_name b)

module _ {C R : Type 0} (call_form : C → Data) (return_form : R → Data) (is_call : C → Type 0) where
  -- a step with these elements has this word, and these name its arguments
  pub has_word : (w : StepWord) (ds : List Data) (step : WrittenStep C R) → word_form name_of w ∷ ds ≡ elements_of call_form return_form step → word_of step ≡ w
  has_word w ds step same = let names : name_of w ≡ name_of (word_of step) = cc in sym (one_name w (word_of step) names)

  -- the arguments of no step with this word
  abbrev AreNoArguments : StepWord → List Data → Type 0
  AreNoArguments w ds = (step : WrittenStep C R) → IsAnyWritten is_call step → word_of step ≡ w → ds ≢ arguments_of call_form return_form step

  pub after_word : (w : StepWord) (ds : List Data) → AreNoArguments w ds → AreNoStep call_form return_form is_call (word_form name_of w ∷ ds)
  after_word w ds none step good same =
      let arguments : ds ≡ arguments_of call_form return_form step = cc in none step good (has_word w ds step same) arguments

  pub no_word : (d : Data) (more : List Data) → ((w : StepWord) → d ≢ word_form name_of w) → AreNoStep call_form return_form is_call (d ∷ more)
  no_word d more none step good same = let first : d ≡ word_form name_of (word_of step) = cc in none (word_of step) first

  -- ---- how many elements there are

  at_most : (step : WrittenStep C R) → length (elements_of call_form return_form step) ≤ most_elements (word_of step)
  at_most (Once (Begin s c)) = omega arith
  at_most (Once (End s r)) = omega arith
  at_most (Once (Start told)) = omega arith
  at_most (Once (Look z)) = omega arith
  at_most (Once (Show z)) = omega arith
  at_most (Once (File z criterion certificate)) = omega arith
  at_most (Once Take) = omega arith
  at_most (Once (Work c o)) = omega arith
  at_most (Once (Put c v)) = omega arith
  at_most (Once (Refute c pattern)) = omega arith
  at_most (Once (Ask c)) = omega arith
  at_most StartUntold = omega arith
  at_most (Looks z n) = omega arith

  pub too_many : (w : StepWord) (ds : List Data) → most_elements w < length ds + 1 → AreNoStep call_form return_form is_call (word_form name_of w ∷ ds)
  too_many w ds over = after_word w ds (λ step good e same.
      let few : length (elements_of call_form return_form step) ≤ most_elements w = subst (λ (x : StepWord). length (elements_of call_form return_form step) ≤ most_elements x) e (at_most step) in
      let many : length ds ≡ length (arguments_of call_form return_form step) = ap length same in
      absurd (omega (arith, over, few, many)))

  -- a step with a word after which a number comes has one
  pub no_number : (w : StepWord) (ds : List Data) → TakesNumber w → ((n : ℕ) (more : List Data) → ds ≢ number_form n ∷ more) → AreNoArguments w ds
  no_number w ds takes none (Once (Begin s c)) good e same = none s _ same
  no_number w ds takes none (Once (End s r)) good e same = none s _ same
  no_number w ds takes none (Once (Start told)) good e same = absurd (subst TakesNumber (sym e) takes)
  no_number w ds takes none (Once (Look z)) good e same = none z _ same
  no_number w ds takes none (Once (Show z)) good e same = none z _ same
  no_number w ds takes none (Once (File z criterion certificate)) good e same = none z _ same
  no_number w ds takes none (Once Take) good e same = absurd (subst TakesNumber (sym e) takes)
  no_number w ds takes none (Once (Work c o)) good e same = none c _ same
  no_number w ds takes none (Once (Put c v)) good e same = none c _ same
  no_number w ds takes none (Once (Refute c pattern)) good e same = none c _ same
  no_number w ds takes none (Once (Ask c)) good e same = none c _ same
  no_number w ds takes none StartUntold good e same = absurd (subst TakesNumber (sym e) takes)
  no_number w ds takes none (Looks z n) good e same = none z _ same

  -- ---- what comes after a word names nothing

  module _ (ds : List Data) where
    pub no_begin : ((s : ℕ) (c : C) → is_call c → ds ≢ number_form s ∷ call_form c ∷ [])
        → (step : WrittenStep C R) → IsAnyWritten is_call step → word_of step ≡ words.Begin → ds ≢ arguments_of call_form return_form step
    no_begin none (Once (Begin s c)) good e same = none s c good.1 same
    no_begin none _ good e same = absurd cc

    pub no_end : ((s : ℕ) (r : R) → ds ≢ number_form s ∷ return_form r ∷ [])
        → (step : WrittenStep C R) → IsAnyWritten is_call step → word_of step ≡ words.End → ds ≢ arguments_of call_form return_form step
    no_end none (Once (End s r)) good e same = none s r same
    no_end none _ good e same = absurd cc

    pub no_start : ds ≢ [] → ((told : List ℕ) → All (λ n. n ≤ MAX_OPERATIONS) told → ds ≢ list_form number_form told ∷ [])
        → (step : WrittenStep C R) → IsAnyWritten is_call step → word_of step ≡ words.Start → ds ≢ arguments_of call_form return_form step
    no_start some none (Once (Start told)) good e same = none told good.1.1 same
    no_start some none StartUntold good e same = some same
    no_start some none _ good e same = absurd cc

    pub no_look : ((z : ℕ) → ds ≢ number_form z ∷ []) → ((z n : ℕ) → 0 < n → n ≤ MAX_LOOKS → ds ≢ number_form z ∷ number_form n ∷ [])
        → (step : WrittenStep C R) → IsAnyWritten is_call step → word_of step ≡ words.Look → ds ≢ arguments_of call_form return_form step
    no_look once many (Once (Look z)) good e same = once z same
    no_look once many (Looks z n) good e same = many z n good.1.0 good.1.1 same
    no_look once many _ good e same = absurd cc

    pub no_file : ((z : ℕ) (criterion : Criterion) (certificate : Option Certificate) → IsFiled criterion certificate
        → ds ≢ number_form z ∷ filed_form criterion certificate ∷ [])
        → (step : WrittenStep C R) → IsAnyWritten is_call step → word_of step ≡ words.File → ds ≢ arguments_of call_form return_form step
    no_file none (Once (File z criterion certificate)) good e same = none z criterion certificate good.1 same
    no_file none _ good e same = absurd cc

    pub no_work : ((c s i : ℕ) → ds ≢ number_form c ∷ number_form s ∷ number_form i ∷ [])
        → (step : WrittenStep C R) → IsAnyWritten is_call step → word_of step ≡ words.Work → ds ≢ arguments_of call_form return_form step
    no_work none (Once (Work c o)) good e same = none c o.session o.index same
    no_work none _ good e same = absurd cc

    pub no_put : ((c v : ℕ) → ds ≢ number_form c ∷ number_form v ∷ [])
        → (step : WrittenStep C R) → IsAnyWritten is_call step → word_of step ≡ words.Put → ds ≢ arguments_of call_form return_form step
    no_put none (Once (Put c v)) good e same = none c v same
    no_put none _ good e same = absurd cc

    pub no_refute : ((c : ℕ) (pattern : Pattern) → ds ≢ number_form c ∷ pattern_form pattern ∷ [])
        → (step : WrittenStep C R) → IsAnyWritten is_call step → word_of step ≡ words.Refute → ds ≢ arguments_of call_form return_form step
    no_refute none (Once (Refute c pattern)) good e same = none c pattern same
    no_refute none _ good e same = absurd cc
