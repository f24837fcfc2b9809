-- The elements of a script, of which its steps are taken.
use Rattle.std.proofs.Common.{◌≡◌, ◌≢◌, ℕ, List, [], ◌∷◌, ◌++◌, true, false, length, Option, Some, None, refl, ap, sym, subst, ◌∙◌, arith}
use Rattle.std.proofs.lemmas.List.{append-nil, length-append}
use Rattle.std.proofs.lemmas.Option.{same_Some}
use Rattle.serde_json.specs.Data.{Data, string}
use Rattle.json_histories.specs.AnyForm.{IsJson}
use Rattle.json_histories.specs.Json.{elements, list}
use Rattle.json_histories.specs.Laws.Json.{elements-list, list_from_elements}
use Rattle.json_histories.specs.Reads.{number_form}
use Rattle.json_tokens.specs.Gathers.{IsTakenList as IsGathered}
use Rattle.pattern_json.proofs.CertificateForms.{list_taken}
use Rattle.live_script.specs.declared.script_error.ScriptError.{ScriptError}
use Rattle.live_script.specs.declared.script_steps.Passed.{Passed}
use Rattle.live_script.specs.declared.script_steps.Passed.TheVariants.{Nothing, Name, Sessions, Steps}
use Rattle.live_script.specs.declared.steps_taken.StepsTaken.{StepsTaken}
use Rattle.live_script.specs.declared.steps_taken.StepsTaken.TheVariants.{Refused}
use Rattle.live_script.specs.declared.written_step.WrittenStep.{WrittenStep}
use Rattle.live_script.specs.declared.written_step.WrittenStep.TheVariants.{Once, StartUntold, Looks}
use Rattle.live_script.specs.ScriptForm.{Parts, IsFew, parts_form}
use Rattle.live_script.specs.StepForm.{steps_of, written_out}
use Rattle.live_script.specs.Steps.StepsTaken.{AreNoScript, ArePassed, AreTaken, IsStepsRefusal, IsTakenList}

-- ---- the number of steps of the world does not depend on the sessions

module _ {C R : Type 0} (j k : ℕ) where
  same_count : (step : WrittenStep C R) → length (steps_of j step) ≡ length (steps_of k step)
  same_count (Once step) = refl
  same_count StartUntold = refl
  same_count (Looks z n) = refl

  same_counts : (steps : List (WrittenStep C R)) → length (written_out j steps) ≡ length (written_out k steps)
  same_counts [] = refl
  same_counts (step ∷ steps) =
      let one = same_count step in
      let others = same_counts steps in
      let first = length-append (steps_of j step) (written_out j steps) in
      let second = length-append (steps_of k step) (written_out k steps) in
      omega (arith, one, others, first, second)

  pub few_for : (steps : List (WrittenStep C R)) → IsFew k steps → IsFew j steps
  few_for steps few = let same = same_counts steps in omega (arith, same, few)

one_value : (text : List ℕ) (d e : Data) → IsJson text d → IsJson text e → d ≡ e
one_value text d e first second = same_Some d e (sym first.1 ∙ second.1)

module _ {C R : Type 0} (call_form : C → Data) (return_form : R → Data) (is_call : C → Type 0) where
  -- ---- one element more

  module _ (ds : List Data) (d : Data) where
    pub name_passed : ArePassed call_form return_form is_call Nothing ds → ArePassed call_form return_form is_call Name (ds ++ d ∷ [])
    name_passed so_far = (d, ap (λ (es : List Data). es ++ d ∷ []) so_far)

    pub sessions_passed : ArePassed call_form return_form is_call Name ds → (k : ℕ) → d ≡ number_form k
        → ArePassed call_form return_form is_call (Sessions k) (ds ++ d ∷ [])
    sessions_passed so_far k is =
        (so_far.0, ap (λ (es : List Data). es ++ d ∷ []) so_far.1 ∙ ap (λ (x : Data). so_far.0 ∷ x ∷ []) is)

    pub no_sessions : ArePassed call_form return_form is_call Name ds → ((n : ℕ) → d ≢ number_form n) → (more : List Data) → AreNoScript (ds ++ d ∷ more)
    no_sessions so_far none more = λ a n cs others same.
        let e : so_far.0 ∷ d ∷ more ≡ a ∷ number_form n ∷ list cs ∷ others = ap (λ (es : List Data). es ++ d ∷ more) (sym so_far.1) ∙ same in
        let is : d ≡ number_form n = cc in
        none n is

    pub no_steps_list : (k : ℕ) → ArePassed call_form return_form is_call (Sessions k) ds → elements d ≡ None → (more : List Data) → AreNoScript (ds ++ d ∷ more)
    no_steps_list k so_far none more = λ a n cs others same.
        let e : so_far.0 ∷ number_form k ∷ d ∷ more ≡ a ∷ number_form n ∷ list cs ∷ others = ap (λ (es : List Data). es ++ d ∷ more) (sym so_far.1) ∙ same in
        let is : d ≡ list cs = cc in
        let f : ◌≡◌ {A = Option (List Data)} None (Some cs) = sym none ∙ ap elements is ∙ elements-list cs in absurd cc

  module _ (ds : List Data) (d : Data) (k : ℕ) (taken : StepsTaken C R) where
    third : (a : Data) (o : Option (List Data)) → elements d ≡ o → ds ≡ a ∷ number_form k ∷ [] → IsTakenList call_form return_form is_call k (Some taken) o
        → ArePassed call_form return_form is_call (Steps k taken) (ds ++ d ∷ [])
    third a None has so_far are = absurd are
    third a (Some cs) has so_far are = (
      a,
      cs,
      [],
      ap (λ (es : List Data). es ++ d ∷ []) so_far ∙ ap (λ (x : Data). a ∷ number_form k ∷ x ∷ []) (list_from_elements d cs has),
      are,
    )

    pub steps_passed : ArePassed call_form return_form is_call (Sessions k) ds → IsTakenList call_form return_form is_call k (Some taken) (elements d)
        → ArePassed call_form return_form is_call (Steps k taken) (ds ++ d ∷ [])
    steps_passed so_far are = third so_far.0 (elements d) refl so_far.1 are

    rest_passed : ArePassed call_form return_form is_call (Steps k taken) ds → ArePassed call_form return_form is_call (Steps k taken) (ds ++ d ∷ [])
    rest_passed so_far = (so_far.0, so_far.1, so_far.2 ++ d ∷ [], ap (λ (es : List Data). es ++ d ∷ []) so_far.3, so_far.4)

    pub still_passed : (passed : Passed C R) → passed ≡ Steps k taken → ArePassed call_form return_form is_call passed ds → ArePassed call_form return_form is_call passed (ds ++ d ∷ [])
    still_passed passed is so_far =
        subst (λ (p : Passed C R). ArePassed call_form return_form is_call p (ds ++ d ∷ [])) (sym is)
        (rest_passed (subst (λ (p : Passed C R). ArePassed call_form return_form is_call p ds) is so_far))

  -- ---- the whole text

  module _ (text : List ℕ) (d : Data) (json : IsJson text d) where
    module _ (k : ℕ) (taken : StepsTaken C R) (are : IsGathered (λ (s : Unit {0}). ArePassed call_form return_form is_call (Steps k taken)) AreNoScript tt true (elements d)) where
      pub some_steps : (cs : List Data) × AreTaken call_form return_form is_call k taken cs
      some_steps = let all = list_taken (ArePassed call_form return_form is_call (Steps k taken)) AreNoScript d are in (all.2.1, all.2.4)

    module _ (p : Parts) (read : IsJson text (parts_form p)) where
      has : elements d ≡ Some (string p.name ∷ number_form p.sessions ∷ list p.steps ∷ p.rest)
      has = ap elements (one_value text d (parts_form p) json read) ∙ elements-list (string p.name ∷ number_form p.sessions ∷ list p.steps ∷ p.rest)

      one_list : (cs : List Data) → list cs ≡ list p.steps → cs ≡ p.steps
      one_list cs same = same_Some cs p.steps (sym (elements-list cs) ∙ ap elements same ∙ elements-list p.steps)

      all_passed : (passed : Passed C R) → IsGathered (λ (s : Unit {0}). ArePassed call_form return_form is_call passed) AreNoScript tt true (elements d)
          → ArePassed call_form return_form is_call passed (string p.name ∷ number_form p.sessions ∷ list p.steps ∷ p.rest)
      all_passed passed are = subst (IsGathered (λ (s : Unit {0}). ArePassed call_form return_form is_call passed) AreNoScript tt true) has are

      -- the steps are those of the parts
      pub these_steps : (k : ℕ) (taken : StepsTaken C R) → IsGathered (λ (s : Unit {0}). ArePassed call_form return_form is_call (Steps k taken)) AreNoScript tt true (elements d)
          → AreTaken call_form return_form is_call p.sessions taken p.steps
      these_steps k taken are =
          let all = all_passed (Steps k taken) are in
          let numbers : number_form p.sessions ≡ number_form k = cc in
          let lists : list p.steps ≡ list all.1 = cc in
          let sessions : p.sessions ≡ k = cc in
          subst (λ (n : ℕ). AreTaken call_form return_form is_call n taken p.steps) (sym sessions)
          (subst (AreTaken call_form return_form is_call k taken) (one_list all.1 (sym lists)) all.4)

      pub these_refused : (e : ScriptError) → AreTaken call_form return_form is_call p.sessions (Refused e) p.steps → IsStepsRefusal call_form return_form is_call p.sessions p.steps e
      these_refused e refused = subst (λ (ds : List Data). IsStepsRefusal call_form return_form is_call p.sessions ds e) (append-nil p.steps) (refused [])

      -- its elements are wanted
      pub all_wanted : IsGathered (λ (s : Unit {0}). λ (ds : List Data). ⊥) AreNoScript tt false (elements d) → ⊥
      all_wanted refused = subst (IsGathered (λ (s : Unit {0}). λ (ds : List Data). ⊥) AreNoScript tt false) has refused (string p.name) p.sessions p.steps p.rest refl

      -- its steps were taken
      no_steps_of : (passed : Passed C R) → ((k : ℕ) (taken : StepsTaken C R) → passed ≢ Steps k taken)
          → ArePassed call_form return_form is_call passed (string p.name ∷ number_form p.sessions ∷ list p.steps ∷ p.rest) → ⊥
      no_steps_of Nothing other are = absurd cc
      no_steps_of Name other are = let e : string p.name ∷ number_form p.sessions ∷ list p.steps ∷ p.rest ≡ are.0 ∷ [] = are.1 in absurd cc
      no_steps_of (Sessions k) other are =
          let e : string p.name ∷ number_form p.sessions ∷ list p.steps ∷ p.rest ≡ are.0 ∷ number_form k ∷ [] = are.1 in absurd cc
      no_steps_of (Steps k taken) other are = absurd (other k taken refl)

      pub no_steps : (passed : Passed C R) → ((k : ℕ) (taken : StepsTaken C R) → passed ≢ Steps k taken)
          → IsGathered (λ (s : Unit {0}). ArePassed call_form return_form is_call passed) AreNoScript tt true (elements d) → ⊥
      no_steps passed other are = no_steps_of passed other (all_passed passed are)
