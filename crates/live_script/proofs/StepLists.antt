-- The steps of a script, one after the other.
use Rattle.std.proofs.Common.{◌≡◌, ℕ, ◌+◌, ◌-◌, ◌<◌, ◌≤◌, List, [], ◌∷◌, ◌++◌, length, map, Some, None, refl, ap, ap₂, sym, subst, ◌∙◌, arith}
use Rattle.std.specs.Prelude.{slice_get}
use Rattle.std.proofs.Math.Seq.{take-append_seam}
use Rattle.std.proofs.lemmas.Grind.{flat_map-append}
use Rattle.std.proofs.lemmas.List.{append_assoc, length-append, length-map, map_push}
use Rattle.std.proofs.lemmas.List.Elements.{All-push}
use Rattle.serde_json.specs.Data.{Data}
use Rattle.live_script.specs.declared.script.TheConstants.{MAX_STEPS}
use Rattle.live_script.specs.declared.script_error.ScriptError.{ScriptError}
use Rattle.live_script.specs.declared.script_error.ScriptError.TheVariants.{BadStep, TooManySteps}
use Rattle.live_script.specs.declared.written_step.WrittenStep.{WrittenStep}
use Rattle.live_script.specs.declared.written_step.WrittenStep.TheVariants.{Once, StartUntold, Looks}
use Rattle.live_script.specs.ScriptForm.{AreForms, IsFew}
use Rattle.live_script.specs.Shortened.{kept_written}
use Rattle.live_script.specs.StepForm.{steps_of, written_form, written_out, IsWritten}
use Rattle.live_script.specs.Steps.StepParts.{IsStepIn}
use Rattle.live_script.specs.Steps.StepsTaken.{AreSteps, IsStepsRefusal}

-- ---- lists

here : {A : Type 0} (ds : List A) (d : A) (more : List A) → slice_get (ds ++ d ∷ more) (length ds) ≡ Some d
here [] d more = refl
here (x ∷ ds) d more = here ds d more

one_after : {A : Type 0} (ds : List A) (d : A) (more : List A) → (ds ++ d ∷ []) ++ more ≡ ds ++ d ∷ more
one_after ds d more = append_assoc ds (d ∷ []) more

-- ---- how many steps of the world they expand to

module _ {C R : Type 0} (k : ℕ) where
  pub same_count : (step : WrittenStep C R) → length (steps_of k (kept_written step)) ≡ length (steps_of k step)
  same_count (Once step) = refl
  same_count StartUntold = refl
  same_count (Looks z n) = refl

  one_step : (step : WrittenStep C R) → length (written_out k (step ∷ [])) ≡ length (steps_of k step)
  one_step step = let e : length (steps_of k step ++ []) ≡ length (steps_of k step) + 0 = length-append (steps_of k step) [] in omega (arith, e)

  pub count_more : (steps : List (WrittenStep C R)) (step : WrittenStep C R)
      → length (written_out k (steps ++ step ∷ [])) ≡ length (written_out k steps) + length (steps_of k step)
  count_more steps step =
      ap length (flat_map-append (steps_of k) steps (step ∷ [])) ∙ length-append (written_out k steps) (written_out k (step ∷ []))
      ∙ ap (λ (n : ℕ). length (written_out k steps) + n) (one_step step)

  kept_count : (steps : List (WrittenStep C R)) → length (written_out k (map kept_written steps)) ≡ length (written_out k steps)
  kept_count [] = refl
  kept_count (step ∷ steps) =
      let one = same_count step in
      let others = kept_count steps in
      let kept : length (written_out k (map kept_written (step ∷ steps))) ≡ length (steps_of k (kept_written step)) + length (written_out k (map kept_written steps)) =
      length-append (steps_of k (kept_written step)) (written_out k (map kept_written steps)) in
      let whole : length (written_out k (step ∷ steps)) ≡ length (steps_of k step) + length (written_out k steps) = length-append (steps_of k step) (written_out k steps) in
      omega (arith, one, others, kept, whole)

  -- what is kept of steps that are not too many are not too many
  pub kept_few : (steps : List (WrittenStep C R)) (kept : List (WrittenStep C R)) → kept ≡ map kept_written steps → IsFew k steps → IsFew k kept
  kept_few steps kept is few =
      let same : length (written_out k kept) ≡ length (written_out k (map kept_written steps)) = ap (λ (ws : List (WrittenStep C R)). length (written_out k ws)) is in
      let count = kept_count steps in
      omega (arith, same, count, few)

-- ---- one step more

module _ {C R : Type 0} (call_form : C → Data) (return_form : R → Data) (is_call : C → Type 0) (k : ℕ) where
  forms_more : (ds : List Data) (steps : List (WrittenStep C R)) (d : Data) (step : WrittenStep C R) → AreForms call_form return_form is_call k ds steps
      → d ≡ written_form call_form return_form step → IsWritten is_call k step → AreForms call_form return_form is_call k (ds ++ d ∷ []) (steps ++ step ∷ [])
  forms_more ds steps d step are form is = (
    ap₂ (λ (es : List Data) (e : Data). es ++ e ∷ []) are.0 form ∙ sym (map_push (written_form call_form return_form) steps step),
    All-push (IsWritten is_call k) steps step are.1 is,
  )

  module _ (ds : List Data) (d : Data) where
    -- a refusal stays
    pub still_refused : (e : ScriptError) → ((more : List Data) → IsStepsRefusal call_form return_form is_call k (ds ++ more) e)
        → (more : List Data) → IsStepsRefusal call_form return_form is_call k ((ds ++ d ∷ []) ++ more) e
    still_refused e refused more = subst (λ (es : List Data). IsStepsRefusal call_form return_form is_call k es e) (sym (one_after ds d more)) (refused (d ∷ more))

    module _ (kept : List (WrittenStep C R)) (room : ℕ) (are : (steps : List (WrittenStep C R)) × AreForms call_form return_form is_call k ds steps
        × (kept ≡ map kept_written steps) × (room + length (written_out k steps) ≡ MAX_STEPS)) where
      few : IsFew k are.0
      few = let counted = are.3 in omega (arith, counted)

      many : length kept ≡ length ds
      many =
          let steps : length kept ≡ length are.0 = ap length are.2 ∙ length-map are.0 kept_written in
          let forms : length ds ≡ length are.0 = ap length are.1.0 ∙ length-map are.0 (written_form call_form return_form) in
          omega (arith, steps, forms)

      -- the step is refused
      pub bad_step : IsStepIn call_form return_form is_call k d None → (place : ℕ) → place ≡ length kept
          → (more : List Data) → IsStepsRefusal call_form return_form is_call k ((ds ++ d ∷ []) ++ more) (BadStep place)
      bad_step none place is more =
          let at : place ≡ length ds = is ∙ many in
          subst (λ (es : List Data). IsStepsRefusal call_form return_form is_call k es (BadStep place)) (sym (one_after ds d more))
          (subst (λ (n : ℕ). IsStepsRefusal call_form return_form is_call k (ds ++ d ∷ more) (BadStep n)) (sym at) (
            are.0,
            d,
            (subst (λ (es : List Data). AreForms call_form return_form is_call k es are.0) (sym (take-append_seam ds (d ∷ more))) are.1),
            few,
            here ds d more,
            none,
          ))

      module _ (step : WrittenStep C R) (read : IsStepIn call_form return_form is_call k d (Some step)) (n : ℕ) (is : n ≡ length (steps_of k step)) where
        counts : n ≡ length (steps_of k read.0)
        counts = is ∙ ap (λ (w : WrittenStep C R). length (steps_of k w)) read.3 ∙ same_count k read.0

        with_one : AreForms call_form return_form is_call k (ds ++ d ∷ []) (are.0 ++ read.0 ∷ [])
        with_one = forms_more ds are.0 d read.0 are.1 read.1 read.2

        -- they are too many with it
        pub too_many_steps : room < n → (more : List Data) → IsStepsRefusal call_form return_form is_call k ((ds ++ d ∷ []) ++ more) TooManySteps
        too_many_steps over more =
            let sum = count_more k are.0 read.0 in
            let counted = are.3 in
            let one = counts in (
              length (ds ++ d ∷ []),
              are.0 ++ read.0 ∷ [],
              subst (λ (es : List Data). AreForms call_form return_form is_call k es (are.0 ++ read.0 ∷ [])) (sym (take-append_seam (ds ++ d ∷ []) more)) with_one,
              omega (arith, sum, counted, one, over),
            )

        -- or are not
        pub step_taken : n ≤ room → (left : ℕ) → left ≡ room - n → (steps : List (WrittenStep C R)) × AreForms call_form return_form is_call k (ds ++ d ∷ []) steps
            × (kept ++ step ∷ [] ≡ map kept_written steps) × (left + length (written_out k steps) ≡ MAX_STEPS)
        step_taken fits left is_left =
            let more = count_more k are.0 read.0 in
            let counted = are.3 in
            let one = counts in (
              are.0 ++ read.0 ∷ [],
              with_one,
              ap₂ (λ (ws : List (WrittenStep C R)) (w : WrittenStep C R). ws ++ w ∷ []) are.2 read.3 ∙ sym (map_push kept_written are.0 read.0),
              omega (arith, more, counted, one, fits, is_left),
            )

  -- ---- all steps

  pub none_taken : (kept : List (WrittenStep C R)) → kept ≡ [] → (steps : List (WrittenStep C R)) × AreForms call_form return_form is_call k [] steps
      × (kept ≡ map kept_written steps) × (MAX_STEPS + length (written_out k steps) ≡ MAX_STEPS)
  none_taken kept none = ([], (refl, λ i d within. absurd (omega (arith, within))), none, omega arith)

  pub all_taken : (cs : List Data) (kept : List (WrittenStep C R)) (room : ℕ) → (steps : List (WrittenStep C R)) × AreForms call_form return_form is_call k cs steps
      × (kept ≡ map kept_written steps) × (room + length (written_out k steps) ≡ MAX_STEPS) → AreSteps call_form return_form is_call k cs kept
  all_taken cs kept room are = let counted = are.3 in (are.0, are.1, omega (arith, counted), are.2)
