-- What the elements of a step are taken into, one after the other.
use Rattle.std.proofs.Common.{◌≡◌, ℕ, ◌+◌, ◌<◌, ◌≤◌, List, [], ◌∷◌, ◌++◌, All, Bool, true, false, length, map, Option, Some, None, refl, ap, sym, subst, ◌∙◌, arith}
use Rattle.std.specs.Prelude.{◌≢◌, MatchOption}
use Rattle.std.proofs.lemmas.List.{length-append, length-map}
use Rattle.std.proofs.lemmas.Option.{same_Some}
use Rattle.model_history.specs.declared.limits.TheConstants.{MAX_OPERATIONS}
use Rattle.serde_json.specs.Data.{Data}
use Rattle.json_histories.specs.Json.{elements, list}
use Rattle.json_histories.specs.Laws.Json.{elements-list, list_from_elements}
use Rattle.json_histories.specs.Reads.{list_form, number_form}
use Rattle.cert_check.specs.declared.criterion.Criterion.{Criterion}
use Rattle.cert_check.specs.declared.certificate.Certificate.{Certificate}
use Rattle.pattern_check.specs.declared.pattern.Pattern.{Pattern}
use Rattle.pattern_json.specs.PatternForm.{form_of as pattern_form}
use Rattle.pattern_json.specs.Words.{word_form}
use Rattle.json_tokens.specs.Gathers.{IsTakenList}
use Rattle.pattern_json.proofs.CertificateForms.{list_taken}
use Rattle.live_simulation.specs.declared.step.StepOf.TheVariants.{Begin, End, Start, Look, Show, File, Take, Work, Put, Refute, Ask}
use Rattle.live_script.specs.declared.step_argument.Argument.{Argument}
use Rattle.live_script.specs.declared.step_argument.Argument.TheVariants as arguments
use Rattle.live_script.specs.declared.step_argument.ArgumentKind.{ArgumentKind}
use Rattle.live_script.specs.declared.step_argument.ArgumentKind.TheVariants as kinds
use Rattle.live_script.specs.declared.step_argument.Plain.TheVariants as plains
use Rattle.live_script.specs.declared.step_argument.PlainKind.TheVariants as plain_kinds
use Rattle.live_script.specs.declared.step_parts.StepParts.{StepParts}
use Rattle.live_script.specs.declared.step_parts.StepParts.TheVariants.{Nothing, Word, Number, Piece, Whole}
use Rattle.live_script.specs.declared.step_word.StepWord.{StepWord}
use Rattle.live_script.specs.declared.step_word.StepWord.TheVariants as words
use Rattle.live_script.specs.declared.written_step.TheConstants.{MAX_LOOKS}
use Rattle.live_script.specs.declared.written_step.WrittenStep.{WrittenStep}
use Rattle.live_script.specs.declared.written_step.WrittenStep.TheVariants.{Once, StartUntold, Looks}
use Rattle.live_script.specs.Shortened.{kept_written}
use Rattle.live_script.specs.StepForm.{arguments_of, word_of, written_form, IsWritten}
use Rattle.live_script.specs.StepWords.{name_of}
use Rattle.live_script.specs.Steps.Arguments.{AreCounts, IsArgument, IsNoArgument, IsTimes}
use Rattle.live_script.specs.Steps.Filing.{IsCaseIn}
use Rattle.live_script.specs.Steps.StepParts.{AreNoStep, ArePartsOf, AreStep, HasCounts, IsAnyStepIn, IsAnyWritten, IsNextPart, IsStepIn, TakesNumber, alone, elements_of, most_elements, wanted_after_number, wanted_after_word, wanted_next, whole_of, with_argument, word_with_number}
use Rattle.live_script.proofs.StepForms.{after_word, has_word, no_begin, no_end, no_file, no_look, no_number, no_put, no_refute, no_start, no_word, no_work, too_many}

module _ {C R : Type 0} (call_form : C → Data) (return_form : R → Data) (is_call : C → Type 0) where
  -- ---- after a word and a number

  module _ (n : ℕ) (d : Data) where
    abbrev IsNext : StepWord → Option (StepParts C R) → Type 0
    IsNext w next = IsNextPart call_form return_form is_call next (word_form name_of w ∷ number_form n ∷ []) d

    argument_is : (w : StepWord) (e : Data) → d ≡ e → word_form name_of w ∷ number_form n ∷ d ∷ [] ≡ word_form name_of w ∷ number_form n ∷ e ∷ []
    argument_is w e same = ap (λ (x : Data). word_form name_of w ∷ number_form n ∷ x ∷ []) same

    -- a step with the word has no more than the number
    full : (w : StepWord) → most_elements w ≤ 2 → IsNext w None
    full w few = λ more. too_many call_form return_form is_call w (number_form n ∷ d ∷ more) (omega (arith, few))

    begin_taken : (c : C) → (d ≡ call_form c) × is_call c → IsNext words.Begin (Some (Whole (Once (Begin n c))))
    begin_taken c is = ((Once (Begin n c), argument_is words.Begin (call_form c) is.0, (0, is.1), refl), omega arith)

    none_begun : ((c : C) → is_call c → d ≢ call_form c) → IsNext words.Begin None
    none_begun none = λ more. after_word call_form return_form is_call words.Begin (number_form n ∷ d ∷ more)
        (no_begin call_form return_form is_call (number_form n ∷ d ∷ more) (λ s c good same. let e : d ≡ call_form c = cc in none c good e))

    end_taken : (r : R) → d ≡ return_form r → IsNext words.End (Some (Whole (Once (End n r))))
    end_taken r is = ((Once (End n r), argument_is words.End (return_form r) is, (0, tt), refl), omega arith)

    none_ended : ((r : R) → d ≢ return_form r) → IsNext words.End None
    none_ended none = λ more. after_word call_form return_form is_call words.End (number_form n ∷ d ∷ more)
        (no_end call_form return_form is_call (number_form n ∷ d ∷ more) (λ s r same. let e : d ≡ return_form r = cc in none r e))

    looks_taken : (times : ℕ) → d ≡ number_form times → 0 < times → times ≤ MAX_LOOKS → IsNext words.Look (Some (Whole (Looks n times)))
    looks_taken times is some few = ((Looks n times, argument_is words.Look (number_form times) is, (0, (some, few)), refl), omega arith)

    no_looks : ((times : ℕ) → IsTimes times → d ≢ number_form times) → IsNext words.Look None
    no_looks none = λ more. after_word call_form return_form is_call words.Look (number_form n ∷ d ∷ more)
        (no_look call_form return_form is_call (number_form n ∷ d ∷ more) (λ z same. absurd cc)
        (λ z times some few same. let e : d ≡ number_form times = cc in none times (some, few) e))

    file_taken : (criterion : Criterion) (certificate : Option Certificate) → IsCaseIn d (Some (criterion, certificate)) → IsNext words.File (Some (Whole (Once (File n criterion certificate))))
    file_taken criterion certificate is = (
      (
        Once (File n is.0.0 is.0.1),
        argument_is words.File _ is.1,
        (0, is.2),
        ap (λ (case : Criterion × Option Certificate). Once (File n case.0 case.1)) is.3,
      ),
      omega arith,
    )

    none_filed : IsCaseIn d None → IsNext words.File None
    none_filed none = λ more. after_word call_form return_form is_call words.File (number_form n ∷ d ∷ more)
        (no_file call_form return_form is_call (number_form n ∷ d ∷ more)
        (λ z criterion certificate good same. none (criterion, certificate) good (let e : d ≡ _ = cc in e)))

    piece_taken : (session : ℕ) → d ≡ number_form session → IsNext words.Work (Some (Piece n session))
    piece_taken session is = argument_is words.Work (number_form session) is

    no_piece : ((m : ℕ) → d ≢ number_form m) → IsNext words.Work None
    no_piece none = λ more. after_word call_form return_form is_call words.Work (number_form n ∷ d ∷ more)
        (no_work call_form return_form is_call (number_form n ∷ d ∷ more) (λ c s i same. let e : d ≡ number_form s = cc in none s e))

    put_taken : (verdict : ℕ) → d ≡ number_form verdict → IsNext words.Put (Some (Whole (Once (Put n verdict))))
    put_taken verdict is = ((Once (Put n verdict), argument_is words.Put (number_form verdict) is, (0, tt), refl), omega arith)

    none_put : ((verdict : ℕ) → d ≢ number_form verdict) → IsNext words.Put None
    none_put none = λ more. after_word call_form return_form is_call words.Put (number_form n ∷ d ∷ more)
        (no_put call_form return_form is_call (number_form n ∷ d ∷ more) (λ c verdict same. let e : d ≡ number_form verdict = cc in none verdict e))

    refute_taken : (pattern : Pattern) → d ≡ pattern_form pattern → IsNext words.Refute (Some (Whole (Once (Refute n pattern))))
    refute_taken pattern is = ((Once (Refute n pattern), argument_is words.Refute (pattern_form pattern) is, (0, tt), refl), omega arith)

    none_refuted : ((pattern : Pattern) → d ≢ pattern_form pattern) → IsNext words.Refute None
    none_refuted none = λ more. after_word call_form return_form is_call words.Refute (number_form n ∷ d ∷ more)
        (no_refute call_form return_form is_call (number_form n ∷ d ∷ more) (λ c pattern same. let e : d ≡ pattern_form pattern = cc in none pattern e))

  -- ---- after a check's case and session

  module _ (case session : ℕ) (d : Data) where
    abbrev IsNextOfPiece : Option (StepParts C R) → Type 0
    IsNextOfPiece next = IsNextPart call_form return_form is_call next (word_form name_of words.Work ∷ number_form case ∷ number_form session ∷ []) d

    work_taken : (index : ℕ) → d ≡ number_form index → IsNextOfPiece (Some (Whole (Once (Work case (record { session = session; index = index })))))
    work_taken index is = (
      (
        Once (Work case (record { session = session; index = index })),
        ap (λ (x : Data). word_form name_of words.Work ∷ number_form case ∷ number_form session ∷ x ∷ []) is,
        (0, tt),
        refl,
      ),
      omega arith,
    )

    none_worked : ((index : ℕ) → d ≢ number_form index) → IsNextOfPiece None
    none_worked none = λ more. after_word call_form return_form is_call words.Work (number_form case ∷ number_form session ∷ d ∷ more)
        (no_work call_form return_form is_call (number_form case ∷ number_form session ∷ d ∷ more)
        (λ c s index same. let e : d ≡ number_form index = cc in none index e))

  -- ---- after a word

  module _ (d : Data) where
    abbrev IsNextOf : StepWord → Option (StepParts C R) → Type 0
    IsNextOf w next = IsNextPart call_form return_form is_call next (word_form name_of w ∷ []) d

    start_taken : (told : List ℕ) → (d ≡ list_form number_form told) × All (λ n. n ≤ MAX_OPERATIONS) told → IsNextOf words.Start (Some (Whole (Once (Start told))))
    start_taken told is =
        ((Once (Start told), ap (λ (x : Data). word_form name_of words.Start ∷ x ∷ []) is.0, (length told, (refl, is.1)), refl), omega arith)

    none_started : ((told : List ℕ) → AreCounts told → d ≢ list_form number_form told) → IsNextOf words.Start None
    none_started none = λ more. after_word call_form return_form is_call words.Start (d ∷ more)
        (no_start call_form return_form is_call (d ∷ more) (λ same. absurd cc)
        (λ told are same. let e : d ≡ list_form number_form told = cc in none told are e))

    alone_taken : IsNextOf words.Take None
    alone_taken = λ more. too_many call_form return_form is_call words.Take (d ∷ more) (omega arith)

    module _ (w : StepWord) (takes : TakesNumber w) where
      number_taken : (n : ℕ) → d ≡ number_form n → IsNextOf w (Some (Number w n))
      number_taken n is = (takes, ap (λ (x : Data). word_form name_of w ∷ x ∷ []) is)

      number_missing : ((n : ℕ) → d ≢ number_form n) → IsNextOf w None
      number_missing none = λ more. after_word call_form return_form is_call w (d ∷ more)
          (no_number call_form return_form is_call w (d ∷ more) takes (λ n rest same. let e : d ≡ number_form n = cc in none n e))

  -- ---- any element

  module _ (d : Data) (ds : List Data) where
    abbrev IsNextAfter : Option (StepParts C R) → Type 0
    IsNextAfter next = IsNextPart call_form return_form is_call next ds d

    word_taken : (w : StepWord) → ds ≡ [] → d ≡ word_form name_of w → IsNextAfter (Some (Word w))
    word_taken w none is = subst (λ (es : List Data). es ++ d ∷ [] ≡ word_form name_of w ∷ []) (sym none) (ap (λ (x : Data). x ∷ []) is)

    word_missing : ds ≡ [] → ((w : StepWord) → d ≢ word_form name_of w) → IsNextAfter None
    word_missing none other = λ more. subst (λ (es : List Data). AreNoStep call_form return_form is_call (es ++ d ∷ more)) (sym none) (no_word call_form return_form is_call d more other)

    next_after : (next : Option (StepParts C R)) (es : List Data) → ds ≡ es → IsNextPart call_form return_form is_call next es d → IsNextAfter next
    next_after next es same is = subst (λ (xs : List Data). IsNextPart call_form return_form is_call next xs d) (sym same) is

    -- as much as a step with the word may have was taken
    all_taken : (kept : WrittenStep C R) → ArePartsOf call_form return_form is_call (Whole kept) ds → IsNextAfter None
    all_taken kept are = λ more step good same.
        let e : ds ++ d ∷ more ≡ elements_of call_form return_form step = same in
        let first : word_form name_of (word_of are.0.0) ∷ (rest_of are ++ d ∷ more) ≡ elements_of call_form return_form step =
        ap (λ (es : List Data). es ++ d ∷ more) (sym are.0.1) ∙ e in
        too_many call_form return_form is_call (word_of are.0.0) (rest_of are ++ d ∷ more) (enough are more) step good first
      where
        same_word : (step : WrittenStep C R) → word_of (kept_written step) ≡ word_of step
        same_word (Once (Begin s c)) = refl
        same_word (Once (End s r)) = refl
        same_word (Once (Start told)) = refl
        same_word (Once (Look z)) = refl
        same_word (Once (Show z)) = refl
        same_word (Once (File z criterion certificate)) = refl
        same_word (Once Take) = refl
        same_word (Once (Work c o)) = refl
        same_word (Once (Put c v)) = refl
        same_word (Once (Refute c pattern)) = refl
        same_word (Once (Ask c)) = refl
        same_word StartUntold = refl
        same_word (Looks z n) = refl

        rest_of : ArePartsOf call_form return_form is_call (Whole kept) ds → List Data
        rest_of are = arguments_of call_form return_form are.0.0

        enough : (are : ArePartsOf call_form return_form is_call (Whole kept) ds) (more : List Data) → most_elements (word_of are.0.0) < length (rest_of are ++ d ∷ more) + 1
        enough are more =
            let word : most_elements (word_of kept) ≡ most_elements (word_of are.0.0) = ap (λ (w : WrittenStep C R). most_elements (word_of w)) are.0.3 ∙ ap most_elements (same_word are.0.0) in
            let many = ap length are.0.1 in
            let most = are.1 in
            let sum = length-append (rest_of are) (d ∷ more) in
            omega (arith, word, many, most, sum)

    -- what is wanted comes next

    abbrev IsWanted : Option ArgumentKind → Argument C R → Type 0
    IsWanted None a = ⊥
    IsWanted (Some kind) a = IsArgument call_form return_form is_call kind d a

    taken_number : (w : StepWord) → TakesNumber w → ds ≡ word_form name_of w ∷ [] → (a : Argument C R) → IsArgument call_form return_form is_call (kinds.Plain plain_kinds.Number) d a
        → IsNextAfter (with_argument (Word w) a)
    taken_number w takes are (arguments.Plain (plains.Number n)) is = next_after (Some (Number w n)) (word_form name_of w ∷ []) are (number_taken d w takes n is)
    taken_number w takes are _ is = absurd is

    taken_after_word : (w : StepWord) → ds ≡ word_form name_of w ∷ [] → (a : Argument C R) → IsWanted (wanted_after_word w) a → IsNextAfter (with_argument (Word w) a)
    taken_after_word words.Begin are a is = taken_number words.Begin tt are a is
    taken_after_word words.End are a is = taken_number words.End tt are a is
    taken_after_word words.Start are (arguments.Plain (plains.Counts told)) is = next_after (Some (Whole (Once (Start told)))) (word_form name_of words.Start ∷ []) are (start_taken d told is)
    taken_after_word words.Start are _ is = absurd is
    taken_after_word words.Look are a is = taken_number words.Look tt are a is
    taken_after_word words.Show are a is = taken_number words.Show tt are a is
    taken_after_word words.File are a is = taken_number words.File tt are a is
    taken_after_word words.Take are a is = absurd is
    taken_after_word words.Work are a is = taken_number words.Work tt are a is
    taken_after_word words.Put are a is = taken_number words.Put tt are a is
    taken_after_word words.Refute are a is = taken_number words.Refute tt are a is
    taken_after_word words.Ask are a is = taken_number words.Ask tt are a is

    taken_after_number : (w : StepWord) (n : ℕ) → ds ≡ word_form name_of w ∷ number_form n ∷ [] → (a : Argument C R) → IsWanted (wanted_after_number w) a
        → IsNextAfter (with_argument (Number w n) a)
    taken_after_number words.Begin n are (arguments.Call c) is = next_after (Some (Whole (Once (Begin n c)))) (word_form name_of words.Begin ∷ number_form n ∷ []) are (begin_taken n d c is)
    taken_after_number words.Begin n are _ is = absurd is
    taken_after_number words.End n are (arguments.Return r) is = next_after (Some (Whole (Once (End n r)))) (word_form name_of words.End ∷ number_form n ∷ []) are (end_taken n d r is)
    taken_after_number words.End n are _ is = absurd is
    taken_after_number words.Start n are a is = absurd is
    taken_after_number words.Look n are (arguments.Plain (plains.Times times)) is = next_after (Some (Whole (Looks n times))) (word_form name_of words.Look ∷ number_form n ∷ []) are (looks_taken n d times is.0 is.1.0 is.1.1)
    taken_after_number words.Look n are _ is = absurd is
    taken_after_number words.Show n are a is = absurd is
    taken_after_number words.File n are (arguments.Plain (plains.Case criterion certificate)) is = next_after (Some (Whole (Once (File n criterion certificate)))) (word_form name_of words.File ∷ number_form n ∷ []) are (file_taken n d criterion certificate is)
    taken_after_number words.File n are _ is = absurd is
    taken_after_number words.Take n are a is = absurd is
    taken_after_number words.Work n are (arguments.Plain (plains.Number session)) is = next_after (Some (Piece n session)) (word_form name_of words.Work ∷ number_form n ∷ []) are (piece_taken n d session is)
    taken_after_number words.Work n are _ is = absurd is
    taken_after_number words.Put n are (arguments.Plain (plains.Number verdict)) is = next_after (Some (Whole (Once (Put n verdict)))) (word_form name_of words.Put ∷ number_form n ∷ []) are (put_taken n d verdict is)
    taken_after_number words.Put n are _ is = absurd is
    taken_after_number words.Refute n are (arguments.Plain (plains.Pattern pattern)) is = next_after (Some (Whole (Once (Refute n pattern)))) (word_form name_of words.Refute ∷ number_form n ∷ []) are (refute_taken n d pattern is)
    taken_after_number words.Refute n are _ is = absurd is
    taken_after_number words.Ask n are a is = absurd is

    taken_wanted : (parts : StepParts C R) → ArePartsOf call_form return_form is_call parts ds → (a : Argument C R) → IsWanted (wanted_next parts) a
        → IsNextAfter (with_argument parts a)
    taken_wanted Nothing are (arguments.Plain (plains.Word w)) is = word_taken w are is
    taken_wanted Nothing are _ is = absurd is
    taken_wanted (Word w) are a is = taken_after_word w are a is
    taken_wanted (Number w n) are a is = taken_after_number w n are.1 a is
    taken_wanted (Piece case session) are (arguments.Plain (plains.Number index)) is =
        next_after (Some (Whole (Once (Work case (record { session = session; index = index })))))
        (word_form name_of words.Work ∷ number_form case ∷ number_form session ∷ []) are (work_taken case session d index is)
    taken_wanted (Piece case session) are _ is = absurd is
    taken_wanted (Whole kept) are a is = absurd is

    pub next_taken : (parts : StepParts C R) → ArePartsOf call_form return_form is_call parts ds → (kind : ArgumentKind) → Some kind ≡ wanted_next parts
        → (a : Argument C R) → IsArgument call_form return_form is_call kind d a → IsNextAfter (with_argument parts a)
    next_taken parts are kind wants a is = taken_wanted parts are a (subst (λ (o : Option ArgumentKind). IsWanted o a) wants is)

    -- it does not

    abbrev IsMissing : Option ArgumentKind → Type 0
    IsMissing None = ⊥
    IsMissing (Some kind) = IsNoArgument call_form return_form is_call kind d

    missing_after_word : (w : StepWord) → ds ≡ word_form name_of w ∷ [] → IsMissing (wanted_after_word w) → IsNextAfter None
    missing_after_word words.Begin are none = next_after None (word_form name_of words.Begin ∷ []) are (number_missing d words.Begin tt none)
    missing_after_word words.End are none = next_after None (word_form name_of words.End ∷ []) are (number_missing d words.End tt none)
    missing_after_word words.Start are none = next_after None (word_form name_of words.Start ∷ []) are (none_started d none)
    missing_after_word words.Look are none = next_after None (word_form name_of words.Look ∷ []) are (number_missing d words.Look tt none)
    missing_after_word words.Show are none = next_after None (word_form name_of words.Show ∷ []) are (number_missing d words.Show tt none)
    missing_after_word words.File are none = next_after None (word_form name_of words.File ∷ []) are (number_missing d words.File tt none)
    missing_after_word words.Take are none = absurd none
    missing_after_word words.Work are none = next_after None (word_form name_of words.Work ∷ []) are (number_missing d words.Work tt none)
    missing_after_word words.Put are none = next_after None (word_form name_of words.Put ∷ []) are (number_missing d words.Put tt none)
    missing_after_word words.Refute are none = next_after None (word_form name_of words.Refute ∷ []) are (number_missing d words.Refute tt none)
    missing_after_word words.Ask are none = next_after None (word_form name_of words.Ask ∷ []) are (number_missing d words.Ask tt none)

    missing_after_number : (w : StepWord) (n : ℕ) → ds ≡ word_form name_of w ∷ number_form n ∷ [] → IsMissing (wanted_after_number w) → IsNextAfter None
    missing_after_number words.Begin n are none = next_after None (word_form name_of words.Begin ∷ number_form n ∷ []) are (none_begun n d none)
    missing_after_number words.End n are none = next_after None (word_form name_of words.End ∷ number_form n ∷ []) are (none_ended n d none)
    missing_after_number words.Start n are none = absurd none
    missing_after_number words.Look n are none = next_after None (word_form name_of words.Look ∷ number_form n ∷ []) are (no_looks n d none)
    missing_after_number words.Show n are none = absurd none
    missing_after_number words.File n are none = next_after None (word_form name_of words.File ∷ number_form n ∷ []) are (none_filed n d none)
    missing_after_number words.Take n are none = absurd none
    missing_after_number words.Work n are none = next_after None (word_form name_of words.Work ∷ number_form n ∷ []) are (no_piece n d none)
    missing_after_number words.Put n are none = next_after None (word_form name_of words.Put ∷ number_form n ∷ []) are (none_put n d none)
    missing_after_number words.Refute n are none = next_after None (word_form name_of words.Refute ∷ number_form n ∷ []) are (none_refuted n d none)
    missing_after_number words.Ask n are none = absurd none

    missing_wanted : (parts : StepParts C R) → ArePartsOf call_form return_form is_call parts ds → IsMissing (wanted_next parts) → IsNextAfter None
    missing_wanted Nothing are none = word_missing are none
    missing_wanted (Word w) are none = missing_after_word w are none
    missing_wanted (Number w n) are none = missing_after_number w n are.1 none
    missing_wanted (Piece case session) are none =
        next_after None (word_form name_of words.Work ∷ number_form case ∷ number_form session ∷ []) are (none_worked case session d none)
    missing_wanted (Whole kept) are none = absurd none

    pub next_missing : (parts : StepParts C R) → ArePartsOf call_form return_form is_call parts ds → (kind : ArgumentKind) → Some kind ≡ wanted_next parts
        → IsNoArgument call_form return_form is_call kind d → IsNextAfter None
    next_missing parts are kind wants none = missing_wanted parts are (subst IsMissing wants none)

    -- nothing is wanted

    full_after_word : (w : StepWord) → ds ≡ word_form name_of w ∷ [] → None ≡ wanted_after_word w → IsNextAfter None
    full_after_word words.Begin are none = absurd cc
    full_after_word words.End are none = absurd cc
    full_after_word words.Start are none = absurd cc
    full_after_word words.Look are none = absurd cc
    full_after_word words.Show are none = absurd cc
    full_after_word words.File are none = absurd cc
    full_after_word words.Take are none = next_after None (word_form name_of words.Take ∷ []) are (alone_taken d)
    full_after_word words.Work are none = absurd cc
    full_after_word words.Put are none = absurd cc
    full_after_word words.Refute are none = absurd cc
    full_after_word words.Ask are none = absurd cc

    full_after_number : (w : StepWord) (n : ℕ) → TakesNumber w → ds ≡ word_form name_of w ∷ number_form n ∷ [] → None ≡ wanted_after_number w → IsNextAfter None
    full_after_number words.Begin n takes are none = absurd cc
    full_after_number words.End n takes are none = absurd cc
    full_after_number words.Start n takes are none = absurd takes
    full_after_number words.Look n takes are none = absurd cc
    full_after_number words.Show n takes are none = next_after None (word_form name_of words.Show ∷ number_form n ∷ []) are (full n d words.Show (omega arith))
    full_after_number words.File n takes are none = absurd cc
    full_after_number words.Take n takes are none = absurd takes
    full_after_number words.Work n takes are none = absurd cc
    full_after_number words.Put n takes are none = absurd cc
    full_after_number words.Refute n takes are none = absurd cc
    full_after_number words.Ask n takes are none = next_after None (word_form name_of words.Ask ∷ number_form n ∷ []) are (full n d words.Ask (omega arith))

    pub none_wanted : (parts : StepParts C R) → ArePartsOf call_form return_form is_call parts ds → None ≡ wanted_next parts → IsNextAfter None
    none_wanted Nothing are none = absurd cc
    none_wanted (Word w) are none = full_after_word w are none
    none_wanted (Number w n) are none = full_after_number w n are.0 are.1 none
    none_wanted (Piece case session) are none = absurd cc
    none_wanted (Whole kept) are none = all_taken kept are

  -- ---- all elements

  module _ (ds : List Data) where
    abbrev IsWhole : Option (WrittenStep C R) → Type 0
    IsWhole step = MatchOption step (AreNoStep call_form return_form is_call ds) (AreStep call_form return_form is_call ds)

    alone_there : (w : StepWord) → ds ≡ word_form name_of w ∷ [] → (step : WrittenStep C R) → word_form name_of w ∷ [] ≡ elements_of call_form return_form step
        → IsAnyWritten is_call step → kept_written step ≡ step → IsWhole (Some step)
    alone_there w are step same is kept = (step, are ∙ same, is, sym kept)

    not_alone : (w : StepWord) → TakesNumber w → ds ≡ word_form name_of w ∷ [] → IsWhole None
    not_alone w takes are =
        subst (AreNoStep call_form return_form is_call) (sym are)
        (after_word call_form return_form is_call w [] (no_number call_form return_form is_call w [] takes (λ n more same. absurd cc)))

    whole_word : (w : StepWord) → ds ≡ word_form name_of w ∷ [] → IsWhole (alone w)
    whole_word words.Begin are = not_alone words.Begin tt are
    whole_word words.End are = not_alone words.End tt are
    whole_word words.Start are = alone_there words.Start are StartUntold refl (0, tt) refl
    whole_word words.Look are = not_alone words.Look tt are
    whole_word words.Show are = not_alone words.Show tt are
    whole_word words.File are = not_alone words.File tt are
    whole_word words.Take are = alone_there words.Take are (Once Take) refl (0, tt) refl
    whole_word words.Work are = not_alone words.Work tt are
    whole_word words.Put are = not_alone words.Put tt are
    whole_word words.Refute are = not_alone words.Refute tt are
    whole_word words.Ask are = not_alone words.Ask tt are

    module _ (n : ℕ) where
      abbrev IsAlone : StepWord → Type 0
      IsAlone w = ds ≡ word_form name_of w ∷ number_form n ∷ []

      no_more : (w : StepWord) → IsAlone w → ((step : WrittenStep C R) → IsAnyWritten is_call step → word_of step ≡ w
          → number_form n ∷ [] ≢ arguments_of call_form return_form step) → IsWhole None
      no_more w are none =
          subst (AreNoStep call_form return_form is_call) (sym are) (after_word call_form return_form is_call w (number_form n ∷ []) none)

      number_there : (w : StepWord) → IsAlone w → (step : WrittenStep C R) → word_form name_of w ∷ number_form n ∷ [] ≡ elements_of call_form return_form step
          → IsAnyWritten is_call step → kept_written step ≡ step → IsWhole (Some step)
      number_there w are step same is kept = (step, are ∙ same, is, sym kept)

      whole_number : (w : StepWord) → TakesNumber w → IsAlone w → IsWhole (word_with_number w n)
      whole_number words.Begin takes are = no_more words.Begin are (no_begin call_form return_form is_call _ (λ s c good same. absurd cc))
      whole_number words.End takes are = no_more words.End are (no_end call_form return_form is_call _ (λ s r same. absurd cc))
      whole_number words.Start takes are = absurd takes
      whole_number words.Look takes are = number_there words.Look are (Once (Look n)) refl (0, tt) refl
      whole_number words.Show takes are = number_there words.Show are (Once (Show n)) refl (0, tt) refl
      whole_number words.File takes are = no_more words.File are (no_file call_form return_form is_call _ (λ z criterion certificate good same. absurd cc))
      whole_number words.Take takes are = absurd takes
      whole_number words.Work takes are = no_more words.Work are (no_work call_form return_form is_call _ (λ c s i same. absurd cc))
      whole_number words.Put takes are = no_more words.Put are (no_put call_form return_form is_call _ (λ c v same. absurd cc))
      whole_number words.Refute takes are = no_more words.Refute are (no_refute call_form return_form is_call _ (λ c pattern same. absurd cc))
      whole_number words.Ask takes are = number_there words.Ask are (Once (Ask n)) refl (0, tt) refl

    whole_parts : (parts : StepParts C R) → ArePartsOf call_form return_form is_call parts ds → IsWhole (whole_of parts)
    whole_parts Nothing are = λ step good same. let none : [] ≡ elements_of call_form return_form step = sym are ∙ same in absurd cc
    whole_parts (Word w) are = whole_word w are
    whole_parts (Number w n) are = whole_number n w are.0 are.1
    whole_parts (Piece case session) are =
        subst (AreNoStep call_form return_form is_call) (sym are)
        (after_word call_form return_form is_call words.Work _ (no_work call_form return_form is_call _ (λ c s i same. absurd cc)))
    whole_parts (Whole kept) are = are.0

  -- ---- the whole value

  module _ (d : Data) where
    abbrev IsTakenStep : Bool → StepParts C R → Type 0
    IsTakenStep taken parts = IsTakenList (λ (s : Unit {0}). ArePartsOf call_form return_form is_call parts) (AreNoStep call_form return_form is_call) tt taken (elements d)

    step_of : (step : WrittenStep C R) → d ≡ written_form call_form return_form step → elements d ≡ Some (elements_of call_form return_form step)
    step_of step same = ap elements same ∙ elements-list (elements_of call_form return_form step)

    pub step_there : (parts : StepParts C R) (kept : WrittenStep C R) → IsTakenStep true parts → whole_of parts ≡ Some kept → IsAnyStepIn call_form return_form is_call d kept
    step_there parts kept are all =
        let whole = list_taken (ArePartsOf call_form return_form is_call parts) (AreNoStep call_form return_form is_call) d are in
        let is = subst (IsWhole whole.0) all (whole_parts whole.0 parts whole.2) in
        (is.0, list_from_elements d whole.0 whole.1 ∙ ap list is.1, is.2, is.3)

    pub not_all_there : (k : ℕ) (parts : StepParts C R) → IsTakenStep true parts → whole_of parts ≡ None → IsStepIn call_form return_form is_call k d None
    not_all_there k parts are none =
        let whole = list_taken (ArePartsOf call_form return_form is_call parts) (AreNoStep call_form return_form is_call) d are in
        let is = subst (IsWhole whole.0) none (whole_parts whole.0 parts whole.2) in
        λ step good same. is step (k, good) (same_Some whole.0 (elements_of call_form return_form step) (sym whole.1 ∙ step_of step same))

    pub no_step_there : (k : ℕ) (parts : StepParts C R) → IsTakenStep false parts → IsStepIn call_form return_form is_call k d None
    no_step_there k parts are step good same =
        let there : IsTakenList (λ (s : Unit {0}). ArePartsOf call_form return_form is_call parts) (AreNoStep call_form return_form is_call) tt false (Some (elements_of call_form return_form step)) =
        subst (IsTakenList (λ (s : Unit {0}). ArePartsOf call_form return_form is_call parts) (AreNoStep call_form return_form is_call) tt false) (step_of step same) are in
        there step (k, good) refl

    -- ---- the number of sessions

    same_counts : (told counts : List ℕ) → list_form number_form told ≡ list_form number_form counts → length told ≡ length counts
    same_counts told counts same =
        let forms : map number_form told ≡ map number_form counts =
        same_Some _ _ (sym (elements-list (map number_form told)) ∙ ap elements same ∙ elements-list (map number_form counts)) in
        sym (length-map told number_form) ∙ ap length forms ∙ length-map counts number_form

    module _ (k : ℕ) where
      kept_start : (told : List ℕ) (step : WrittenStep C R) → Once (Start told) ≡ kept_written step → step ≡ Once (Start told)
      kept_start told (Once (Begin s c)) same = absurd cc
      kept_start told (Once (End s r)) same = absurd cc
      kept_start told (Once (Start counts)) same = let counts_are : told ≡ counts = cc in ap (λ (x : List ℕ). Once (Start x)) (sym counts_are)
      kept_start told (Once (Look z)) same = absurd cc
      kept_start told (Once (Show z)) same = absurd cc
      kept_start told (Once (File z criterion certificate)) same = absurd cc
      kept_start told (Once Take) same = absurd cc
      kept_start told (Once (Work c o)) same = absurd cc
      kept_start told (Once (Put c v)) same = absurd cc
      kept_start told (Once (Refute c pattern)) same = absurd cc
      kept_start told (Once (Ask c)) same = absurd cc
      kept_start told StartUntold same = absurd cc
      kept_start told (Looks z n) same = absurd cc

      module _ (told : List ℕ) (other : length told ≢ k) where
        no_other : (step : WrittenStep C R) → IsWritten is_call k step → word_of step ≡ words.Start → list_form number_form told ∷ [] ≢ arguments_of call_form return_form step
        no_other (Once (Start counts)) good e same = let lists : list_form number_form told ≡ list_form number_form counts = cc in other (same_counts told counts lists ∙ good.0)
        no_other StartUntold good e same = absurd cc
        no_other _ good e same = absurd cc

        -- a step with another number of counts is none for k sessions
        pub other_counts : IsAnyStepIn call_form return_form is_call d (Once (Start told)) → IsStepIn call_form return_form is_call k d None
        other_counts is step good same =
            let form : d ≡ written_form call_form return_form (Once (Start told)) = is.1 ∙ ap (written_form call_form return_form) (kept_start told is.0 is.3) in
            let both : elements_of call_form return_form (Once (Start told)) ≡ elements_of call_form return_form step =
            same_Some _ _ (sym (step_of (Once (Start told)) form) ∙ step_of step same) in
            let arguments : list_form number_form told ∷ [] ≡ arguments_of call_form return_form step = cc in
            no_other step good (has_word call_form return_form is_call words.Start (list_form number_form told ∷ []) step both) arguments

      pub no_counts : (kept : WrittenStep C R) → IsAnyStepIn call_form return_form is_call d kept → ¬ HasCounts k kept → IsStepIn call_form return_form is_call k d None
      no_counts (Once (Begin s c)) is none = absurd (none tt)
      no_counts (Once (End s r)) is none = absurd (none tt)
      no_counts (Once (Start told)) is none = other_counts told none is
      no_counts (Once (Look z)) is none = absurd (none tt)
      no_counts (Once (Show z)) is none = absurd (none tt)
      no_counts (Once (File z criterion certificate)) is none = absurd (none tt)
      no_counts (Once Take) is none = absurd (none tt)
      no_counts (Once (Work c o)) is none = absurd (none tt)
      no_counts (Once (Put c v)) is none = absurd (none tt)
      no_counts (Once (Refute c pattern)) is none = absurd (none tt)
      no_counts (Once (Ask c)) is none = absurd (none tt)
      no_counts StartUntold is none = absurd (none tt)
      no_counts (Looks z n) is none = absurd (none tt)

      -- what is in range for some number of sessions is in range for k, where the counts of a start are
      for_k : (j : ℕ) (step : WrittenStep C R) → IsWritten is_call j step → HasCounts k (kept_written step) → IsWritten is_call k step
      for_k j (Once (Begin s c)) is has = is
      for_k j (Once (End s r)) is has = is
      for_k j (Once (Start told)) is has = (has, is.1)
      for_k j (Once (Look z)) is has = is
      for_k j (Once (Show z)) is has = is
      for_k j (Once (File z criterion certificate)) is has = is
      for_k j (Once Take) is has = is
      for_k j (Once (Work c o)) is has = is
      for_k j (Once (Put c v)) is has = is
      for_k j (Once (Refute c pattern)) is has = is
      for_k j (Once (Ask c)) is has = is
      for_k j StartUntold is has = is
      for_k j (Looks z n) is has = is

      pub these_counts : (kept : WrittenStep C R) → IsAnyStepIn call_form return_form is_call d kept → HasCounts k kept → IsStepIn call_form return_form is_call k d (Some kept)
      these_counts kept is has = (is.0, is.1, for_k is.2.0 is.0 is.2.1 (subst (HasCounts k) is.3 has), is.3)
