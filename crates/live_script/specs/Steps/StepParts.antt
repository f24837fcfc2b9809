-- What is taken of a step, one element after the other.
use Rattle.std.specs.Prelude.{◌≡◌, ◌≢◌, ⊤, ℕ, ◌≤◌, List, [], ◌∷◌, ◌++◌, length, Option, Some, None, MatchOption}
use Rattle.serde_json.specs.Data.{Data}
use Rattle.json_histories.specs.Reads.{number_form}
use Rattle.pattern_json.specs.Words.{word_form}
use Rattle.live_simulation.specs.declared.step.StepOf.TheVariants.{Ask, Begin, End, File, Look, Put, Refute, Show, Start, Take, Work}
use Rattle.live_script.specs.declared.step_argument.Argument.{Argument}
use Rattle.live_script.specs.declared.step_argument.Argument.TheVariants as arguments
use Rattle.live_script.specs.declared.step_argument.ArgumentKind.{ArgumentKind}
use Rattle.live_script.specs.declared.step_argument.ArgumentKind.TheVariants as kinds
use Rattle.live_script.specs.declared.step_argument.Plain.{Plain}
use Rattle.live_script.specs.declared.step_argument.Plain.TheVariants as plains
use Rattle.live_script.specs.declared.step_argument.PlainKind.TheVariants as plain_kinds
use Rattle.live_script.specs.declared.step_parts.StepParts.{StepParts}
use Rattle.live_script.specs.declared.step_parts.StepParts.TheVariants.{Nothing, Word, Number, Piece, Whole}
use Rattle.live_script.specs.declared.step_word.StepWord.{StepWord}
use Rattle.live_script.specs.declared.step_word.StepWord.TheVariants as words
use Rattle.live_script.specs.declared.written_step.WrittenStep.{WrittenStep}
use Rattle.live_script.specs.declared.written_step.WrittenStep.TheVariants.{Looks, Once, StartUntold}
use Rattle.live_script.specs.Shortened.{kept_written}
use Rattle.live_script.specs.StepForm.{arguments_of, word_of, written_form, IsWritten}
use Rattle.live_script.specs.StepWords.{name_of}

-- a number comes after the word
abbrev pub TakesNumber : StepWord → Type 0
TakesNumber words.Start = ⊥
TakesNumber words.Take = ⊥
TakesNumber _ = ⊤

-- the kind of argument that comes after a word, and after a word and a number
abbrev pub wanted_after_word : StepWord → Option ArgumentKind
wanted_after_word words.Begin = Some (kinds.Plain plain_kinds.Number)
wanted_after_word words.End = Some (kinds.Plain plain_kinds.Number)
wanted_after_word words.Start = Some (kinds.Plain plain_kinds.Counts)
wanted_after_word words.Look = Some (kinds.Plain plain_kinds.Number)
wanted_after_word words.Show = Some (kinds.Plain plain_kinds.Number)
wanted_after_word words.File = Some (kinds.Plain plain_kinds.Number)
wanted_after_word words.Take = None
wanted_after_word words.Work = Some (kinds.Plain plain_kinds.Number)
wanted_after_word words.Put = Some (kinds.Plain plain_kinds.Number)
wanted_after_word words.Refute = Some (kinds.Plain plain_kinds.Number)
wanted_after_word words.Ask = Some (kinds.Plain plain_kinds.Number)

abbrev pub wanted_after_number : StepWord → Option ArgumentKind
wanted_after_number words.Begin = Some kinds.Call
wanted_after_number words.End = Some kinds.Return
wanted_after_number words.Start = None
wanted_after_number words.Look = Some (kinds.Plain plain_kinds.Times)
wanted_after_number words.Show = None
wanted_after_number words.File = Some (kinds.Plain plain_kinds.Case)
wanted_after_number words.Take = None
wanted_after_number words.Work = Some (kinds.Plain plain_kinds.Number)
wanted_after_number words.Put = Some (kinds.Plain plain_kinds.Number)
wanted_after_number words.Refute = Some (kinds.Plain plain_kinds.Pattern)
wanted_after_number words.Ask = None

-- the most elements of a step with the word
abbrev pub most_elements : StepWord → ℕ
most_elements words.Begin = 3
most_elements words.End = 3
most_elements words.Start = 2
most_elements words.Look = 3
most_elements words.Show = 2
most_elements words.File = 3
most_elements words.Take = 1
most_elements words.Work = 4
most_elements words.Put = 3
most_elements words.Refute = 3
most_elements words.Ask = 2

module _ {C R : Type 0} where
  -- the step that a word is by itself, and with a number
  abbrev pub alone : StepWord → Option (WrittenStep C R)
  alone words.Begin = None
  alone words.End = None
  alone words.Start = Some StartUntold
  alone words.Look = None
  alone words.Show = None
  alone words.File = None
  alone words.Take = Some (Once Take)
  alone words.Work = None
  alone words.Put = None
  alone words.Refute = None
  alone words.Ask = None

  abbrev pub word_with_number : StepWord → ℕ → Option (WrittenStep C R)
  word_with_number words.Begin n = None
  word_with_number words.End n = None
  word_with_number words.Start n = None
  word_with_number words.Look n = Some (Once (Look n))
  word_with_number words.Show n = Some (Once (Show n))
  word_with_number words.File n = None
  word_with_number words.Take n = None
  word_with_number words.Work n = None
  word_with_number words.Put n = None
  word_with_number words.Refute n = None
  word_with_number words.Ask n = Some (Once (Ask n))

  -- the kind of argument that comes next
  abbrev pub wanted_next : StepParts C R → Option ArgumentKind
  wanted_next Nothing = Some (kinds.Plain plain_kinds.Word)
  wanted_next (Word word) = wanted_after_word word
  wanted_next (Number word n) = wanted_after_number word
  wanted_next (Piece case session) = Some (kinds.Plain plain_kinds.Number)
  wanted_next (Whole step) = None

  -- the number after the word
  abbrev pub number_of : StepParts C R → ℕ
  number_of Nothing = 0
  number_of (Word _) = 0
  number_of (Number _ n) = n
  number_of (Piece _ _) = 0
  number_of (Whole _) = 0

  -- what was taken, with one more number, and with one more argument that is wanted
  abbrev pub number_after : StepWord → ℕ → ℕ → Option (StepParts C R)
  number_after words.Begin before n = None
  number_after words.End before n = None
  number_after words.Start before n = None
  number_after words.Look before n = None
  number_after words.Show before n = None
  number_after words.File before n = None
  number_after words.Take before n = None
  number_after words.Work before n = Some (Piece before n)
  number_after words.Put before n = Some (Whole (Once (Put before n)))
  number_after words.Refute before n = None
  number_after words.Ask before n = None

  abbrev pub with_number : StepParts C R → ℕ → Option (StepParts C R)
  with_number Nothing n = None
  with_number (Word word) n = Some (Number word n)
  with_number (Number word before) n = number_after word before n
  with_number (Piece case session) n = Some (Whole (Once (Work case (record { session = session; index = n }))))
  with_number (Whole step) n = None

  abbrev pub with_plain : StepParts C R → Plain → Option (StepParts C R)
  with_plain parts (plains.Word word) = Some (Word word)
  with_plain parts (plains.Number n) = with_number parts n
  with_plain parts (plains.Times times) = Some (Whole (Looks (number_of parts) times))
  with_plain parts (plains.Counts counts) = Some (Whole (Once (Start counts)))
  with_plain parts (plains.Case criterion certificate) = Some (Whole (Once (File (number_of parts) criterion certificate)))
  with_plain parts (plains.Pattern pattern) = Some (Whole (Once (Refute (number_of parts) pattern)))

  abbrev pub with_argument : StepParts C R → Argument C R → Option (StepParts C R)
  with_argument parts (arguments.Call c) = Some (Whole (Once (Begin (number_of parts) c)))
  with_argument parts (arguments.Return r) = Some (Whole (Once (End (number_of parts) r)))
  with_argument parts (arguments.Plain plain) = with_plain parts plain

  -- the step that was taken, where no more is taken
  abbrev pub whole_of : StepParts C R → Option (WrittenStep C R)
  whole_of Nothing = None
  whole_of (Word word) = alone word
  whole_of (Number word n) = word_with_number word n
  whole_of (Piece case session) = None
  whole_of (Whole step) = Some step

-- a step that gives a sealer counts gives it k of them
abbrev pub HasCounts : {C R : Type 0} → ℕ → WrittenStep C R → Type 0
HasCounts k (Once (Start told)) = length told ≡ k
HasCounts k _ = ⊤

-- what a step names is in range for some number of sessions
abbrev pub IsAnyWritten : {C R : Type 0} → (C → Type 0) → WrittenStep C R → Type 0
IsAnyWritten is_call step = (k : ℕ) × IsWritten is_call k step

module _ {C R : Type 0} (call_form : C → Data) (return_form : R → Data) where
  -- the elements of the form of a step
  abbrev pub elements_of : WrittenStep C R → List Data
  elements_of step = word_form name_of (word_of step) ∷ arguments_of call_form return_form step

module _ {C R : Type 0} (call_form : C → Data) (return_form : R → Data) (is_call : C → Type 0) where
  -- these are the elements of no step
  abbrev pub AreNoStep : List Data → Type 0
  AreNoStep ds = (step : WrittenStep C R) → IsAnyWritten is_call step → ds ≢ elements_of call_form return_form step

  -- these are the elements of the step of which this is kept
  abbrev pub AreStep : List Data → WrittenStep C R → Type 0
  AreStep ds kept = (step : WrittenStep C R) × (ds ≡ elements_of call_form return_form step) × IsAnyWritten is_call step × (kept ≡ kept_written step)

  -- these elements were taken
  abbrev pub ArePartsOf : StepParts C R → List Data → Type 0
  ArePartsOf Nothing ds = ds ≡ []
  ArePartsOf (Word word) ds = ds ≡ word_form name_of word ∷ []
  ArePartsOf (Number word n) ds = TakesNumber word × (ds ≡ word_form name_of word ∷ number_form n ∷ [])
  ArePartsOf (Piece case session) ds = ds ≡ word_form name_of words.Work ∷ number_form case ∷ number_form session ∷ []
  ArePartsOf (Whole kept) ds = AreStep ds kept × (most_elements (word_of kept) ≤ length ds)

  -- one element more gives these, or no step goes on so
  abbrev pub IsNextPart : Option (StepParts C R) → List Data → Data → Type 0
  IsNextPart next ds d = MatchOption next ((more : List Data) → AreNoStep (ds ++ d ∷ more)) (λ parts. ArePartsOf parts (ds ++ d ∷ []))

  -- this is kept of the step for some number of sessions whose form the value is
  abbrev pub IsAnyStepIn : Data → WrittenStep C R → Type 0
  IsAnyStepIn d kept =
      (step : WrittenStep C R) × (d ≡ written_form call_form return_form step) × IsAnyWritten is_call step × (kept ≡ kept_written step)

  -- what is kept of the step for k sessions whose form the value is; or it is the form of none
  abbrev pub IsStepIn : ℕ → Data → Option (WrittenStep C R) → Type 0
  IsStepIn k d (Some kept) =
      (step : WrittenStep C R) × (d ≡ written_form call_form return_form step) × IsWritten is_call k step × (kept ≡ kept_written step)
  IsStepIn k d None = (step : WrittenStep C R) → IsWritten is_call k step → d ≢ written_form call_form return_form step
