-- What a step names after its word, and what is wanted next of a step.
use Rattle.std.specs.Prelude.{◌≡◌, ◌≢◌, ℕ, ◌<◌, ◌≤◌, List, All, Option, Some, None}
use Rattle.model_history.specs.declared.limits.TheConstants.{MAX_OPERATIONS}
use Rattle.serde_json.specs.Data.{Data}
use Rattle.json_histories.specs.Reads.{list_form, number_form}
use Rattle.pattern_check.specs.declared.pattern.Pattern.{Pattern}
use Rattle.pattern_json.specs.PatternForm.{form_of as pattern_form}
use Rattle.pattern_json.specs.Words.{word_form}
use Rattle.live_script.specs.declared.step_argument.Argument.{Argument}
use Rattle.live_script.specs.declared.step_argument.Argument.TheVariants.{Call, Return, Plain as APlain}
use Rattle.live_script.specs.declared.step_argument.ArgumentKind.{ArgumentKind}
use Rattle.live_script.specs.declared.step_argument.ArgumentKind.TheVariants as kinds
use Rattle.live_script.specs.declared.step_argument.Plain.{Plain}
use Rattle.live_script.specs.declared.step_argument.Plain.TheVariants.{Word, Number, Times, Counts, Case, Pattern as Found}
use Rattle.live_script.specs.declared.step_argument.PlainKind.{PlainKind}
use Rattle.live_script.specs.declared.step_argument.PlainKind.TheVariants as plain_kinds
use Rattle.live_script.specs.declared.step_word.StepWord.{StepWord}
use Rattle.live_script.specs.declared.written_step.TheConstants.{MAX_LOOKS}
use Rattle.live_script.specs.StepWords.{name_of}
use Rattle.live_script.specs.Steps.Filing.{IsCaseIn}

-- a number of looks
abbrev pub IsTimes : ℕ → Type 0
IsTimes n = (0 < n) × (n ≤ MAX_LOOKS)

-- counts that may be given to a sealer
abbrev pub AreCounts : List ℕ → Type 0
AreCounts told = All (λ n. n ≤ MAX_OPERATIONS) told

-- the value is the form of this argument of any object's steps, which is of this kind
abbrev pub IsPlain : PlainKind → Data → Plain → Type 0
IsPlain plain_kinds.Word d (Word word) = d ≡ word_form name_of word
IsPlain plain_kinds.Number d (Number n) = d ≡ number_form n
IsPlain plain_kinds.Times d (Times n) = (d ≡ number_form n) × IsTimes n
IsPlain plain_kinds.Counts d (Counts told) = (d ≡ list_form number_form told) × AreCounts told
IsPlain plain_kinds.Case d (Case criterion certificate) = IsCaseIn d (Some (criterion, certificate))
IsPlain plain_kinds.Pattern d (Found pattern) = d ≡ pattern_form pattern
IsPlain _ d _ = ⊥

-- the value is the form of no such argument of this kind
abbrev pub IsNoPlain : PlainKind → Data → Type 0
IsNoPlain plain_kinds.Word d = (word : StepWord) → d ≢ word_form name_of word
IsNoPlain plain_kinds.Number d = (n : ℕ) → d ≢ number_form n
IsNoPlain plain_kinds.Times d = (n : ℕ) → IsTimes n → d ≢ number_form n
IsNoPlain plain_kinds.Counts d = (told : List ℕ) → AreCounts told → d ≢ list_form number_form told
IsNoPlain plain_kinds.Case d = IsCaseIn d None
IsNoPlain plain_kinds.Pattern d = (pattern : Pattern) → d ≢ pattern_form pattern

abbrev pub IsPlainIn : PlainKind → Data → Option Plain → Type 0
IsPlainIn kind d (Some plain) = IsPlain kind d plain
IsPlainIn kind d None = IsNoPlain kind d

module _ {C R : Type 0} (call_form : C → Data) (return_form : R → Data) (is_call : C → Type 0) where
  -- the same for an argument of one object's steps
  abbrev pub IsArgument : ArgumentKind → Data → Argument C R → Type 0
  IsArgument kinds.Call d (Call c) = (d ≡ call_form c) × is_call c
  IsArgument kinds.Return d (Return r) = d ≡ return_form r
  IsArgument (kinds.Plain kind) d (APlain plain) = IsPlain kind d plain
  IsArgument _ d _ = ⊥

  abbrev pub IsNoArgument : ArgumentKind → Data → Type 0
  IsNoArgument kinds.Call d = (c : C) → is_call c → d ≢ call_form c
  IsNoArgument kinds.Return d = (r : R) → d ≢ return_form r
  IsNoArgument (kinds.Plain kind) d = IsNoPlain kind d

  abbrev pub IsArgumentIn : ArgumentKind → Data → Option (Argument C R) → Type 0
  IsArgumentIn kind d (Some argument) = IsArgument kind d argument
  IsArgumentIn kind d None = IsNoArgument kind d
