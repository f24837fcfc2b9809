-- What a run writes, and when it fails.
use Rattle.std.specs.Prelude.{◌≡◌, ◌<◌, ◌≤◌, ℕ, List, Option, IfSome, length}
use Rattle.std.specs.Io.KnownBytes.{Appends}
use Rattle.app_orders.specs.declared.order.Order.{Order}
use Rattle.app_engine.specs.declared.failure.RunError.{RunError}
use Rattle.app_engine.specs.declared.failure.RunError.TheVariants.{History, Script, BadCertificate, ShapeMismatch, NotThatPattern, BadLimits, NoSuch, TooLong, Memory, ReadFault, WriteFault}
use Rattle.json_histories.specs.AnyForm.{IsJson, IsRefusedFor}
use Rattle.json_lines.specs.declared.outcome.Outcome.{Outcome}
use Rattle.json_lines.specs.declared.outcome.Outcome.TheVariants.{Met}
use Rattle.json_lines.specs.Lines.{AreAnswered, lines_of}
use Rattle.app_orders.specs.declared.form.Form.TheVariants.{Words, Json, Certificates, Picture}
use Rattle.app_orders.specs.declared.form.LongForm.TheVariants as long_forms
use Rattle.app_orders.specs.declared.length.Length.TheVariants.{Any}
use Rattle.app_orders.specs.declared.order.Order.TheVariants.{Judge, JudgeLines, Check, Explain, ExplainLong, ListFaults, Refute, Replay, Drive}
use Rattle.app_explanations.specs.Lengths.{IsRefusedAs}
use Rattle.app_explanations.specs.Report.{IsReportAt}
use Rattle.app_engine.specs.Expecting.{IsOutcomeOfReport}
use Rattle.app_engine.specs.LineAnswers.{IsLineAnswer, IsLinesAnswer}
use Rattle.app_engine.specs.Checking.{IsCheckReport, IsPairError, HasOtherShape}
use Rattle.app_engine.specs.Refuting.{IsClaimErrorAt, IsRefutationAt}
use Rattle.app_explanations.specs.Certifying.{IsCertifiedExplanation}
use Rattle.app_explanations.specs.Explaining.{IsExplanation, IsExplanationAt}
use Rattle.app_explanations.specs.ListingFaults.{IsFaultReport}
use Rattle.app_explanations.specs.ExplainingInWords.{IsWorded, IsWordedAt}
use Rattle.app_explanations.specs.Picturing.{IsPicture, IsPictureAt}
use Rattle.app_engine.specs.Driving.{IsDriveReport, IsUndriven}
use Rattle.app_engine.specs.InputLengths.{length_for, most_bytes}
use Rattle.live_script.specs.declared.any_script.AnyScript.{AnyScript}
use Rattle.live_script.specs.AnyScriptForm.{IsAnyScript, IsRefusedFor as IsScriptRefusedFor, form_of as script_form}
use Rattle.live_script.specs.Replays.{IsReplay}

-- the text answers the script in the input: it is the lines of the replies of a run of its steps
pub record IsReplayReport (input text : List ℕ) : Type 0 where
  pub script : AnyScript
  pub is_script : IsAnyScript script
  pub read : IsJson input (script_form script)
  pub lines : IsReplay script text

-- the text is what the order asks for of the input, whatever the number of its workers
abbrev pub IsOutput : Order → List ℕ → List ℕ → Type 0
IsOutput (Judge judging) input text = IsReportAt judging.length input text
IsOutput (JudgeLines judging) input text = IsLinesAnswer judging input text
IsOutput (Check workers) input text = IsCheckReport input text
IsOutput (Explain Words) input text = IsWorded input text
IsOutput (Explain Json) input text = IsExplanation input text
IsOutput (Explain Certificates) input text = IsCertifiedExplanation input text
IsOutput (Explain Picture) input text = IsPicture input text
IsOutput (ExplainLong long_forms.Words) input text = IsWordedAt Any input text
IsOutput (ExplainLong long_forms.Json) input text = IsExplanationAt Any input text
IsOutput (ExplainLong long_forms.Picture) input text = IsPictureAt Any input text
IsOutput (ListFaults listing) input text = IsFaultReport listing input text
IsOutput (Refute long) input text = IsRefutationAt long input text
IsOutput Replay input text = IsReplayReport input text
IsOutput (Drive drive) input text = IsDriveReport drive input text

-- this comes of an output: of a report, what is expected of it; of the answers to lines, what comes of all; and else that all is met
abbrev pub HasOutcome : Order → List ℕ → List ℕ → Outcome → Type 0
HasOutcome (Judge judging) input text outcome = IsOutcomeOfReport judging.length judging.expected input text outcome
HasOutcome (JudgeLines judging) input text outcome = AreAnswered (IsLineAnswer judging) (lines_of input) text outcome
HasOutcome order input text outcome = outcome ≡ Met

-- what can come in place of an output: the input is refused, or memory ran out
abbrev pub IsOutputError : Order → List ℕ → RunError → Type 0
IsOutputError order input Memory = Unit {0}
IsOutputError (Judge judging) input (History refusal) = IsRefusedAs judging.length input refusal
IsOutputError (Check workers) input (History refusal) = IsPairError input (History refusal)
IsOutputError (Check workers) input BadCertificate = IsPairError input BadCertificate
IsOutputError (Check workers) input ShapeMismatch = HasOtherShape input
IsOutputError (Explain form) input (History refusal) = IsRefusedFor input refusal
IsOutputError (ExplainLong form) input (History refusal) = IsRefusedAs Any input refusal
IsOutputError (ListFaults listing) input (History refusal) = IsRefusedAs listing.length input refusal
IsOutputError (Refute long) input (History refusal) = IsClaimErrorAt long input (History refusal)
IsOutputError (Refute long) input NotThatPattern = IsClaimErrorAt long input NotThatPattern
IsOutputError Replay input (Script refusal) = IsScriptRefusedFor input refusal
IsOutputError (Drive drive) input (History refusal) = IsRefusedFor input refusal
IsOutputError (Drive drive) input BadLimits = IsUndriven drive input BadLimits
IsOutputError (Drive drive) input NoSuch = IsUndriven drive input NoSuch
IsOutputError order input _ = ⊥

-- the output for an input was written whole: the writer holds it after what it held, where it tells its bytes
abbrev pub WritesOutput : Order → List ℕ → Option (List ℕ) → Option (List ℕ) → Type 0
WritesOutput order input before after = (text : List ℕ) × IsOutput order input text × Appends before after text

-- an input was read whole, the output for it was written whole, and this comes of it: what the reader had, where it tells its
-- bytes, and what the writer holds after what it held, where it tells its bytes
pub record Completes (order : Order) (reader writer_before writer_after : Option (List ℕ)) (outcome : Outcome) : Type 0 where
  pub input : List ℕ
  pub text : List ℕ
  pub whole : IfSome reader (λ bytes. input ≡ bytes)
  pub within : length input ≤ most_bytes (length_for order)
  pub output : IsOutput order input text
  pub written : Appends writer_before writer_after text
  pub comes : HasOutcome order input text outcome

-- this holds of the input, which has no more than so many bytes: where the reader tells its bytes, of these bytes
abbrev pub IsOfInput : ℕ → Option (List ℕ) → (List ℕ → Type 0) → Type 0
IsOfInput most reader Holds = (input : List ℕ) × IfSome reader (λ bytes. input ≡ bytes) × (length input ≤ most) × Holds input

-- the same of the input of an order
abbrev pub IsOfInputFor : Order → Option (List ℕ) → (List ℕ → Type 0) → Type 0
IsOfInputFor order = IsOfInput (most_bytes (length_for order))

-- why a run failed: the input is too long, or it is refused; or its output could not be written; or memory or the reader
-- failed, which can be at any time
abbrev pub Fails : Order → Option (List ℕ) → RunError → Type 0
Fails order reader TooLong = IfSome reader (λ bytes. most_bytes (length_for order) < length bytes)
Fails order reader (History refusal) = IsOfInputFor order reader (λ input. IsOutputError order input (History refusal))
Fails order reader (Script refusal) = IsOfInputFor order reader (λ input. IsOutputError order input (Script refusal))
Fails order reader BadCertificate = IsOfInputFor order reader (λ input. IsOutputError order input BadCertificate)
Fails order reader ShapeMismatch = IsOfInputFor order reader (λ input. IsOutputError order input ShapeMismatch)
Fails order reader NotThatPattern = IsOfInputFor order reader (λ input. IsOutputError order input NotThatPattern)
Fails order reader BadLimits = IsOfInputFor order reader (λ input. IsOutputError order input BadLimits)
Fails order reader NoSuch = IsOfInputFor order reader (λ input. IsOutputError order input NoSuch)
Fails order reader WriteFault = IsOfInputFor order reader (λ input. (text : List ℕ) × IsOutput order input text)
Fails order reader Memory = Unit {0}
Fails order reader ReadFault = Unit {0}
