-- What is said of a run that failed, and its status.
use Rattle.std.specs.Prelude.{◌≡◌, ◌⊎◌, ◌++◌, ℕ, List, [], Bool, true, Option, Some, None, codes}
use Rattle.std.specs.Io.KnownBytes.{Appends}
use Rattle.app_orders.specs.declared.detail.Detail.{Detail}
use Rattle.app_orders.specs.declared.detail.Detail.TheVariants.{Number, Reason}
use Rattle.app_orders.specs.declared.length.Length.{Length}
use Rattle.app_orders.specs.declared.length.Length.TheVariants as lengths
use Rattle.app_orders.specs.declared.order.Order.{Order}
use Rattle.app_orders.specs.declared.order.Order.TheVariants as orders
use Rattle.json_histories.specs.declared.read_error.ReadError.TheVariants as reads
use Rattle.live_script.specs.declared.script_error.ScriptError.{ScriptError}
use Rattle.live_script.specs.declared.script_error.ScriptError.TheVariants as scripts
use Rattle.show_refusals.specs.declared.refusal.InputForm.{InputForm}
use Rattle.show_refusals.specs.declared.refusal.InputForm.TheVariants as forms
use Rattle.show_refusals.specs.declared.refusal.Refusal.{Refusal}
use Rattle.show_refusals.specs.declared.refusal.Refusal.TheVariants as refusals
use Rattle.show_refusals.specs.Fronts.{front_for}
use Rattle.show_refusals.specs.Lines.{BeginsWith, IsPlain}
use Rattle.app_engine.specs.declared.failure.RunError.{RunError}
use Rattle.app_engine.specs.declared.failure.RunError.TheVariants as failures
use Rattle.app_engine.specs.Failure.{failure_status, line_for}
use Rattle.app_process.specs.Saying.{Known, said_lines}

-- what the input of an order is to be
abbrev pub history_form : Length → InputForm
history_form lengths.Limited = forms.History
history_form lengths.Any = forms.LongHistory

abbrev pub claim_form : Length → InputForm
claim_form lengths.Limited = forms.Claim
claim_form lengths.Any = forms.LongClaim

abbrev pub form_for : Order → InputForm
form_for (orders.Judge judging) = history_form judging.length
form_for (orders.ExplainLong form) = forms.LongHistory
form_for (orders.ListFaults listing) = history_form listing.length
form_for (orders.Check workers) = forms.Certified
form_for (orders.Refute length) = claim_form length
form_for orders.Replay = forms.Script
form_for (orders.JudgeLines judging) = forms.History
form_for (orders.Explain form) = forms.History
form_for (orders.Drive drive) = forms.History

-- why a script was refused
abbrev pub script_refusal : ScriptError → Option Refusal
script_refusal scripts.NotJson = Some (refusals.Read reads.NotJson)
script_refusal scripts.BadShape = Some (refusals.Read reads.BadShape)
script_refusal scripts.UnknownObject = Some (refusals.Read reads.UnknownObject)
script_refusal scripts.BadInitial = Some (refusals.Read reads.BadInitial)
script_refusal scripts.BadLimits = Some refusals.BadSessions
script_refusal (scripts.BadStep place) = Some (refusals.BadStep place)
script_refusal scripts.TooManySteps = Some refusals.TooManySteps
script_refusal scripts.Memory = None

-- why an input that is too long was refused
abbrev pub long_refusal : InputForm → Refusal
long_refusal forms.LongHistory = refusals.OverLong
long_refusal forms.LongClaim = refusals.OverLong
long_refusal _ = refusals.TooLong

-- why an input of this form was refused, where that is why a run failed
abbrev pub refusal_for : InputForm → RunError → Option Refusal
refusal_for form (failures.History refused) = Some (refusals.Read refused)
refusal_for form (failures.Script refused) = script_refusal refused
refusal_for form failures.BadCertificate = Some refusals.BadCertificate
refusal_for form failures.ShapeMismatch = Some refusals.ShapeMismatch
refusal_for form failures.NotThatPattern = Some refusals.NotThatPattern
refusal_for form failures.BadLimits = Some refusals.NoSession
refusal_for form failures.NoSuch = Some refusals.NoSuchSession
refusal_for form failures.TooLong = Some (long_refusal form)
refusal_for form failures.Memory = None
refusal_for form failures.ReadFault = None
refusal_for form failures.WriteFault = None

-- the line says why an input was refused
pub record IsReason (refusal : Option Refusal) (line : List ℕ) : Type 0 where
  pub what : Refusal
  pub is_refusal : refusal ≡ Some what
  pub begins : BeginsWith (front_for what) line
  pub plain : IsPlain line

-- how a reason is asked for
abbrev pub asks_why : List ℕ
asks_why = codes "--why says what is wrong; a FILE in the place of '<' finds its form"

-- what is said after the line of a failure: the reason of a refusal, where it was asked for and memory sufficed; or, at a terminal, how to ask
-- for it
abbrev pub IsFurther : Option (List ℕ) → Bool → Detail → Option Refusal → List ℕ → Type 0
IsFurther label at_terminal detail refusal text =
    (text ≡ [])
    ⊎ (((line : List ℕ) × (detail ≡ Reason) × IsReason refusal line × (text ≡ said_lines label line))
    ⊎ ((detail ≡ Number) × (at_terminal ≡ true) × (text ≡ said_lines label asks_why)))

abbrev pub SaysFurther : Option (List ℕ) → Bool → Detail → Option Refusal → Known → Known → Type 0
SaysFurther label at_terminal detail refusal before after =
    (text : List ℕ) × IsFurther label at_terminal detail refusal text × Appends before after text

-- memory was short for the line of a failure
abbrev pub LacksMemory : Option (List ℕ) → Known → Known → ℕ → Type 0
LacksMemory label before after status = (status ≡ 4) × Appends before after (said_lines label (codes "no memory"))

-- a failure is said in a line, and this is its status
abbrev pub Tells : Option (List ℕ) → RunError → Known → Known → ℕ → Type 0
Tells label error before after status =
    ((status ≡ failure_status error) × Appends before after (said_lines label (line_for error))) ⊎ LacksMemory label before after status

-- the same with what is said of the input after it
pub record TellsWhy (label : Option (List ℕ)) (at_terminal : Bool) (detail : Detail) (refusal : Option Refusal) (error : RunError) (before after : Known) (status : ℕ) : Type 0 where
  pub further : List ℕ
  pub is_status : status ≡ failure_status error
  pub is_further : IsFurther label at_terminal detail refusal further
  pub said : Appends before after (said_lines label (line_for error) ++ further)

abbrev pub Refuses : Option (List ℕ) → Bool → Detail → Option Refusal → RunError → Known → Known → ℕ → Type 0
Refuses label at_terminal detail refusal error before after status =
    TellsWhy label at_terminal detail refusal error before after status ⊎ LacksMemory label before after status
