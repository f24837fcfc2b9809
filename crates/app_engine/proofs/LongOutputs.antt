-- What is written of a history of any length is an output on the input in which it was read.
use Rattle.std.proofs.Common.{◌≡◌, ℕ, List, Some, subst, sym}
use Rattle.app_orders.specs.declared.form.ListForm.{ListForm}
use Rattle.app_orders.specs.declared.form.ListForm.TheVariants as list_forms
use Rattle.app_orders.specs.declared.form.LongForm.{LongForm}
use Rattle.app_orders.specs.declared.form.LongForm.TheVariants as long_forms
use Rattle.app_orders.specs.declared.length.Length.{Length}
use Rattle.app_orders.specs.declared.length.Length.TheVariants.{Any}
use Rattle.app_orders.specs.declared.listing.Listing.{Listing}
use Rattle.app_orders.specs.declared.order.Order.TheVariants.{ExplainLong, ListFaults}
use Rattle.json_histories.specs.declared.any_history.AnyHistory.{AnyHistory}
use Rattle.json_histories.specs.declared.any_history.AnyHistory.TheVariants as histories
use Rattle.json_histories.specs.AnyForm.{form_of, IsAnyHistory, IsJson}
use Rattle.order_memory.specs.Memory.{MemoryHistory}
use Rattle.judge_memory.specs.LongHistories.{IsLongHistory}
use Rattle.app_engine.specs.declared.failure.RunError.{RunError}
use Rattle.app_engine.specs.declared.failure.RunError.TheVariants.{History, Script, BadCertificate, ShapeMismatch, NotThatPattern, BadLimits, NoSuch, TooLong, Memory, ReadFault, WriteFault}
use Rattle.app_explanations.specs.Lengths.{IsHistoryOf}
use Rattle.app_explanations.specs.ListingFaults.{IsListedAs}
use Rattle.app_engine.specs.Running.{IsOutput, IsOutputError}
use Rattle.app_explanations.specs.ListTexts.{IsListBy, IsLongOf}
use Rattle.app_explanations.specs.declared.clients.Clients.TheVariants.{Sessions}
use Rattle.app_explanations.specs.ExplanationTexts.{IsExplainedBy}
use Rattle.app_engine.specs.Steps.ReportErrors.{IsReportError}

module _ (input : List ℕ) (history : AnyHistory) where
  pub explained_output : (form : LongForm) (text : List ℕ) → IsHistoryOf Any history → IsJson input (form_of history)
      → IsExplainedBy Any Sessions form history text → IsOutput (ExplainLong form) input text
  explained_output long_forms.Words text is read said =
      record { history = history; findings = said.0; is_history = is; read = read; found = said.1; told = said.2 }
  explained_output long_forms.Json text is read said =
      record { history = history; said = said.0; is_history = is; read = read; true_of = said.1; json = said.2; whole = said.3 }
  explained_output long_forms.Picture text is read svg = record { history = history; is_history = is; read = read; drawn = svg }

  pub listed_output : (form : ListForm) (long : Length) (most : ℕ) (text : List ℕ) → IsHistoryOf long history → IsJson input (form_of history)
      → IsListBy long Sessions form most history text → IsListedAs form long most input text
  listed_output list_forms.Words long most text is read said =
      record { history = history; findings = said.0; is_history = is; read = read; found = said.1; told = said.2 }
  listed_output list_forms.Json long most text is read said =
      record { history = history; said = said.0; is_history = is; read = read; true_of = said.1; json = said.2; whole = said.3 }

-- what comes in the place of a report comes in the place of a list
pub error_listed : (listing : Listing) (input : List ℕ) (e : RunError) → IsReportError listing.length input e → IsOutputError (ListFaults listing) input e
error_listed listing input (History p) is = is
error_listed listing input Memory is = tt
error_listed listing input BadCertificate is = absurd is
error_listed listing input ShapeMismatch is = absurd is
error_listed listing input (Script p) is = absurd is
error_listed listing input TooLong is = absurd is
error_listed listing input NotThatPattern is = absurd is
error_listed listing input BadLimits is = absurd is
error_listed listing input NoSuch is = absurd is
error_listed listing input ReadFault is = absurd is
error_listed listing input WriteFault is = absurd is

-- a memory within the limits is one of any length
pub within_is_long : (h : MemoryHistory) → IsAnyHistory (histories.Memory h) → IsLongHistory h
within_is_long h is =
    let start = is.0.start in
    record {
      start = record { rising = start.rising; small = start.small; not_plain = start.not_plain };
      each = λ s. record { fitting = (is.0.each s).fitting; known_first = (is.0.each s).known_first };
      calls = is.1;
    }

-- what is read of any length of the text of a memory is that memory
pub read_again : (input : List ℕ) (history : AnyHistory) (h g : MemoryHistory) → history ≡ histories.Memory h → IsAnyHistory history
    → IsJson input (form_of history) → ((x : MemoryHistory) → IsLongHistory x → IsJson input (form_of (histories.Memory x)) → g ≡ x)
    → IsLongOf history (Some g)
read_again input history h g same is read only =
    let is_memory : IsAnyHistory (histories.Memory h) = subst IsAnyHistory same is in
    let read_memory : IsJson input (form_of (histories.Memory h)) = subst (λ (x : AnyHistory). IsJson input (form_of x)) same read in
    subst (λ (x : AnyHistory). IsLongOf x (Some g)) (sym same) (only h (within_is_long h is_memory) read_memory)
