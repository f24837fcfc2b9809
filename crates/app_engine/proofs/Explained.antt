-- What is written of a history in a form is an output on each input that holds the history.
use Rattle.std.proofs.Common.{ℕ, List}
use Rattle.app_orders.specs.declared.form.Form.TheVariants.{Certificates, Json, Words}
use Rattle.app_orders.specs.declared.length.Length.TheVariants.{Limited}
use Rattle.app_orders.specs.declared.order.Order.TheVariants.{Explain}
use Rattle.json_histories.specs.declared.any_history.AnyHistory.{AnyHistory}
use Rattle.json_histories.specs.AnyForm.{form_of, IsAnyHistory, IsJson}
use Rattle.app_explanations.specs.declared.clients.Clients.TheVariants.{Sessions}
use Rattle.app_explanations.specs.ExplanationTexts.{IsCertifiedJsonOf, IsJsonOf, IsWordsOf}
use Rattle.app_engine.specs.Running.{IsOutput}

module _ (input : List ℕ) (history : AnyHistory) (is : IsAnyHistory history) (read : IsJson input (form_of history)) (text : List ℕ) where
  pub output_in_words : IsWordsOf Limited history text → IsOutput (Explain Words) input text
  output_in_words said = record { history = history; findings = said.0; is_history = is; read = read; found = said.1; told = said.2 }

  pub output_as_json : IsJsonOf Limited Sessions history text → IsOutput (Explain Json) input text
  output_as_json said =
      record { history = history; said = said.0; is_history = is; read = read; true_of = said.1; json = said.2; whole = said.3 }

  pub output_with_certificates : IsCertifiedJsonOf history text → IsOutput (Explain Certificates) input text
  output_with_certificates said =
      record { history = history; said = said.0; is_history = is; read = read; true_of = said.1; json = said.2; whole = said.3 }
