use Rattle.std.proofs.Common.{subst, sym}
use Rattle.std.proofs.lemmas.Result.{IfOk-weaker}
use Rattle.std.specs.Prelude.{IfOk, string_bytes}
use Rattle.app_orders.specs.declared.form.Form.TheVariants.{Certificates, Json, Picture, Words}
use Rattle.app_orders.specs.declared.order.Order.TheVariants.{Explain}
use Rattle.app_engine.specs.Running.{IsOutput}
use Rattle.app_engine.proofs.Explained.{output_as_json, output_in_words, output_with_certificates}
use Rattle.app_engine.proofs.explaining.text_in.Goals as goal

pub returns-in-Words : goal.returns-in-Words
returns-in-Words g c = record {
  output = λ input is read. subst (λ form. IfOk c.words_of_history.result (λ text. IsOutput (Explain form) input (string_bytes text))) (sym c.in-Words.is)
      (IfOk-weaker c.words_of_history.result _ (λ text. IsOutput (Explain Words) input (string_bytes text))
      (λ text. output_in_words input c.args.history.now is read (string_bytes text)) c.words_of_history.ensures);
}

pub returns-in-Json : goal.returns-in-Json
returns-in-Json g c = record {
  output = λ input is read. subst (λ form. IfOk c.json_of_history.result (λ text. IsOutput (Explain form) input (string_bytes text))) (sym c.in-Json.is)
      (IfOk-weaker c.json_of_history.result _ (λ text. IsOutput (Explain Json) input (string_bytes text))
      (λ text. output_as_json input c.args.history.now is read (string_bytes text)) c.json_of_history.ensures);
}

pub returns-in-Certificates : goal.returns-in-Certificates
returns-in-Certificates g c = record {
  output = λ input is read. subst (λ form. IfOk c.certified_json_of_history.result (λ text. IsOutput (Explain form) input (string_bytes text))) (sym c.in-Certificates.is)
      (IfOk-weaker c.certified_json_of_history.result _ (λ text. IsOutput (Explain Certificates) input (string_bytes text))
      (λ text. output_with_certificates input c.args.history.now is read (string_bytes text)) c.certified_json_of_history.ensures);
}

pub returns-in-Picture : goal.returns-in-Picture
returns-in-Picture g c = record {
  output = λ input is read. subst (λ form. IfOk c.drawing_of_history.result (λ text. IsOutput (Explain form) input (string_bytes text))) (sym c.in-Picture.is)
      (IfOk-weaker c.drawing_of_history.result _ (λ text. IsOutput (Explain Picture) input (string_bytes text))
      (λ text drawn. record { history = c.args.history.now; is_history = is; read = read; drawn = drawn }) c.drawing_of_history.ensures);
}
