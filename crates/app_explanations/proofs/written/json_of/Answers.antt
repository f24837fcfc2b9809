use Rattle.std.proofs.lemmas.Result.{IfOk-weaker}
use Rattle.std.proofs.lemmas.Str.{IsUtf8-string_bytes}
use Rattle.app_explanations.proofs.written.json_of.Goals as goal

pub returns-clause-text : goal.returns-clause-text
returns-clause-text c = IfOk-weaker c.to_string.result _ _ (λ s text. text c.requires.no_float) c.to_string.ensures.text

pub returns-clause-json : goal.returns-clause-json
returns-clause-json c = IfOk-weaker c.to_string.result _ _ (λ s reads. (IsUtf8-string_bytes s, reads c.requires.nests)) c.to_string.ensures.reads_back
