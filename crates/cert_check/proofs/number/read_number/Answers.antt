use Rattle.std.proofs.Common.{◌≡◌, Some, None, ap, ◌∙◌, sym}
use Rattle.serde_json.specs.View.{view}
use Rattle.json_histories.specs.Json.{whole_number}
use Rattle.json_histories.specs.Laws.Json.{whole_number-read}
use Rattle.cert_check.proofs.number.read_number.Goals as goal

pub returns-in-Some : goal.returns-in-Some
returns-in-Some g c = rw (whole_number-read (view c.args.value.now) c.in-Some.number (sym c.in-Some.ensures)) c.of.ensures

pub returns-in-None : goal.returns-in-None
returns-in-None g c = λ n fits same. let no : None ≡ Some (g.T.Number.whole n) = c.in-None.ensures ∙ ap whole_number same in absurd cc
