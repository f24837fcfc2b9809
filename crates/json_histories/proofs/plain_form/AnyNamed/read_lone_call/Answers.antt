use Rattle.std.proofs.Common.{map}
use Rattle.serde_json.specs.View.{view}
use Rattle.json_histories.proofs.LoneForms.{is_spelled, plain_call_read}
use Rattle.json_histories.proofs.plain_form.AnyNamed.read_lone_call.Goals as goal

pub returns : goal.returns
returns g c =
    plain_call_read g.O.Spelled.word_of g.O.Spelled.arguments (view c.args.value.now) c.in-Some.word.now (map view c.in-Some.rest.now)
    c.read_whole_call.result c.in-Some.ensures.read
    (is_spelled g.O.Spelled.word_of g.O.Spelled.arguments g.O.Spelled.call_at g.met.O.Spelled.is_spelling.call_read g.met.O.Spelled.is_spelling.call_again c.in-Some.word.now (map view c.in-Some.rest.now) c.read_whole_call.result c.read_whole_call.ensures)
