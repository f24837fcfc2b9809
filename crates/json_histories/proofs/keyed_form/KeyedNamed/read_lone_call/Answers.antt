use Rattle.std.proofs.Common.{map, sym}
use Rattle.std.specs.Prelude.{Some, None}
use Rattle.serde_json.specs.View.{view}
use Rattle.json_histories.proofs.LoneForms.{is_spelled, no_keyed_call, no_whole_keyed_call, keyed_call_read}
use Rattle.json_histories.proofs.keyed_form.KeyedNamed.read_lone_call.Goals as goal

pub returns-in_default : goal.returns-in_default
returns-in_default g c = no_keyed_call g.O.Spelled.word_of g.O.Spelled.arguments (view c.args.value.now) (sym c.in_default.ensures)

pub returns-in_default-read_whole_call : goal.returns-in_default-read_whole_call
returns-in_default-read_whole_call g c =
    no_whole_keyed_call g.O.Spelled.word_of g.O.Spelled.arguments (view c.args.value.now) c.in-Some.word.now c.in-Some.key (map view c.in-Some.rest.now)
    c.in-Some.ensures (is_spelled g.O.Spelled.word_of g.O.Spelled.arguments g.O.Spelled.call_at g.met.O.Spelled.is_spelling.call_read g.met.O.Spelled.is_spelling.call_again c.in-Some.word.now (map view c.in-Some.rest.now) None c.in_default-read_whole_call.ensures)

pub returns : goal.returns
returns g c =
    let spelled = is_spelled g.O.Spelled.word_of g.O.Spelled.arguments g.O.Spelled.call_at g.met.O.Spelled.is_spelling.call_read g.met.O.Spelled.is_spelling.call_again c.in-Some.word.now (map view c.in-Some.rest.now) (Some c.in-Some-read_whole_call.call) c.in-Some-read_whole_call.ensures in
    keyed_call_read g.O.Spelled.word_of g.O.Spelled.arguments (view c.args.value.now) c.in-Some.word.now c.in-Some.key (map view c.in-Some.rest.now)
    c.in-Some.ensures c.in-Some-read_whole_call.call spelled.0 spelled.1
