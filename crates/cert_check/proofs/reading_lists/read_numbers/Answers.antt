use Rattle.std.proofs.Common.{map, sym}
use Rattle.serde_json.specs.View.{view}
use Rattle.json_histories.specs.Laws.Json.{list_from_elements}
use Rattle.json_histories.specs.Reads.{number_form}
use Rattle.cert_check.proofs.ListReading.{no_list}
use Rattle.cert_check.proofs.reading_lists.read_numbers.Goals as goal

pub returns-in-Some : goal.returns-in-Some
returns-in-Some g c = rw (list_from_elements (view c.args.value.now) (map view c.in-Some.values.now) (sym c.in-Some.ensures)) c.read_each_number.ensures

pub returns-in-None : goal.returns-in-None
returns-in-None g c = λ numbers good. no_list (λ n. number_form (g.T.Number.whole n)) (view c.args.value.now) c.in-None.ensures numbers
