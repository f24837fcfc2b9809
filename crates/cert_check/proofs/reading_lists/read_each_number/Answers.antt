use Rattle.std.proofs.Common.{arith, ◌≤◌, length, map, sym}
use Rattle.serde_json.specs.View.{view}
use Rattle.json_histories.specs.Reads.{number_form}
use Rattle.json_histories.specs.Json.{list}
use Rattle.json_histories.specs.Laws.Json.{elements-list}
use Rattle.cert_check.proofs.ListReading.{all_read, none_fits, one_more_read}
use Rattle.cert_check.proofs.reading_lists.read_each_number.Goals as goal

pub returns-in_default : goal.returns-in_default
returns-in_default g c =
    none_fits view g.T.Number.fits (λ n. number_form (g.T.Number.whole n)) c.args.values.now (list (map view c.args.values.now)) (sym (elements-list (map view c.args.values.now))) c.loop-element.element-index c.element-item.result c.element-item.is
    c.loop-element-test.true c.in_default.ensures

pub returns : goal.returns
returns g c =
    let ended : length c.args.values.now ≤ c.loop-element.element-index = omega arith in
    all_read view g.T.Number.fits (λ n. number_form (g.T.Number.whole n)) c.args.values.now (list (map view c.args.values.now)) (sym (elements-list (map view c.args.values.now))) c.loop-element.element-index c.loop-element.numbers.items ended
    c.loop-element.invariant

pub loop-element-preserved : goal.loop-element-preserved
loop-element-preserved g c =
    rw c.in_ok-push.ensures.items
    (one_more_read view g.T.Number.fits (λ n. number_form (g.T.Number.whole n)) c.args.values.now c.loop-element.element-index c.element-item.result c.loop-element.numbers.items c.in-Some.number
    c.element-item.is c.loop-element-test.true c.in-Some.ensures c.loop-element.invariant)
