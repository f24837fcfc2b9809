use Rattle.std.proofs.Common.{arith, ◌≤◌, length, All}
use Rattle.serde_json.specs.View.{view}
use Rattle.json_histories.specs.Reads.{list_form, number_form}
use Rattle.cert_check.proofs.ListReading.{all_read, no_list, none_fits, one_more_read}
use Rattle.cert_check.proofs.reading_lists.read_lists.Goals as goal

pub returns-in_default-2 : goal.returns-in_default-2
returns-in_default-2 g c =
    let none = rw c.in_default-2.is at c.in_ok-rows.ensures in
    none_fits view (All (All g.T.Number.fits)) (list_form (list_form (λ n. number_form (g.T.Number.whole n)))) c.in-Some.values.now (view c.args.value.now) c.in-Some.ensures c.loop-element.element-index
    c.element-item.result c.element-item.is c.loop-element-test.true none

pub loop-element-preserved : goal.loop-element-preserved
loop-element-preserved g c =
    let read = rw c.in-Some-2.is at c.in_ok-rows.ensures in
    rw c.in_ok-push_rows.ensures.ok (one_more_read view (All (All g.T.Number.fits)) (list_form (list_form (λ n. number_form (g.T.Number.whole n)))) c.in-Some.values.now c.loop-element.element-index
    c.element-item.result c.loop-element.lists c.in-Some-2.rows c.element-item.is c.loop-element-test.true read c.loop-element.invariant)

pub returns : goal.returns
returns g c =
    let ended : length c.in-Some.values.now ≤ c.loop-element.element-index = omega arith in
    all_read view (All (All g.T.Number.fits)) (list_form (list_form (λ n. number_form (g.T.Number.whole n)))) c.in-Some.values.now (view c.args.value.now) c.in-Some.ensures c.loop-element.element-index c.loop-element.lists ended
    c.loop-element.invariant

pub returns-in_default : goal.returns-in_default
returns-in_default g c = λ lists good. no_list (list_form (list_form (λ n. number_form (g.T.Number.whole n)))) (view c.args.value.now) c.in_default.ensures lists
