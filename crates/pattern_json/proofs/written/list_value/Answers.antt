use Rattle.std.proofs.Common.{◌∷◌, [], ◌++◌, map, ap, ◌≡◌, ◌∙◌, arith}
use Rattle.std.proofs.lemmas.List.{take_all}
use Rattle.serde_json.specs.View.{view}
use Rattle.json_histories.proofs.JsonLists.{view_list}
use Rattle.json_histories.proofs.PartsWritten.{written_more}
use Rattle.pattern_json.proofs.written.list_value.Goals as goal

pub loop-item-preserved : goal.loop-item-preserved
loop-item-preserved g c =
    let e = c.item-item.result in
    let pushed : c.push.new.self.items ≡ c.loop-item.values.items ++ c.in_ok-value.value ∷ [] = c.in_ok-push.ensures.items in
    ap (map view) pushed ∙ written_more g.T.Written.form c.args.items.now c.loop-item.item-index e e c.loop-item.values.items c.in_ok-value.value
    c.item-item.is c.loop-item-test.true c.loop-item.invariant c.in_ok-value.ensures

pub returns : goal.returns
returns g c =
    view_list c.loop-item.values (map g.T.Written.form c.args.items.now) (c.loop-item.invariant ∙ ap (map g.T.Written.form) (take_all c.loop-item.item-index c.args.items.now (omega arith)))
