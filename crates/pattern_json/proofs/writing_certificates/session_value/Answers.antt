use Rattle.std.proofs.Common.{◌∷◌, [], ◌++◌, map, ap, refl, ◌≡◌, ◌∙◌, arith}
use Rattle.std.specs.Prelude.{slice_index_or}
use Rattle.std.proofs.lemmas.List.{take_all}
use Rattle.serde_json.specs.View.{view}
use Rattle.order_causal.specs.Vectors.{list_of}
use Rattle.json_histories.specs.Reads.{list_form}
use Rattle.json_histories.proofs.JsonLists.{view_list}
use Rattle.json_histories.proofs.PartsWritten.{written_more}
use Rattle.pattern_json.proofs.writing_certificates.session_value.Goals as goal

pub loop-index-preserved : goal.loop-index-preserved
loop-index-preserved g c =
    let rows = slice_index_or c.args.lists.now c.args.session [] in
    let row = slice_index_or rows c.loop-index.index [] in
    let pushed : c.push.new.self.items ≡ c.loop-index.values.items ++ c.in_ok-value.value ∷ [] = c.in_ok-push.ensures.items in
    ap (map view) pushed ∙ written_more (list_form g.T.Written.form) rows c.loop-index.index row [] c.loop-index.values.items c.in_ok-value.value
    refl (omega arith) c.loop-index.invariant
    (c.in_ok-value.ensures ∙ ap (list_form g.T.Written.form) (c.get.ensures ∙ ap (list_of c.args.lists.now) c.at.ensures))

pub returns : goal.returns
returns g c =
    let rows = slice_index_or c.args.lists.now c.args.session [] in
    view_list c.loop-index.values (map (list_form g.T.Written.form) rows)
    (c.loop-index.invariant ∙ ap (map (list_form g.T.Written.form)) (take_all c.loop-index.index rows (omega arith)))
