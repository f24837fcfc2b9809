use Rattle.std.proofs.Common.{◌∷◌, [], ◌++◌, map, ap, refl, ◌≡◌, ◌∙◌, arith}
use Rattle.std.specs.Prelude.{slice_index_or}
use Rattle.std.proofs.lemmas.List.{take_all}
use Rattle.serde_json.specs.View.{view}
use Rattle.json_histories.specs.Reads.{list_form}
use Rattle.json_histories.proofs.JsonLists.{view_list}
use Rattle.json_histories.proofs.PartsWritten.{written_more}
use Rattle.pattern_json.proofs.writing_certificates.lists_value.Goals as goal

pub loop-session-preserved : goal.loop-session-preserved
loop-session-preserved g c =
    let lists = c.args.lists.now in
    let rows = slice_index_or lists c.loop-session.session [] in
    let pushed : c.push.new.self.items ≡ c.loop-session.values.items ++ c.in_ok-value.value ∷ [] = c.in_ok-push.ensures.items in
    ap (map view) pushed ∙ written_more (list_form (list_form g.T.Written.form)) lists c.loop-session.session rows [] c.loop-session.values.items c.in_ok-value.value
    refl (omega arith) c.loop-session.invariant c.in_ok-value.ensures

pub returns : goal.returns
returns g c =
    let lists = c.args.lists.now in
    view_list c.loop-session.values (map (list_form (list_form g.T.Written.form)) lists)
    (c.loop-session.invariant ∙ ap (map (list_form (list_form g.T.Written.form))) (take_all c.loop-session.session lists (omega arith)))
