use Rattle.std.proofs.Common.{◌≡◌, ◌++◌, ◌∷◌, [], List, Option, map, ap, subst, ◌∙◌, arith}
use Rattle.std.proofs.lemmas.List.{take_all}
use Rattle.serde_json.specs.View.{view}
use Rattle.json_histories.specs.Form.{AreCalls}
use Rattle.json_histories.proofs.JsonLists.{view_list}
use Rattle.json_histories.proofs.PartsWritten.{written_more, calls_more}
use Rattle.json_histories.proofs.writing.write_session.Goals as goal

pub loop-entry-preserved : goal.loop-entry-preserved
loop-entry-preserved g c =
    let form = λ (e : g.row.O-Call.Denot × Option g.row.O-Ret.Denot). g.O.Named.operation_form e.0 e.1 in
    let e = c.entry-item.result in
    let pushed : c.push.new.self.items ≡ c.loop-entry.values.items ++ c.in_ok-value.value ∷ [] = c.in_ok-push.ensures.items in
    record {
      written = ap (map view) pushed ∙ written_more form c.args.entries.now c.loop-entry.entry-index e e c.loop-entry.values.items c.in_ok-value.value
          c.entry-item.is c.loop-entry-test.true c.loop-entry.invariant.written c.in_ok-value.ensures.form;
      calls = calls_more g.O.Named.is_call c.args.entries.now c.loop-entry.entry-index e
          c.entry-item.is c.loop-entry-test.true c.in_ok-value.ensures.numbers c.loop-entry.invariant.calls;
    }

pub returns-clause-form : goal.returns-clause-form
returns-clause-form g c =
    let form = λ (e : g.row.O-Call.Denot × Option g.row.O-Ret.Denot). g.O.Named.operation_form e.0 e.1 in
    view_list c.loop-entry.values (map form c.args.entries.now) (c.loop-entry.invariant.written ∙ ap (map form) (take_all c.loop-entry.entry-index c.args.entries.now (omega arith)))

pub returns-clause-calls : goal.returns-clause-calls
returns-clause-calls g c =
    let all = take_all c.loop-entry.entry-index c.args.entries.now (omega arith) in
    subst (λ (es : List (g.row.O-Call.Denot × Option g.row.O-Ret.Denot)). AreCalls g.O.Named.is_call es) all c.loop-entry.invariant.calls
