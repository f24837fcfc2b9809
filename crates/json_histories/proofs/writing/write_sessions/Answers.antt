use Rattle.std.proofs.Common.{◌≡◌, ◌<◌, ◌++◌, ◌∷◌, [], ℕ, List, Option, length, map, ap, subst, ◌∙◌, arith}
use Rattle.std.specs.Prelude.{slice_index_or}
use Rattle.std.proofs.lemmas.List.{take_all}
use Rattle.serde_json.specs.View.{view}
use Rattle.model_history.specs.History.{IsSession}
use Rattle.json_histories.specs.Form.{AreCalls, session_form}
use Rattle.json_histories.proofs.HistoryReading.{empty_session}
use Rattle.json_histories.proofs.JsonLists.{view_list}
use Rattle.json_histories.proofs.PartsWritten.{written_more, holds_more, holds_of_each, no_calls}
use Rattle.json_histories.proofs.writing.write_sessions.Goals as goal

pub loop-s-preserved : goal.loop-s-preserved
loop-s-preserved g c =
    let ss = c.args.history.now.1 in
    let within : c.loop-s.s < length ss = omega (arith, c.loop-s-test.true, c.sessions-s-end.ensures.count) in
    let pushed : c.push.new.self.items ≡ c.loop-s.values.items ++ c.in_ok-value.value ∷ [] = c.in_ok-push.ensures.items in
    record {
      written = ap (map view) pushed ∙ written_more (session_form g.O.Named.operation_form) ss c.loop-s.s c.session.result.now [] c.loop-s.values.items c.in_ok-value.value
          c.session.ensures.operations within c.loop-s.invariant.written c.in_ok-value.ensures.form;
      sessions = holds_more (λ (k : ℕ). IsSession g.O.SeqObject.matches (slice_index_or ss k [])) c.loop-s.s c.loop-s.invariant.sessions
          (subst (λ (es : List (g.row.O-Call.Denot × Option g.row.O-Ret.Denot)). IsSession g.O.SeqObject.matches es) c.session.ensures.operations c.session.ensures.is_session);
      calls = holds_more (λ (k : ℕ). AreCalls g.O.Named.is_call (slice_index_or ss k [])) c.loop-s.s c.loop-s.invariant.calls
          (subst (λ (es : List (g.row.O-Call.Denot × Option g.row.O-Ret.Denot)). AreCalls g.O.Named.is_call es) c.session.ensures.operations c.in_ok-value.ensures.calls);
    }

pub returns-clause-form : goal.returns-clause-form
returns-clause-form g c =
    let form = session_form g.O.Named.operation_form in
    view_list c.loop-s.values (map form c.args.history.now.1) (c.loop-s.invariant.written ∙ ap (map form) (take_all c.loop-s.s c.args.history.now.1 (omega arith)))

pub returns-clause-sessions : goal.returns-clause-sessions
returns-clause-sessions g c =
    holds_of_each (λ (es : List (g.row.O-Call.Denot × Option g.row.O-Ret.Denot)). IsSession g.O.SeqObject.matches es) c.args.history.now.1 c.loop-s.s (omega arith)
    (empty_session g.O.SeqObject.matches) c.loop-s.invariant.sessions

pub returns-clause-calls : goal.returns-clause-calls
returns-clause-calls g c =
    holds_of_each (λ (es : List (g.row.O-Call.Denot × Option g.row.O-Ret.Denot)). AreCalls g.O.Named.is_call es) c.args.history.now.1 c.loop-s.s (omega arith)
    (no_calls g.O.Named.is_call) c.loop-s.invariant.calls
