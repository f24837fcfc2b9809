use Rattle.std.proofs.Common.{◌≡◌, Some, length, map, sym, subst, ap, ◌∙◌}
use Rattle.std.proofs.lemmas.List.{length-map}
use Rattle.std.proofs.lemmas.Result.{IfOk-weaker, IfErr-weaker, on_ok_weaker}
use Rattle.serde_json.specs.View.{view}
use Rattle.json_histories.specs.Json.{elements}
use Rattle.json_histories.specs.Form.{IsReadFrom}
use Rattle.json_histories.specs.Reading.{operations_refusal}
use Rattle.json_histories.specs.Refusals.{IsFirst}
use Rattle.json_histories.proofs.SessionReading.{few_operations, many_operations}
use Rattle.json_histories.proofs.reading.read_session.Goals as goal

pub returns-clause-read : goal.returns-clause-read
returns-clause-read g c =
    let e : elements (view c.args.value.now) ≡ Some (map view c.in-Some.values.now) = sym c.in-Some.ensures in
    IfOk-weaker c.read_operations.result (λ es. IsReadFrom g.O.Named.operation_at g.O.SeqObject.matches (map view c.in-Some.values.now) es.items) _ (λ es read. rw e (ap (λ xs. Some xs) read.read)) c.read_operations.ensures.read

pub returns-clause-is_session : goal.returns-clause-is_session
returns-clause-is_session g c = IfOk-weaker c.read_operations.result _ _ (λ es read. read.is_session) c.read_operations.ensures.read

pub returns-clause-nothing_refused : goal.returns-clause-nothing_refused
returns-clause-nothing_refused g c =
    let ds = map view c.in-Some.values.now in
    let few = few_operations g.O.Named.operation_at c.args.s (length c.in-Some.values.now) (elements (view c.args.value.now)) ds (sym c.in-Some.ensures)
    (simp length-map) c.if-values-gt-MAX_OPERATIONS.false in
    on_ok_weaker c.read_operations.result (λ none. few ∙ none) c.read_operations.ensures.nothing_refused

pub returns-clause-refused : goal.returns-clause-refused
returns-clause-refused g c =
    let ds = map view c.in-Some.values.now in
    let few = few_operations g.O.Named.operation_at c.args.s (length c.in-Some.values.now) (elements (view c.args.value.now)) ds (sym c.in-Some.ensures)
    (simp length-map) c.if-values-gt-MAX_OPERATIONS.false in
    IfErr-weaker c.read_operations.result _ _ (λ e first. subst (λ refusal. IsFirst refusal e) (sym few) first) c.read_operations.ensures.refused

pub returns-then-values-gt-MAX_OPERATIONS-clause-refused : goal.returns-then-values-gt-MAX_OPERATIONS-clause-refused
returns-then-values-gt-MAX_OPERATIONS-clause-refused g c =
    many_operations g.O.Named.operation_at c.args.s (length c.in-Some.values.now) (elements (view c.args.value.now)) (map view c.in-Some.values.now)
    (sym c.in-Some.ensures) (simp length-map) c.if-values-gt-MAX_OPERATIONS.true

pub returns-in_default-clause-refused : goal.returns-in_default-clause-refused
returns-in_default-clause-refused g c = ap (operations_refusal g.O.Named.operation_at c.args.s) (sym c.in_default.ensures)
