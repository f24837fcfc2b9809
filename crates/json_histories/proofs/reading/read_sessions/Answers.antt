use Rattle.std.proofs.Common.{◌≡◌, ◌∙◌, ◌++◌, ◌∷◌, [], map, length, ap, arith, ◌≤◌}
use Rattle.std.proofs.lemmas.List.{length-map, map_push}
use Rattle.std.proofs.lemmas.Result.{err_from_is_err_and}
use Rattle.serde_json.specs.View.{view}
use Rattle.json_histories.specs.Json.{elements}
use Rattle.json_histories.specs.Reading.{operations_refusal, sessions_refusal, first_among, session_refusal}
use Rattle.json_histories.proofs.ListLaws.{slice_get-mapped}
use Rattle.json_histories.proofs.HistoryReading.{all_fine, all_read, as_many, many_sessions, reads_no_session, reads_on, refused_there, few_sessions, IsFirst-moves}
use Rattle.json_histories.proofs.reading.read_sessions.Goals as goal

pub returns-in_err-session-clause-refused : goal.returns-in_err-session-clause-refused
returns-in_err-session-clause-refused g c =
    let ds = map view c.args.values.now in
    let v = c.index-values-s.result in
    let here = slice_get-mapped view c.args.values.now c.loop-s.s v c.index-values-s.is c.loop-s-test.true in
    let ss = map (λ es. es.items) c.loop-s.sessions.items in
    let count : length ds ≡ length c.args.values.now = simp length-map in
    let few : sessions_refusal g.O.Named.operation_at ds ≡ first_among (length c.args.values.now) (session_refusal g.O.Named.operation_at ds) =
    few_sessions g.O.Named.operation_at g.O.SeqObject.matches ds (rw count c.if-values-gt-MAX_SESSIONS.false) ∙ ap (λ n. first_among n (session_refusal g.O.Named.operation_at ds)) count in
    let p = err_from_is_err_and c.from_residual.result c.from_residual.ensures.1 in
    rw (p.1, p.2) (IsFirst-moves (operations_refusal g.O.Named.operation_at c.loop-s.s (elements (view v))) (sessions_refusal g.O.Named.operation_at ds) _
    (λ x bad. few ∙ refused_there g.O.Named.operation_at g.O.SeqObject.matches (length c.args.values.now) ds ss c.loop-s.s (view v) x count c.loop-s.invariant here bad)
    c.in_err-session.ensures.refused)

pub loop-s-preserved : goal.loop-s-preserved
loop-s-preserved g c =
    let ds = map view c.args.values.now in
    let v = c.index-values-s.result in
    let here = slice_get-mapped view c.args.values.now c.loop-s.s v c.index-values-s.is c.loop-s-test.true in
    let ss = map (λ es. es.items) c.loop-s.sessions.items in
    let es = c.in_ok-session.session.items in
    let e : map (λ es. es.items) c.push.new.self.items ≡ ss ++ es ∷ [] = rw c.in_ok-push.ensures.items (map_push (λ es. es.items) c.loop-s.sessions.items c.in_ok-session.session) in
    rw e (reads_on g.O.Named.operation_at g.O.SeqObject.matches ds ss es c.loop-s.s (view v)
    c.loop-s.invariant here c.in_ok-session.ensures.read c.in_ok-session.ensures.is_session c.in_ok-session.ensures.nothing_refused)

pub loop-s-init : goal.loop-s-init
loop-s-init g c = rw c.new-sessions.ensures.items (reads_no_session g.O.Named.operation_at g.O.SeqObject.matches (map view c.args.values.now))

pub returns-clause-read : goal.returns-clause-read
returns-clause-read g c =
    let ds = map view c.args.values.now in
    let many : length ds ≡ length c.args.values.now = length-map c.args.values.now view in
    let end : length ds ≤ c.loop-s.s = let stop = c.loop-s-test.false in omega (arith, many, stop) in
    all_read g.O.Named.operation_at g.O.SeqObject.matches ds _ c.loop-s.s end c.loop-s.invariant

pub returns-clause-nothing_refused : goal.returns-clause-nothing_refused
returns-clause-nothing_refused g c =
    let ds = map view c.args.values.now in
    let many : length ds ≡ length c.args.values.now = length-map c.args.values.now view in
    let few : length ds ≤ 16 = let most = c.if-values-gt-MAX_SESSIONS.false in omega (arith, many, most) in
    let end : length ds ≡ c.loop-s.s = let stop = c.loop-s-test.false in let inside = c.loop-s.auto.s-end in omega (arith, many, stop, inside) in
    all_fine g.O.Named.operation_at g.O.SeqObject.matches ds _ c.loop-s.s few end c.loop-s.invariant

pub returns-then-values-gt-MAX_SESSIONS-clause-refused : goal.returns-then-values-gt-MAX_SESSIONS-clause-refused
returns-then-values-gt-MAX_SESSIONS-clause-refused g c =
    many_sessions g.O.Named.operation_at g.O.SeqObject.matches (length c.args.values.now) (map view c.args.values.now) (simp length-map) c.if-values-gt-MAX_SESSIONS.true

pub returns-clause-few : goal.returns-clause-few
returns-clause-few g c =
    let ds = map view c.args.values.now in
    let many : length ds ≡ length c.args.values.now = length-map c.args.values.now view in
    let end : length ds ≤ c.loop-s.s = let stop = c.loop-s-test.false in omega (arith, many, stop) in
    let ss = map (λ es. es.items) c.loop-s.sessions.items in
    let same : length ss ≡ length ds = as_many g.O.Named.operation_at g.O.SeqObject.matches ds ss (all_read g.O.Named.operation_at g.O.SeqObject.matches ds ss c.loop-s.s end c.loop-s.invariant) in
    let items : length ss ≡ length c.loop-s.sessions.items = simp length-map in
    let most = c.if-values-gt-MAX_SESSIONS.false in
    omega (arith, many, same, items, most, c.loop-s.sessions.ok)

pub returns-clause-are_sessions : goal.returns-clause-are_sessions
returns-clause-are_sessions g c = c.loop-s.invariant.are_sessions

pub returns-in_err-push-clause-refused : goal.returns-in_err-push-clause-refused
returns-in_err-push-clause-refused g c =
    let p = err_from_is_err_and c.from_residual-in_err-push.result c.from_residual-in_err-push.ensures.1 in
    rw (p.1, p.2) tt
