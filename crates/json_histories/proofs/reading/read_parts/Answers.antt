use Rattle.std.proofs.Common.{◌≡◌, ◌≤◌, Some, None, map, length, refl, sym, ap, ◌∙◌, arith}
use Rattle.std.proofs.lemmas.List.{length-map}
use Rattle.std.proofs.lemmas.Result.{err_from_is_err_and}
use Rattle.serde_json.specs.View.{view}
use Rattle.json_histories.specs.Form.{ReadAs, session_form}
use Rattle.json_histories.specs.Reading.{named_refusal, sessions_refusal}
use Rattle.json_histories.proofs.HistoryForm.{same_sessions, calls_read, sessions_formed, sessions_read, sessions_fine}
use Rattle.json_histories.proofs.HistoryReading.{IsFirst-moves, IsFirst_of_none}
use Rattle.json_histories.proofs.reading.read_parts.Goals as goal

pub returns-in_err-read-clause-only : goal.returns-in_err-read-clause-only
returns-in_err-read-clause-only g c = λ h is_history calls has_form sessions rest.
    let read : ReadAs g.O.Named.operation_at (map view c.args.sessions.now) h.1 =
    rw sessions (sessions_read g.O.Named.operation_at g.O.Named.operation_form g.O.SeqObject.matches g.O.Named.is_call g.met.O.Named.operation_again h.1 is_history.each calls) in
    let none : sessions_refusal g.O.Named.operation_at (map view c.args.sessions.now) ≡ None =
    sessions_fine g.O.Named.operation_at g.O.SeqObject.matches (map view c.args.sessions.now) h.1 read is_history.each is_history.few in
    let p = err_from_is_err_and c.from_residual.result c.from_residual.ensures.1 in
    rw (p.1, p.2) (IsFirst_of_none _ _ none c.in_err-read.ensures.refused)

pub of-requires-after_bounds : goal.of-requires-after_bounds
of-requires-after_bounds g c κs within =
    let read = sym c.in_ok-start.ensures ∙ c.in-Some.is in
    let few : length (map (λ s. s.items) c.in_ok-read.read.items) ≤ 16 = simp length-map (let h = c.in_ok-read.ensures.few in omega (arith, h, c.in_ok-read.read.ok)) in
    record {
      start = (g.met.O.Named.start_read (map view c.args.rest.now) c.in-Some.start read).1;
      few = few;
      each = c.in_ok-read.ensures.are_sessions;
    }

pub returns-clause-sessions : goal.returns-clause-sessions
returns-clause-sessions g c =
    let ss = map (λ s. s.items) c.in_ok-read.read.items in
    sessions_formed g.O.Named.operation_at g.O.Named.operation_form g.O.SeqObject.matches g.met.O.Named.operation_read (map view c.args.sessions.now) ss c.in_ok-read.ensures.read
    ∙ ap (λ h. map (session_form g.O.Named.operation_form) h.1) (sym c.of.ensures)

pub returns-clause-only : goal.returns-clause-only
returns-clause-only g c = λ h is_history calls has_form sessions rest.
    let ss = map (λ s. s.items) c.in_ok-read.read.items in
    let read : ReadAs g.O.Named.operation_at (map view c.args.sessions.now) h.1 =
    rw sessions (sessions_read g.O.Named.operation_at g.O.Named.operation_form g.O.SeqObject.matches g.O.Named.is_call g.met.O.Named.operation_again h.1 is_history.each calls) in
    let start_read : Some c.in-Some.start ≡ Some h.0 = sym c.in-Some.is ∙ c.in_ok-start.ensures ∙ ap g.O.Named.start_at rest ∙ g.met.O.Named.start_again h.0 is_history.start has_form in
    let same_start : c.in-Some.start ≡ h.0 = cc in
    let same : ss ≡ h.1 = same_sessions g.O.Named.operation_at ss h.1 (map view c.args.sessions.now) c.in_ok-read.ensures.read read in
    c.of.ensures ∙ rw (same_start, same) refl

pub returns-clause-has_form : goal.returns-clause-has_form
returns-clause-has_form g c =
    let read = sym c.in_ok-start.ensures ∙ c.in-Some.is in
    rw c.of.ensures ((g.met.O.Named.start_read (map view c.args.rest.now) c.in-Some.start read).2)

pub returns-clause-is_history : goal.returns-clause-is_history
returns-clause-is_history g c =
    let read = sym c.in_ok-start.ensures ∙ c.in-Some.is in
    let few : length (map (λ s. s.items) c.in_ok-read.read.items) ≤ 16 = simp length-map (let h = c.in_ok-read.ensures.few in omega (arith, h, c.in_ok-read.read.ok)) in
    rw c.of.ensures (record {
      start = (g.met.O.Named.start_read (map view c.args.rest.now) c.in-Some.start read).1;
      few = few;
      each = c.in_ok-read.ensures.are_sessions;
    })

pub returns-clause-each_call : goal.returns-clause-each_call
returns-clause-each_call g c =
    let ss = map (λ s. s.items) c.in_ok-read.read.items in
    rw c.of.ensures (calls_read g.O.Named.operation_at g.O.Named.is_call g.met.O.Named.operation_is_call (map view c.args.sessions.now) ss c.in_ok-read.ensures.read)

pub returns-clause-start : goal.returns-clause-start
returns-clause-start g c =
    let read = sym c.in_ok-start.ensures ∙ c.in-Some.is in
    rw c.of.ensures ((g.met.O.Named.start_read (map view c.args.rest.now) c.in-Some.start read).0)

pub returns-in_err-read-clause-refused : goal.returns-in_err-read-clause-refused
returns-in_err-read-clause-refused g c =
    let p = err_from_is_err_and c.from_residual.result c.from_residual.ensures.1 in
    rw (p.1, p.2) (IsFirst-moves (sessions_refusal g.O.Named.operation_at (map view c.args.sessions.now))
    (named_refusal g.O.Named.operation_at g.O.Named.start_at (map view c.args.sessions.now) (map view c.args.rest.now)) _ (λ x bad. rw bad refl) c.in_err-read.ensures.refused)

pub returns-in_err-start-clause-only : goal.returns-in_err-start-clause-only
returns-in_err-start-clause-only g c = λ h is_history calls has_form sessions rest.
    let p = err_from_is_err_and c.from_residual-in_err-start.result c.from_residual-in_err-start.ensures.1 in
    rw (p.1, p.2) refl

pub returns-in_err-start-clause-refused : goal.returns-in_err-start-clause-refused
returns-in_err-start-clause-refused g c =
    let p = err_from_is_err_and c.from_residual-in_err-start.result c.from_residual-in_err-start.ensures.1 in
    rw (p.1, p.2) tt

pub returns-in_default-clause-only : goal.returns-in_default-clause-only
returns-in_default-clause-only g c = λ h is_history calls has_form sessions rest.
    let none : None ≡ Some h.0 = sym c.in_default.is ∙ c.in_ok-start.ensures ∙ ap g.O.Named.start_at rest ∙ g.met.O.Named.start_again h.0 is_history.start has_form in
    absurd cc

pub returns-in_default-clause-refused : goal.returns-in_default-clause-refused
returns-in_default-clause-refused g c =
    let none : g.O.Named.start_at (map view c.args.rest.now) ≡ None = sym c.in_ok-start.ensures ∙ c.in_default.is in
    rw (c.in_ok-read.ensures.nothing_refused, none) refl
