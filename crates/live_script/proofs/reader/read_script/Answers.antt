use Rattle.std.proofs.Common.{map, refl, sym}
use Rattle.serde_json.specs.View.{view}
use Rattle.json_histories.proofs.AnyHistories.{text_is}
use Rattle.live_script.specs.ScriptForm.{Parts}
use Rattle.live_script.proofs.ScriptForms.{no_name, some_sessions, too_many_sessions}
use Rattle.live_script.proofs.ScriptTexts.{bad_limits, script_read, script_refused, unknown_object}
use Rattle.live_script.proofs.reader.read_script.Goals as goal

pub returns-in_default-object_named-clause-refused : goal.returns-in_default-object_named-clause-refused
returns-in_default-object_named-clause-refused c =
    let found : Parts = record { name = c.in-Some.name.now; sessions = c.in-Some.sessions; steps = map view c.in-Some.field-0-2.now; rest = map view c.in-Some.rest.now } in
    unknown_object c.args.text.now (view c.in-Ok.value) c.in-Ok.ensures.read found (sym c.in-Some.ensures) (no_name found.name (sym c.in_default-object_named.ensures))

pub returns-then-sessions-eq0-clause-refused : goal.returns-then-sessions-eq0-clause-refused
returns-then-sessions-eq0-clause-refused c =
    let found : Parts = record { name = c.in-Some.name.now; sessions = c.in-Some.sessions; steps = map view c.in-Some.field-0-2.now; rest = map view c.in-Some.rest.now } in
    let named = text_is found.name c.in-Some-object_named.name (sym c.in-Some-object_named.ensures) in
    bad_limits c.args.text.now (view c.in-Ok.value) c.in-Ok.ensures.read found (sym c.in-Some.ensures) c.in-Some-object_named.name named (too_many_sessions found.sessions c.then-sessions-eq0.either)

pub returns-clause-read : goal.returns-clause-read
returns-clause-read c =
    let found : Parts = record { name = c.in-Some.name.now; sessions = c.in-Some.sessions; steps = map view c.in-Some.field-0-2.now; rest = map view c.in-Some.rest.now } in
    let named = text_is found.name c.in-Some-object_named.name (sym c.in-Some-object_named.ensures) in
    script_read c.args.text.now (view c.in-Ok.value) c.in-Ok.ensures.read found (sym c.in-Some.ensures) c.in-Some-object_named.name named found.sessions
    (some_sessions found.sessions c.if-sessions-eq0.false c.if-sessions.false) refl found.rest refl c.read_named.result c.read_named.ensures

pub returns-clause-refused : goal.returns-clause-refused
returns-clause-refused c =
    let found : Parts = record { name = c.in-Some.name.now; sessions = c.in-Some.sessions; steps = map view c.in-Some.field-0-2.now; rest = map view c.in-Some.rest.now } in
    let named = text_is found.name c.in-Some-object_named.name (sym c.in-Some-object_named.ensures) in
    script_refused c.args.text.now (view c.in-Ok.value) c.in-Ok.ensures.read found (sym c.in-Some.ensures) c.in-Some-object_named.name named found.sessions
    (some_sessions found.sessions c.if-sessions-eq0.false c.if-sessions.false) refl found.rest refl c.read_named.result c.read_named.ensures
