use Rattle.std.proofs.Common.{map, sym, ◌∙◌}
use Rattle.serde_json.specs.View.{view}
use Rattle.live_script.proofs.ScriptsRead.{bad_initial, script_kept}
use Rattle.live_script.proofs.reading_script.script_with.Goals as goal

pub returns-in-Ok-None : goal.returns-in-Ok-None
returns-in-Ok-None g c = λ p sessions are after.
    bad_initial g.O.Named.call_form g.O.Named.return_form g.O.Named.is_call g.O.Named.start_form g.O.SeqObject.is_start g.O.Named.has_form g.O.Named.start_at g.met.O.Named.start_read g.met.O.Named.start_again g.met.O.Scripted.start_kept p (map view c.args.rest.now) after c.args.sessions c.args.steps.items are (sym c.in-Ok-None.ensures ∙ c.in-Ok-None.field-0-is)

pub of-requires-clause-start : goal.of-requires-clause-start
of-requires-clause-start g c = λ κs within.
    let read = sym c.in-Ok-Some.ensures ∙ c.in-Ok-Some.field-0-is in
    (g.met.O.Named.start_read (map view c.args.rest.now) c.in-Ok-Some.start read).1

pub returns-in-Ok-Some : goal.returns-in-Ok-Some
returns-in-Ok-Some g c = λ p sessions are after.
    script_kept g.O.Named.call_form g.O.Named.return_form g.O.Named.is_call g.O.Named.start_form g.O.SeqObject.is_start g.O.Named.has_form g.O.Named.start_at g.met.O.Named.start_read g.met.O.Named.start_again g.met.O.Scripted.start_kept p (map view c.args.rest.now) after c.args.sessions c.requires.sessions sessions c.args.steps.items are
    c.in-Ok-Some.start (sym c.in-Ok-Some.ensures ∙ c.in-Ok-Some.field-0-is) c.of.result c.of.ensures
