-- What is said of words that order nothing, and name no file.
use Rattle.std.proofs.Common.{Bool, List, None, Option, ap, map, subst, ℕ}
use Rattle.std.specs.Option.{option_copied}
use Rattle.app_process.specs.Process.{EndsAsked}
use Rattle.app_process.specs.declared.terminals.Terminals.{Terminals}
use Rattle.std.specs.Prelude.{string_bytes}
use Rattle.app_process.specs.Faults.{ReadingFails, WritingFails}
use Rattle.app_process.proofs.AskedLaws.{words_asked, words_misused}
use Rattle.app_process.proofs.program.status_on_input.Goals as goal

pub returns-in-Err : goal.returns-in-Err
returns-in-Err g c =
    words_misused (ReadingFails 0 g.R.Source.called) (WritingFails g.W.Sink.called) (map string_bytes c.args.words.now) c.args.terminals c.in-Err.usage (g.R.Source.remaining c.args.reader)
    (g.W.Sink.contents c.args.writer) (g.W.Sink.contents c.report_usage-status.new.writer) (g.E.Say.said c.args.errors)
    (g.E.Say.said c.report_usage-status.new.errors) c.report_usage-status.result c.in-Err.ensures.asked c.in-Err.ensures.usage
    c.report_usage-status.ensures

pub returns-in-Ok : goal.returns-in-Ok
returns-in-Ok g c =
    let given = c.of-given.result in
    let reading = ReadingFails 0 g.R.Source.called in
    let writing = WritingFails g.W.Sink.called in
    let reader = g.R.Source.remaining c.args.reader in
    let before = g.W.Sink.contents c.args.writer in
    let after = g.W.Sink.contents c.status_of_asked.result.0 in
    let said_before = g.E.Say.said c.args.errors in
    let said_after = g.E.Say.said c.status_of_asked.result.1 in
    let P : Option (List ℕ) → Type 0 = λ label. EndsAsked reading writing label given.place.is_terminal given.terminals.output c.in-Ok.asked
    reader before after said_before said_after c.status_of_asked.result.2 in
    let Q : Bool → Type 0 = λ at. EndsAsked reading writing None at given.terminals.output c.in-Ok.asked
    reader before after said_before said_after c.status_of_asked.result.2 in
    let R : Terminals → Type 0 = λ terminals. EndsAsked reading writing None c.args.terminals.error terminals.output c.in-Ok.asked
    reader before after said_before said_after c.status_of_asked.result.2 in
    words_asked reading writing (map string_bytes c.args.words.now) c.args.terminals c.in-Ok.asked reader before after said_before said_after _
    c.in-Ok.ensures.asked (subst R c.of-given.ensures.terminals (subst Q c.of-given.ensures.terminal
    (subst P (ap option_copied c.of-given.ensures.label) c.status_of_asked.ensures)))
