-- What is done is done where another thread shows how far the work is.
use Rattle.std.proofs.Common.{Bool, List, Option, ap, subst, ℕ}
use Rattle.std.specs.Option.{option_copied}
use Rattle.app_process.specs.Faults.{ReadingFails, WritingFails}
use Rattle.app_process.specs.Process.{EndsAsked}
use Rattle.app_process.specs.declared.terminals.Terminals.{Terminals}
use Rattle.app_process.proofs.showing.status_shown.Goals as goal

pub returns : goal.returns
returns g c =
    let seen = c.with_progress-seen.result in
    let given = c.args.given.now in
    let reading = ReadingFails 0 g.R.Source.called in
    let writing = WritingFails g.W.Sink.called in
    let reader = g.R.Source.remaining c.args.reader in
    let before = g.W.Sink.contents c.args.writer in
    let after = g.W.Sink.contents c.join-ended.result.1.0 in
    let said_before = g.E.Say.said c.args.errors in
    let said_after = g.E.Say.said c.join-ended.result.1.1 in
    let P : Option (List ℕ) → Type 0 = λ label. EndsAsked reading writing label seen.place.is_terminal seen.terminals.output c.args.asked.now
    reader before after said_before said_after c.join-ended.result.1.2 in
    let Q : Bool → Type 0 = λ at. EndsAsked reading writing (option_copied given.place.label) at seen.terminals.output c.args.asked.now
    reader before after said_before said_after c.join-ended.result.1.2 in
    let R : Terminals → Type 0 = λ terminals. EndsAsked reading writing (option_copied given.place.label) given.place.is_terminal terminals.output c.args.asked.now
    reader before after said_before said_after c.join-ended.result.1.2 in
    subst R c.with_progress-seen.ensures.terminals (subst Q c.with_progress-seen.ensures.terminal
    (subst P (ap option_copied c.with_progress-seen.ensures.label) c.join-ended.ensures.second))
