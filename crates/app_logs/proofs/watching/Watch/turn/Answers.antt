-- A turn goes on, or ends the log.
use Rattle.std.proofs.Common.{◌∙◌, ℕ, List, Ok, Option, ap, inl, length, subst, sym}
use Rattle.std.proofs.lemmas.Result.{err_from_is_err_and}
use Rattle.json_lines.proofs.TakingLaws.{further_none}
use Rattle.log_reader.specs.LogCalls.{ReadsLogBy}
use Rattle.log_reader.specs.ReadSteps.{Reads}
use Rattle.log_reader.specs.declared.progress.Progress.{Progress}
use Rattle.app_logs.specs.LogAnswers.{WritesFirstCuts}
use Rattle.app_logs.specs.Steps.TurnCalls.{PassesLast}
use Rattle.app_logs.proofs.CallLaws.{no_write_fault, turn_fault, turn_more, turn_unread, turn_unwritten}
use Rattle.app_logs.proofs.Faults.{later-fault}
use Rattle.app_logs.proofs.Watched.{begun-end, begun-more, first-cuts, refuses-late, turned-end, turned-more}
use Rattle.app_logs.proofs.watching.Watch.turn.Goals as goal

pub returns-in_err-read-clause-error : goal.returns-in_err-read-clause-error
returns-in_err-read-clause-error g c = λ first written count watched.
    let p = err_from_is_err_and c.from_residual-in_err-read.result c.from_residual-in_err-read.ensures.1 in
    rw (p.1, p.2)
    (later-fault c.in_ok-wanted.wanted first (g.R.Source.remaining c.args.source.now) watched.text c.args.reader.now c.in_err-read.field-0.0 watched.consumed watched.read
    c.in_err-read.ensures.fault)

pub returns-in_err-read-clause-refused : goal.returns-in_err-read-clause-refused
returns-in_err-read-clause-refused g c = λ first written count watched.
    let p = err_from_is_err_and c.from_residual-in_err-read.result c.from_residual-in_err-read.ensures.1 in
    rw (p.1, p.2)
    (refuses-late c.args.self.now.every c.args.self.now.expected first written (g.R.Source.remaining c.args.source.now)
    (g.W.Sink.contents c.args.writer.now) c.args.reader.now count c.events-judged.result c.in_ok-wanted.wanted c.in_err-read.field-0.0 watched
    c.in_err-read.ensures.fault (c.events-judged.ensures.count ∙ ap length c.log.ensures) c.in_ok-wanted.ensures.next)

pub returns-in_ok-outcome-in-More-clause-turn : goal.returns-in_ok-outcome-in-More-clause-turn
returns-in_ok-outcome-in-More-clause-turn g c = λ first written count watched.
    let before = g.R.Source.remaining c.args.source.now in
    let after = g.R.Source.remaining c.read.new.source in
    turned-more c.args.self.now.every c.args.self.now.expected first written before after (g.W.Sink.contents c.args.writer.now)
    (g.W.Sink.contents c.write_cut.new.writer) c.args.reader.now c.read.new.self count c.events-judged.result c.in_ok-wanted.wanted c.log-in-More.result.now
    c.in_ok-outcome-in-More.outcome c.turn_of.result watched
    (subst (λ (p : Progress). Reads before after c.args.reader.now c.read.new.self p) c.in-More.is c.in_ok-read.ensures.read) c.read.ensures.extends
    (c.events-judged.ensures.count ∙ ap length c.log.ensures) c.in_ok-wanted.ensures.next (c.in_ok-read.ensures.enough (ap (λ p. Ok p) c.in-More.is))
    c.in_ok-read.ensures.few c.log-in-More.ensures c.in_ok-outcome-in-More.ensures.written c.turn_of.ensures

pub returns-in_ok-outcome-in-End-clause-turn : goal.returns-in_ok-outcome-in-End-clause-turn
returns-in_ok-outcome-in-End-clause-turn g c = λ first written count watched.
    let before = g.R.Source.remaining c.args.source.now in
    let after = g.R.Source.remaining c.read.new.source in
    turned-end c.args.self.now.every c.args.self.now.expected first written before after (g.W.Sink.contents c.args.writer.now)
    (g.W.Sink.contents c.write_last.new.writer) c.args.reader.now c.read.new.self count c.events-judged.result c.in_ok-wanted.wanted c.log-in-End.result.now
    c.in_ok-outcome-in-End.outcome c.in-End.torn watched
    (subst (λ (p : Progress). Reads before after c.args.reader.now c.read.new.self p) c.in-End.is c.in_ok-read.ensures.read) c.read.ensures.extends
    (c.events-judged.ensures.count ∙ ap length c.log.ensures) c.in_ok-wanted.ensures.next c.in_ok-read.ensures.few c.log-in-End.ensures
    c.in_ok-outcome-in-End.ensures.written

pub returns-in_err-read-clause-first_cuts : goal.returns-in_err-read-clause-first_cuts
returns-in_err-read-clause-first_cuts g c = λ first written count watched.
    let p = err_from_is_err_and c.from_residual-in_err-read.result c.from_residual-in_err-read.ensures.1 in
    rw p.1
    (λ other. first-cuts c.args.self.now.every c.args.self.now.expected first written (g.R.Source.remaining c.args.source.now)
    (g.W.Sink.contents c.args.writer.now) c.args.reader.now count watched)

pub returns-in_err-outcome-in-More-clause-first_cuts : goal.returns-in_err-outcome-in-More-clause-first_cuts
returns-in_err-outcome-in-More-clause-first_cuts g c = λ first written count watched.
    let p = err_from_is_err_and c.from_residual-in_err-outcome-in-More.result c.from_residual-in_err-outcome-in-More.ensures.1 in
    rw (p.1, p.2)
    (λ other. subst (λ (w : Option (List ℕ)). WritesFirstCuts c.args.self.now.every c.args.self.now.expected first written w)
    (sym (ap g.W.Sink.contents (c.in_err-outcome-in-More.ensures.error other)))
    (first-cuts c.args.self.now.every c.args.self.now.expected first written (g.R.Source.remaining c.args.source.now)
    (g.W.Sink.contents c.args.writer.now) c.args.reader.now count watched))

pub returns-in_err-outcome-in-End-clause-first_cuts : goal.returns-in_err-outcome-in-End-clause-first_cuts
returns-in_err-outcome-in-End-clause-first_cuts g c = λ first written count watched.
    let p = err_from_is_err_and c.from_residual-in_err-outcome-in-End.result c.from_residual-in_err-outcome-in-End.ensures.1 in
    rw (p.1, p.2)
    (λ other. subst (λ (w : Option (List ℕ)). WritesFirstCuts c.args.self.now.every c.args.self.now.expected first written w)
    (sym (ap g.W.Sink.contents (c.in_err-outcome-in-End.ensures.unwritten other)))
    (first-cuts c.args.self.now.every c.args.self.now.expected first written (g.R.Source.remaining c.args.source.now)
    (g.W.Sink.contents c.args.writer.now) c.args.reader.now count watched))

-- ---- there is no next cut

pub returns-in_err-wanted-clause-begun : goal.returns-in_err-wanted-clause-begun
returns-in_err-wanted-clause-begun g c = λ first written count watched is.
    let p = err_from_is_err_and c.from_residual.result c.from_residual.ensures.1 in
    absurd (cc (is, p.1, p.2, c.in_err-wanted.ensures.error))

pub returns-in_err-wanted-clause-read_on : goal.returns-in_err-wanted-clause-read_on
returns-in_err-wanted-clause-read_on g c = further_none (g.R.Source.remaining c.args.source.now)

pub returns-in_err-wanted-clause-calls : goal.returns-in_err-wanted-clause-calls
returns-in_err-wanted-clause-calls g c =
    let p = err_from_is_err_and c.from_residual.result c.from_residual.ensures.1 in
    turn_unread g.R.Source.called c.from_residual.result p.0 c.in_err-wanted.field-0.0 c.args.source.now p.1 p.2 c.in_err-wanted.ensures.error

-- ---- the log could not be read up to it

pub returns-in_err-read-clause-begun : goal.returns-in_err-read-clause-begun
returns-in_err-read-clause-begun g c = λ first written count watched is.
    let p = err_from_is_err_and c.from_residual-in_err-read.result c.from_residual-in_err-read.ensures.1 in
    absurd (no_write_fault c.in_err-read.field-0.0 (cc (is, p.1, p.2)))

pub returns-in_err-read-clause-calls : goal.returns-in_err-read-clause-calls
returns-in_err-read-clause-calls g c =
    let p = err_from_is_err_and c.from_residual-in_err-read.result c.from_residual-in_err-read.ensures.1 in
    let (lines, counted, by) = c.in_err-read.ensures.calls in
    turn_fault g.R.Source.called c.from_residual-in_err-read.result p.0 lines c.in_err-read.field-0.0 _ _ p.1 p.2 by

pub returns-in_err-read-clause-write_fault : goal.returns-in_err-read-clause-write_fault
returns-in_err-read-clause-write_fault g c = λ is.
    let p = err_from_is_err_and c.from_residual-in_err-read.result c.from_residual-in_err-read.ensures.1 in
    absurd (no_write_fault c.in_err-read.field-0.0 (cc (is, p.1, p.2)))

-- ---- the line on it could not be written

pub returns-in_err-outcome-in-More-clause-begun : goal.returns-in_err-outcome-in-More-clause-begun
returns-in_err-outcome-in-More-clause-begun g c = λ first written count watched is.
    let p = err_from_is_err_and c.from_residual-in_err-outcome-in-More.result c.from_residual-in_err-outcome-in-More.ensures.1 in
    let before = g.R.Source.remaining c.args.source.now in
    let after = g.R.Source.remaining c.read.new.source in
    begun-more c.args.self.now.every c.args.self.now.expected first written before after (g.W.Sink.contents c.args.writer.now)
    (g.W.Sink.contents c.write_cut.new.writer) c.args.reader.now c.read.new.self count c.events-judged.result c.in_ok-wanted.wanted
    c.log-in-More.result.now watched
    (subst (λ (p : Progress). Reads before after c.args.reader.now c.read.new.self p) c.in-More.is c.in_ok-read.ensures.read) c.read.ensures.extends
    (c.events-judged.ensures.count ∙ ap length c.log.ensures) c.in_ok-wanted.ensures.next (c.in_ok-read.ensures.enough (ap (λ p. Ok p) c.in-More.is))
    c.in_ok-read.ensures.few c.log-in-More.ensures (c.in_err-outcome-in-More.ensures.begun (cc (is, p.1, p.2)))

pub returns-in_err-outcome-in-More-clause-unwritten : goal.returns-in_err-outcome-in-More-clause-unwritten
returns-in_err-outcome-in-More-clause-unwritten g c =
    let p = err_from_is_err_and c.from_residual-in_err-outcome-in-More.result c.from_residual-in_err-outcome-in-More.ensures.1 in
    rw (p.1, p.2) c.in_err-outcome-in-More.ensures.error

pub returns-in_err-outcome-in-More-clause-calls : goal.returns-in_err-outcome-in-More-clause-calls
returns-in_err-outcome-in-More-clause-calls g c =
    let p = err_from_is_err_and c.from_residual-in_err-outcome-in-More.result c.from_residual-in_err-outcome-in-More.ensures.1 in
    let (lines, counted, by) = c.in_ok-read.ensures.calls in
    turn_unwritten g.R.Source.called c.from_residual-in_err-outcome-in-More.result p.0 c.in_err-outcome-in-More.field-0.0 lines c.in_ok-read.field-0 _ _
    p.1 p.2 c.in_err-outcome-in-More.ensures.refused by

pub returns-in_err-outcome-in-More-clause-write_fault : goal.returns-in_err-outcome-in-More-clause-write_fault
returns-in_err-outcome-in-More-clause-write_fault g c = λ is.
    let p = err_from_is_err_and c.from_residual-in_err-outcome-in-More.result c.from_residual-in_err-outcome-in-More.ensures.1 in
    c.in_err-outcome-in-More.ensures.write_fault (cc (is, p.1, p.2))

-- ---- the line on the whole log could not be written

pub returns-in_err-outcome-in-End-clause-begun : goal.returns-in_err-outcome-in-End-clause-begun
returns-in_err-outcome-in-End-clause-begun g c = λ first written count watched is.
    let p = err_from_is_err_and c.from_residual-in_err-outcome-in-End.result c.from_residual-in_err-outcome-in-End.ensures.1 in
    let before = g.R.Source.remaining c.args.source.now in
    let after = g.R.Source.remaining c.read.new.source in
    begun-end c.args.self.now.every c.args.self.now.expected first written before after (g.W.Sink.contents c.args.writer.now)
    (g.W.Sink.contents c.write_last.new.writer) c.args.reader.now c.read.new.self count c.events-judged.result c.in_ok-wanted.wanted
    c.log-in-End.result.now c.in-End.torn watched
    (subst (λ (p : Progress). Reads before after c.args.reader.now c.read.new.self p) c.in-End.is c.in_ok-read.ensures.read) c.read.ensures.extends
    (c.events-judged.ensures.count ∙ ap length c.log.ensures) c.in_ok-wanted.ensures.next c.in_ok-read.ensures.few c.log-in-End.ensures
    (c.in_err-outcome-in-End.ensures.begun (cc (is, p.1, p.2)))

pub returns-in_err-outcome-in-End-clause-unwritten : goal.returns-in_err-outcome-in-End-clause-unwritten
returns-in_err-outcome-in-End-clause-unwritten g c =
    let p = err_from_is_err_and c.from_residual-in_err-outcome-in-End.result c.from_residual-in_err-outcome-in-End.ensures.1 in
    rw (p.1, p.2) c.in_err-outcome-in-End.ensures.unwritten

pub returns-in_err-outcome-in-End-clause-calls : goal.returns-in_err-outcome-in-End-clause-calls
returns-in_err-outcome-in-End-clause-calls g c =
    let p = err_from_is_err_and c.from_residual-in_err-outcome-in-End.result c.from_residual-in_err-outcome-in-End.ensures.1 in
    let (lines, counted, by) = c.in_ok-read.ensures.calls in
    turn_unwritten g.R.Source.called c.from_residual-in_err-outcome-in-End.result p.0 c.in_err-outcome-in-End.field-0.0 lines c.in_ok-read.field-0 _ _
    p.1 p.2 c.in_err-outcome-in-End.ensures.error by

pub returns-in_err-outcome-in-End-clause-write_fault : goal.returns-in_err-outcome-in-End-clause-write_fault
returns-in_err-outcome-in-End-clause-write_fault g c = λ is.
    let p = err_from_is_err_and c.from_residual-in_err-outcome-in-End.result c.from_residual-in_err-outcome-in-End.ensures.1 in
    c.in_err-outcome-in-End.ensures.write_fault (cc (is, p.1, p.2))

-- ---- it was written

pub returns-in_ok-outcome-in-More-clause-calls : goal.returns-in_ok-outcome-in-More-clause-calls
returns-in_ok-outcome-in-More-clause-calls g c =
    let (lines, counted, by) = c.in_ok-read.ensures.calls in
    turn_more g.R.Source.called c.in_ok-outcome-in-More.outcome c.turn_of.result lines _ _ c.turn_of.ensures
    (subst (λ (p : Progress). ReadsLogBy g.R.Source.called lines (Ok p) c.args.source.now c.read.new.source) c.in-More.is by)

pub returns-in_ok-outcome-in-More-clause-passed_on : goal.returns-in_ok-outcome-in-More-clause-passed_on
returns-in_ok-outcome-in-More-clause-passed_on g c = inl c.in_ok-outcome-in-More.ensures.passed_on

pub returns-in_ok-outcome-in-End-clause-calls : goal.returns-in_ok-outcome-in-End-clause-calls
returns-in_ok-outcome-in-End-clause-calls g c =
    let (lines, counted, by) = c.in_ok-read.ensures.calls in
    (lines, subst (λ (p : Progress). ReadsLogBy g.R.Source.called lines (Ok p) c.args.source.now c.read.new.source) c.in-End.is by)

pub returns-in_ok-outcome-in-End-clause-passed_on : goal.returns-in_ok-outcome-in-End-clause-passed_on
returns-in_ok-outcome-in-End-clause-passed_on g c =
    subst (λ (n : ℕ). PassesLast g.W.Sink.called n c.args.writer.now c.write_last.new.writer) (c.events-judged.ensures.count ∙ ap length c.log.ensures)
    c.in_ok-outcome-in-End.ensures.passed_on
