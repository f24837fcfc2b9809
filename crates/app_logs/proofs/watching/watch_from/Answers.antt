-- Turn by turn, so many cuts were judged.
use Rattle.std.proofs.Common.{Ok, inr, length, refl, suc, subst}
use Rattle.std.proofs.lemmas.Result.{err_from_is_err_and}
use Rattle.json_lines.proofs.TakingLaws.{further_more, further_none}
use Rattle.json_lines.proofs.WriteCallLaws.{fails_join}
use Rattle.json_lines.specs.declared.writing.TheConstants.{MAX_WRITE_CALLS}
use Rattle.app_logs.specs.Steps.TurnCalls.{TurnsBy}
use Rattle.app_logs.specs.Steps.Watching.{IsTurn}
use Rattle.app_logs.specs.declared.turn.Turn.{Turn}
use Rattle.app_logs.specs.declared.failure.LogError.TheVariants.{Memory}
use Rattle.app_logs.proofs.CallLaws.{more_lines, no_line, passed_kept, passed_so_far, passes_turn, watch_ends, watch_fails, watch_memory, watch_stops}
use Rattle.app_logs.proofs.Watched.{first-cuts, watched-none}
use Rattle.app_logs.proofs.watching.watch_from.Goals as goal

pub cuts-init : goal.cuts-init
cuts-init g c = record {
  watched = (
    0,
    watched-none c.args.watch.now.every c.args.watch.now.expected (g.R.Source.remaining c.args.source.now) (g.W.Sink.contents c.args.writer.now)
        c.args.reader.now c.requires.unread,
    refl,
  );
  read_on = further_none (g.R.Source.remaining c.args.source.now);
  calls = no_line g.R.Source.called c.args.source.now;
}

pub returns-in_err-turn-clause-error : goal.returns-in_err-turn-clause-error
returns-in_err-turn-clause-error g c =
    let p = err_from_is_err_and c.from_residual.result c.from_residual.ensures.1 in
    rw (p.1, p.2)
    (c.in_err-turn.ensures.error (g.R.Source.remaining c.args.source.now) (g.W.Sink.contents c.args.writer.now) c.cuts.invariant.watched.0 c.cuts.invariant.watched.1)

pub returns-in-Ended-clause-watched : goal.returns-in-Ended-clause-watched
returns-in-Ended-clause-watched g c =
    let first = g.R.Source.remaining c.args.source.now in
    let written = g.W.Sink.contents c.args.writer.now in
    subst (λ (o : Turn). IsTurn c.args.watch.now.every c.args.watch.now.expected first (g.R.Source.remaining c.turn.new.source) written
    (g.W.Sink.contents c.turn.new.writer) c.turn.new.reader c.cuts.invariant.watched.0 o) c.in-Ended.is
    (c.in_ok-turn.ensures.turn first written c.cuts.invariant.watched.0 c.cuts.invariant.watched.1)

pub returns-in-Stopped-clause-watched : goal.returns-in-Stopped-clause-watched
returns-in-Stopped-clause-watched g c =
    let first = g.R.Source.remaining c.args.source.now in
    let written = g.W.Sink.contents c.args.writer.now in
    inr (subst (λ (o : Turn). IsTurn c.args.watch.now.every c.args.watch.now.expected first (g.R.Source.remaining c.turn.new.source) written
    (g.W.Sink.contents c.turn.new.writer) c.turn.new.reader c.cuts.invariant.watched.0 o) c.in-Stopped.is
    (c.in_ok-turn.ensures.turn first written c.cuts.invariant.watched.0 c.cuts.invariant.watched.1))

pub cuts-preserved : goal.cuts-preserved
cuts-preserved g c =
    let first = g.R.Source.remaining c.args.source.now in
    let written = g.W.Sink.contents c.args.writer.now in
    let (count, watched, passed) = c.cuts.invariant.watched in
    let on = subst (λ (t : Turn). TurnsBy g.R.Source.called (Ok t) c.cuts.source c.turn.new.source) c.in-On.is c.in_ok-turn.ensures.calls in record {
      watched = (
        suc count,
        subst (λ (o : Turn). IsTurn c.args.watch.now.every c.args.watch.now.expected first (g.R.Source.remaining c.turn.new.source) written
            (g.W.Sink.contents c.turn.new.writer) c.turn.new.reader count o) c.in-On.is (c.in_ok-turn.ensures.turn first written count watched),
        passes_turn g.W.Sink.called c.args.watch.now.every count (length c.cuts.reader.log.events) c.args.writer.now c.cuts.writer c.turn.new.writer
            watched.events passed c.in_ok-turn.ensures.passed_on,
      );
      read_on = further_more _ _ _ c.cuts.invariant.read_on c.turn.ensures.read_on;
      calls = more_lines g.R.Source.called _ _ _ c.cuts.invariant.calls on;
    }

pub returns-in_err-turn-clause-refused : goal.returns-in_err-turn-clause-refused
returns-in_err-turn-clause-refused g c =
    let p = err_from_is_err_and c.from_residual.result c.from_residual.ensures.1 in
    rw (p.1, p.2)
    (c.in_err-turn.ensures.refused (g.R.Source.remaining c.args.source.now) (g.W.Sink.contents c.args.writer.now) c.cuts.invariant.watched.0 c.cuts.invariant.watched.1)

pub returns-in_err-turn-clause-first_cuts : goal.returns-in_err-turn-clause-first_cuts
returns-in_err-turn-clause-first_cuts g c =
    let p = err_from_is_err_and c.from_residual.result c.from_residual.ensures.1 in
    rw (p.1, p.2)
    (c.in_err-turn.ensures.first_cuts (g.R.Source.remaining c.args.source.now) (g.W.Sink.contents c.args.writer.now) c.cuts.invariant.watched.0 c.cuts.invariant.watched.1)

pub returns-clause-first_cuts : goal.returns-clause-first_cuts
returns-clause-first_cuts g c = λ other.
    first-cuts c.args.watch.now.every c.args.watch.now.expected (g.R.Source.remaining c.args.source.now) (g.W.Sink.contents c.args.writer.now)
    (g.R.Source.remaining c.cuts.source) (g.W.Sink.contents c.cuts.writer) c.cuts.reader c.cuts.invariant.watched.0 c.cuts.invariant.watched.1

-- ---- a turn failed

pub returns-in_err-turn-clause-begun : goal.returns-in_err-turn-clause-begun
returns-in_err-turn-clause-begun g c = λ is.
    let p = err_from_is_err_and c.from_residual.result c.from_residual.ensures.1 in
    let (count, watched, passed) = c.cuts.invariant.watched in
    c.in_err-turn.ensures.begun (g.R.Source.remaining c.args.source.now) (g.W.Sink.contents c.args.writer.now) count watched (cc (is, p.1, p.2))

pub returns-in_err-turn-clause-read_on : goal.returns-in_err-turn-clause-read_on
returns-in_err-turn-clause-read_on g c = further_more _ _ _ c.cuts.invariant.read_on c.turn.ensures.read_on

pub returns-in_err-turn-clause-calls : goal.returns-in_err-turn-clause-calls
returns-in_err-turn-clause-calls g c =
    let p = err_from_is_err_and c.from_residual.result c.from_residual.ensures.1 in
    watch_fails g.R.Source.called c.args.watch.now.rest c.from_residual.result p.0 c.in_err-turn.field-0.0 _ _ _ p.1 p.2 c.cuts.invariant.calls
    c.in_err-turn.ensures.calls

pub returns-in_err-turn-clause-unfailed : goal.returns-in_err-turn-clause-unfailed
returns-in_err-turn-clause-unfailed g c = λ other.
    let p = err_from_is_err_and c.from_residual.result c.from_residual.ensures.1 in
    let (count, watched, passed) = c.cuts.invariant.watched in
    passed_kept g.W.Sink.called count c.args.writer.now c.cuts.writer c.turn.new.writer
    (c.in_err-turn.ensures.unwritten (λ fault. other (cc (fault, p.1, p.2)))) passed

pub returns-in_err-turn-clause-write_fault : goal.returns-in_err-turn-clause-write_fault
returns-in_err-turn-clause-write_fault g c = λ is.
    let p = err_from_is_err_and c.from_residual.result c.from_residual.ensures.1 in
    let (count, watched, passed) = c.cuts.invariant.watched in
    fails_join g.W.Sink.called MAX_WRITE_CALLS _ _ _ (passed_so_far g.W.Sink.called count _ _ passed)
    (c.in_err-turn.ensures.write_fault (cc (is, p.1, p.2)))

-- ---- the judging ended at a cut

pub returns-in-Stopped-clause-read_on : goal.returns-in-Stopped-clause-read_on
returns-in-Stopped-clause-read_on g c =
    further_more _ _ _ (further_more _ _ _ c.cuts.invariant.read_on c.turn.ensures.read_on) c.read_on.ensures.read_on

pub returns-in-Stopped-clause-calls : goal.returns-in-Stopped-clause-calls
returns-in-Stopped-clause-calls g c =
    let on = subst (λ (t : Turn). TurnsBy g.R.Source.called (Ok t) c.cuts.source c.turn.new.source) c.in-Stopped.is c.in_ok-turn.ensures.calls in
    watch_stops g.R.Source.called c.args.watch.now.rest c.in-Stopped.followed _ _ _ _ c.cuts.invariant.calls on c.read_on.ensures.calls

pub returns-in-Stopped-clause-passed_on : goal.returns-in-Stopped-clause-passed_on
returns-in-Stopped-clause-passed_on g c =
    let (count, watched, passed) = c.cuts.invariant.watched in
    passes_turn g.W.Sink.called c.args.watch.now.every count (length c.cuts.reader.log.events) c.args.writer.now c.cuts.writer c.turn.new.writer
    watched.events passed c.in_ok-turn.ensures.passed_on

pub returns-in-Stopped-clause-unfailed : goal.returns-in-Stopped-clause-unfailed
returns-in-Stopped-clause-unfailed g c = λ other.
    let (count, watched, passed) = c.cuts.invariant.watched in
    inr (passes_turn g.W.Sink.called c.args.watch.now.every count (length c.cuts.reader.log.events) c.args.writer.now c.cuts.writer
    c.turn.new.writer watched.events passed c.in_ok-turn.ensures.passed_on)

-- ---- or at the end of the log

pub returns-in-Ended-clause-read_on : goal.returns-in-Ended-clause-read_on
returns-in-Ended-clause-read_on g c = further_more _ _ _ c.cuts.invariant.read_on c.turn.ensures.read_on

pub returns-in-Ended-clause-calls : goal.returns-in-Ended-clause-calls
returns-in-Ended-clause-calls g c =
    let end = subst (λ (t : Turn). TurnsBy g.R.Source.called (Ok t) c.cuts.source c.turn.new.source) c.in-Ended.is c.in_ok-turn.ensures.calls in
    watch_ends g.R.Source.called c.args.watch.now.rest c.in-Ended.followed _ _ _ c.cuts.invariant.calls end

pub returns-in-Ended-clause-passed_on : goal.returns-in-Ended-clause-passed_on
returns-in-Ended-clause-passed_on g c =
    let (count, watched, passed) = c.cuts.invariant.watched in
    passes_turn g.W.Sink.called c.args.watch.now.every count (length c.cuts.reader.log.events) c.args.writer.now c.cuts.writer c.turn.new.writer
    watched.events passed c.in_ok-turn.ensures.passed_on

pub returns-in-Ended-clause-unfailed : goal.returns-in-Ended-clause-unfailed
returns-in-Ended-clause-unfailed g c = λ other.
    let (count, watched, passed) = c.cuts.invariant.watched in
    inr (passes_turn g.W.Sink.called c.args.watch.now.every count (length c.cuts.reader.log.events) c.args.writer.now c.cuts.writer
    c.turn.new.writer watched.events passed c.in_ok-turn.ensures.passed_on)

-- ---- more turns than a log has events

pub returns-clause-calls : goal.returns-clause-calls
returns-clause-calls g c = watch_memory g.R.Source.called c.args.watch.now.rest _ Memory _ _ refl refl c.cuts.invariant.calls

pub returns-clause-unfailed : goal.returns-clause-unfailed
returns-clause-unfailed g c = λ other.
    let (count, watched, passed) = c.cuts.invariant.watched in passed_so_far g.W.Sink.called count _ _ passed
