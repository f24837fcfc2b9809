use Rattle.std.proofs.Common.{◌+◌, Option, arith, length, subst}
use Rattle.std.proofs.lemmas.Result.{err_from_is_err_and}
use Rattle.json_lines.proofs.TakingLaws.{further_more, further_none}
use Rattle.log_reader.proofs.LogCallLaws.{lines_end, lines_fault, lines_more, lines_none, lines_stop, no_more}
use Rattle.log_reader.specs.ReadSteps.{ReadsLine}
use Rattle.log_reader.specs.declared.progress.Progress.{Progress}
use Rattle.log_reader.proofs.BookLaws.{extends-more, extends-same}
use Rattle.log_reader.proofs.ReadLaws.{line_reads, more_fault, more_more, more_none, more_reads}
use Rattle.log_reader.proofs.event_reader.EventReader.read.Goals as goal

pub loop-init : goal.loop-init
loop-init g c = record {
  more = more_none _ _;
  extends = extends-same _;
  calls = (0, omega arith, lines_none g.R.Source.called c.args.source.now);
  further = further_none (g.R.Source.remaining c.args.source.now);
  few = omega arith;
}

pub returns-in_err-progress-clause-fault : goal.returns-in_err-progress-clause-fault
returns-in_err-progress-clause-fault g c =
    let p = err_from_is_err_and c.from_residual.result c.from_residual.ensures.1 in
    rw (p.1, p.2)
    (more_fault (length c.loop.self.log.events + 1) c.args.most (g.R.Source.remaining c.args.source.now) (g.R.Source.remaining c.loop.source) c.args.self.now
    c.loop.self c.in_err-progress.field-0.0 (grind arith) c.loop.invariant.extends c.loop.invariant.more c.in_err-progress.ensures.fault)

pub returns-in-Some-clause-read : goal.returns-in-Some-clause-read
returns-in-Some-clause-read g c =
    let before = g.R.Source.remaining c.loop.source in
    let after = g.R.Source.remaining c.read_line.new.source in
    let line = subst (λ (o : Option Progress). ReadsLine before after c.loop.self c.read_line.new.self o) c.in-Some.is c.in_ok-progress.ensures.read in
    more_reads (g.R.Source.remaining c.args.source.now) before after c.args.self.now c.loop.self c.read_line.new.self c.in-Some.progress c.loop.invariant.more
    (line_reads before after c.loop.self c.read_line.new.self c.in-Some.progress line)

pub loop-preserved : goal.loop-preserved
loop-preserved g c =
    let before = g.R.Source.remaining c.loop.source in
    let after = g.R.Source.remaining c.read_line.new.source in
    let line = subst (λ (o : Option Progress). ReadsLine before after c.loop.self c.read_line.new.self o) c.in_default.is c.in_ok-progress.ensures.read in
    let on = rw c.in_default.is at c.in_ok-progress.ensures.calls in
    let counted = rw c.in_default.is at c.in_ok-progress.ensures.counted in
    record {
      more = more_more (g.R.Source.remaining c.args.source.now) before after c.args.self.now c.loop.self c.read_line.new.self c.loop.invariant.more line;
      extends = extends-more c.args.self.now.log c.loop.self.log c.read_line.new.self.log c.loop.invariant.extends c.read_line.ensures.extends;
      calls = (c.loop.invariant.calls.0 + 1, omega (arith, c.loop.invariant.calls.1, counted), lines_more g.R.Source.called c.loop.invariant.calls.0 _ _ _ c.loop.invariant.calls.2 on);
      further = further_more _ _ _ c.loop.invariant.further c.read_line.ensures.further;
      few = grind arith;
    }

pub returns-in-Some-clause-extends : goal.returns-in-Some-clause-extends
returns-in-Some-clause-extends g c =
    extends-more c.args.self.now.log c.loop.self.log c.read_line.new.self.log c.loop.invariant.extends c.read_line.ensures.extends

pub returns-in_err-progress-clause-extends : goal.returns-in_err-progress-clause-extends
returns-in_err-progress-clause-extends g c =
    extends-more c.args.self.now.log c.loop.self.log c.read_line.new.self.log c.loop.invariant.extends c.read_line.ensures.extends

pub returns-in_err-progress-clause-calls : goal.returns-in_err-progress-clause-calls
returns-in_err-progress-clause-calls g c =
    let p = err_from_is_err_and c.from_residual.result c.from_residual.ensures.1 in
    let (lines, counted, before) = c.loop.invariant.calls in
    rw (p.1, p.2)
    (lines, omega (arith, counted, c.in_err-progress.ensures.faulted), lines_fault g.R.Source.called lines c.in_err-progress.field-0.0 _ _ _ before c.in_err-progress.ensures.calls)

pub returns-in-Some-clause-calls : goal.returns-in-Some-clause-calls
returns-in-Some-clause-calls g c =
    let before = g.R.Source.remaining c.loop.source in
    let after = g.R.Source.remaining c.read_line.new.source in
    let line = subst (λ (o : Option Progress). ReadsLine before after c.loop.self c.read_line.new.self o) c.in-Some.is c.in_ok-progress.ensures.read in
    let by = rw c.in-Some.is at c.in_ok-progress.ensures.calls in
    let uncounted = rw c.in-Some.is at c.in_ok-progress.ensures.uncounted in
    let (lines, counted, so_far) = c.loop.invariant.calls in
    (lines, omega (arith, counted, uncounted), lines_end g.R.Source.called lines c.in-Some.progress _ _ _ (no_more before after c.loop.self c.read_line.new.self c.in-Some.progress line) so_far by)

pub returns-in_err-progress-clause-further : goal.returns-in_err-progress-clause-further
returns-in_err-progress-clause-further g c = further_more _ _ _ c.loop.invariant.further c.read_line.ensures.further

pub returns-in-Some-clause-further : goal.returns-in-Some-clause-further
returns-in-Some-clause-further g c = further_more _ _ _ c.loop.invariant.further c.read_line.ensures.further

pub returns-clause-calls : goal.returns-clause-calls
returns-clause-calls g c =
    let (lines, counted, before) = c.loop.invariant.calls in
    (lines, counted, lines_stop g.R.Source.called lines _ _ before)
