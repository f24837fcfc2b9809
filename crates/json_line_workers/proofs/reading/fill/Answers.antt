use Rattle.std.proofs.Common.{◌≡◌, ℕ, arith, refl, rules, subst, ◌∙◌}
use Rattle.std.proofs.lemmas.Result.{err_from_is_err_and}
use Rattle.json_lines.specs.ReadCalls.{GoOn}
use Rattle.json_lines.specs.declared.read_call.TheConstants.{MAX_READ_CALLS}
use Rattle.json_lines.proofs.ReadCallLaws.{go_on_more, go_on_none}
use Rattle.json_lines.proofs.TakingLaws.{further_more, takes-more, takes-none}
use Rattle.json_line_workers.proofs.CallLaws.{last_stop, more_ends, more_fails, stop_before}
use Rattle.json_line_workers.proofs.reading.fill.Goals as goal

pub loop-init : goal.loop-init
loop-init g c = record { takes = takes-none _ _; calls = go_on_none g.R.Source.called c.args.reader.now; cut = c.requires.cut; at = refl; few = c.requires.few; chunk = refl }

pub returns-then-branch-clause-taken : goal.returns-then-branch-clause-taken
returns-then-branch-clause-taken g c = takes-more _ _ _ _ _ _ c.loop.invariant.takes c.in_ok-read_more.ensures.taken

pub loop-preserved : goal.loop-preserved
loop-preserved g c =
    let call = rw c.if-branch.false at c.in_ok-read_more.ensures.call in
    record {
      calls = go_on_more g.R.Source.called c.loop.counter _ _ _ call.0 c.loop.invariant.calls call.1 call.2;
      takes = takes-more _ _ _ _ _ _ c.loop.invariant.takes c.in_ok-read_more.ensures.taken;
      cut = c.in_ok-read_more.ensures.cut;
      at = c.read_more.ensures.at ∙ c.loop.invariant.at;
      few = search rules;
      chunk = search rules;
    }

pub returns-in-Some-clause-calls : goal.returns-in-Some-clause-calls
returns-in-Some-clause-calls g c =
    let few = c.loop-test.true in
    stop_before g.R.Source.called c.in-Some.stop c.args.reader.now c.loop.reader c.in-Some.ensures.before (c.loop.counter, omega (arith, few), c.loop.invariant.calls)

pub returns-in_err-read_more-clause-further : goal.returns-in_err-read_more-clause-further
returns-in_err-read_more-clause-further g c =
    let takes = c.loop.invariant.takes in
    further_more _ _ _ (takes.taken, takes.consumed) c.in_err-read_more.ensures.further

pub returns-then-branch-clause-further : goal.returns-then-branch-clause-further
returns-then-branch-clause-further g c =
    let takes = c.loop.invariant.takes in
    further_more _ _ _ (takes.taken, takes.consumed) c.in_ok-read_more.ensures.further

pub returns-in_err-read_more-clause-calls : goal.returns-in_err-read_more-clause-calls
returns-in_err-read_more-clause-calls g c =
    let p = err_from_is_err_and c.from_residual.result c.from_residual.ensures.1 in
    rw (p.1, p.2)
    (more_fails g.R.Source.called c.loop.counter c.in_err-read_more.field-0.0 _ _ _ c.loop-test.true c.loop.invariant.calls c.in_err-read_more.ensures.call)

pub returns-then-branch-clause-calls : goal.returns-then-branch-clause-calls
returns-then-branch-clause-calls g c =
    let call = rw c.if-branch.true at c.in_ok-read_more.ensures.call in
    more_ends g.R.Source.called c.loop.counter _ _ _ c.loop-test.true c.loop.invariant.calls call

pub returns-clause-calls : goal.returns-clause-calls
returns-clause-calls g c =
    let end : c.loop.counter ≡ MAX_READ_CALLS = search rules in
    last_stop g.R.Source.called c.stop-2.result c.ok_or.result c.args.reader.now c.loop.reader c.ok_or.ensures.value c.stop-2.ensures.before
    (subst (λ (n : ℕ). GoOn g.R.Source.called n c.args.reader.now c.loop.reader) end c.loop.invariant.calls)
