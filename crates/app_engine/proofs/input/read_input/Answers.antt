use Rattle.std.proofs.Common.{arith, rules}
use Rattle.std.proofs.KnownBytes.{Consumes-nil, Consumes-trans}
use Rattle.app_engine.proofs.ReadCallLaws.{ended_at_most, goes_on, gone_at_most, no_call, no_call_at_most, not_ended}
use Rattle.app_engine.proofs.input.read_input.Goals as goal

pub returns-in_err-chunk-clause-calls : goal.returns-in_err-chunk-clause-calls
returns-in_err-chunk-clause-calls g c = no_call_at_most g.R.Source.called _ _

pub loop-init : goal.loop-init
loop-init g c = record {
  taken = rw c.new-input.ensures.items (Consumes-nil _);
  within = search rules;
  calls = no_call g.R.Source.called _;
}

pub returns-in_err-given-clause-reader : goal.returns-in_err-given-clause-reader
returns-in_err-given-clause-reader g c =
    (_, Consumes-trans _ _ _ _ _ c.loop.invariant.taken c.read_once.ensures.reader.1)

pub returns-in_err-given-clause-calls : goal.returns-in_err-given-clause-calls
returns-in_err-given-clause-calls g c =
    let call = c.read_once.ensures.call in
    ended_at_most g.R.Source.called c.loop.counter _ _ _ _ call.0 c.loop-test.true c.loop.invariant.calls call.1

pub returns-then-eq-clause-calls : goal.returns-then-eq-clause-calls
returns-then-eq-clause-calls g c =
    let call = c.read_once.ensures.call in
    ended_at_most g.R.Source.called c.loop.counter _ _ _ _ call.0 c.loop-test.true c.loop.invariant.calls call.1

pub loop-preserved : goal.loop-preserved
loop-preserved g c =
    let moved = c.in_ok-given.ensures.moved in
    let call = c.in_ok-given.ensures.call in
    let on = not_ended call.0 c.in_ok-given.given (grind arith) call.2 in
    record {
      taken = rw moved.2 (Consumes-trans _ _ _ _ _ c.loop.invariant.taken moved.1);
      within = c.in_ok-given.ensures.within.1;
      calls = goes_on g.R.Source.called c.loop.counter _ _ _ call.0 c.loop.invariant.calls call.1 on;
    }

pub returns-clause-calls : goal.returns-clause-calls
returns-clause-calls g c = gone_at_most g.R.Source.called c.loop.counter _ _ _ c.loop.auto.counter-end c.loop.invariant.calls
