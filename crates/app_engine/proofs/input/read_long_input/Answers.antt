use Rattle.std.proofs.Common.{arith, rules}
use Rattle.std.proofs.KnownBytes.{Consumes-nil, Consumes-trans}
use Rattle.app_engine.proofs.ReadCallLaws.{brings_bytes, brings_nothing, idles_no_call, idles_not}
use Rattle.app_engine.proofs.input.read_long_input.Goals as goal

pub returns-in_err-chunk-clause-calls : goal.returns-in_err-chunk-clause-calls
returns-in_err-chunk-clause-calls g c = idles_no_call g.R.Source.called _ _

pub calls-init : goal.calls-init
calls-init g c = record {
  taken = rw c.new-input.ensures.items (Consumes-nil _);
  within = search rules;
  room = search rules;
  few = search rules;
  idling = idles_not g.R.Source.called _ _;
}

pub returns-in_err-read_once-clause-reader : goal.returns-in_err-read_once-clause-reader
returns-in_err-read_once-clause-reader g c =
    (_, Consumes-trans _ _ _ _ _ c.calls.invariant.taken c.read_once.ensures.reader.1)

pub calls-preserved-in-Bytes : goal.calls-preserved-in-Bytes
calls-preserved-in-Bytes g c =
    let moved = c.in_ok-read_once.ensures.moved in
    let call = rw c.in-Bytes.is at c.in_ok-read_once.ensures.call in
    record {
      taken = rw moved.2 (Consumes-trans _ _ _ _ _ c.calls.invariant.taken moved.1);
      within = c.in_ok-read_once.ensures.within.1;
      room = search rules;
      few = omega arith;
      idling = brings_bytes g.R.Source.called _ c.calls.idle _ _ _ call.0 (omega (arith, c.calls-test.true)) c.calls.invariant.idling call.1 call.2;
    }

pub calls-preserved : goal.calls-preserved
calls-preserved g c =
    let moved = c.in_ok-read_once.ensures.moved in
    let call = rw c.in-Nothing.is at c.in_ok-read_once.ensures.call in
    record {
      taken = rw moved.2 (Consumes-trans _ _ _ _ _ c.calls.invariant.taken moved.1);
      within = c.in_ok-read_once.ensures.within.1;
      room = search rules;
      few = omega (arith, c.calls-test.true);
      idling = brings_nothing g.R.Source.called _ c.calls.idle _ _ _ call.0 (omega (arith, c.calls-test.true)) c.calls.invariant.idling call.1 call.2;
    }
