use Rattle.std.proofs.Common.{arith}
use Rattle.order_memory.proofs.SourceWaits.{sources-none, sources-end}
use Rattle.order_causal.proofs.WaitsLaws.{alike-sym, alike-trans}
use Rattle.order_memory.proofs.source_waits.waits_for_sources.Goals as goal

pub loop-session-init : goal.loop-session-init
loop-session-init g c = record {
  alike = alike-trans c.in_ok-waits.waits c.args.h.now.1 c.args.sources.now c.in_ok-waits.ensures.alike
      (alike-sym c.args.sources.now c.args.h.now.1 c.requires.alike);
  so_far = sources-none c.args.sources.now c.in_ok-waits.waits c.in_ok-waits.ensures.none;
}

pub returns-clause-alike : goal.returns-clause-alike
returns-clause-alike g c = alike-trans c.loop-session.waits c.args.sources.now c.args.h.now.1 c.loop-session.invariant.alike c.requires.alike

pub returns-clause-exact : goal.returns-clause-exact
returns-clause-exact g c = sources-end c.args.sources.now c.loop-session.session c.loop-session.waits (omega arith) c.loop-session.invariant.so_far
