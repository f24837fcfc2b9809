use Rattle.std.specs.Prelude.{◌≤◌, length}
use Rattle.std.proofs.Common.{arith, subst, sym, ◌∙◌}
use Rattle.judge_memory.specs.Steps.{many}
use Rattle.show_faults.proofs.Tallied.{tally-first, tally-whole}
use Rattle.show_faults.proofs.finding.tally.Goals as goal

pub loop-operation-init : goal.loop-operation-init
loop-operation-init g c = record {
  sessions = c.none-faults.ensures.sessions ∙ c.sessions.ensures.count;
  cycle = c.none-faults.ensures.cycle;
  few_broken = subst (λ b. length b.listed.items ≤ c.args.most) (sym c.none-faults.ensures.broken) c.in_ok-broken.ensures;
  tally = tally-first c.args.index.now.history c.args.most c.none-faults.result.listed.items c.none-faults.result.counts
      c.none-faults.result.by_session.items (c.none-faults.ensures.tally c.args.most);
}

pub returns-clause-tally : goal.returns-clause-tally
returns-clause-tally g c =
    let h = c.args.index.now.history in
    let whole : many h ≤ c.loop-operation.operation = grind arith in
    tally-whole h c.args.most c.loop-operation.operation c.loop-operation.faults.listed.items c.loop-operation.faults.counts
    c.loop-operation.faults.by_session.items c.loop-operation.invariant.tally whole
