use Rattle.std.proofs.Common.{ℕ, ◌≤◌, length, arith, sym, subst, subst₂, ◌∙◌}
use Rattle.std.specs.Prelude.{IsTrue}
use Rattle.model_history.specs.declared.op_id.OpId.{OpId}
use Rattle.order_memory.specs.Memory.{MemoryHistory}
use Rattle.order_causal.specs.Orders.{op, program_past}
use Rattle.order_memory.specs.Steps.Indexed.{HasNoWriteBefore, IsLastWriteBefore}
use Rattle.pattern_search.proofs.HappenedReads.{happened-ended, happened-found, happened-more, none-from}
use Rattle.pattern_search.proofs.search.happened.write_before.Goals as goal

pub returns-in-Some : goal.returns-in-Some
returns-in-Some c =
    let kept : IsTrue (program_past c.args.relation.now.0 c.args.read.now.op) =
    subst (λ (x : OpId). IsTrue (program_past x c.args.read.now.op)) c.op.ensures (sym c.is_in_program_past_of.ensures ∙ c.if-not-is_in_program_past_of.false) in
    let initially = none-from c.args.read.now.source (sym c.is_some.ensures ∙ c.if-is_some.false) in
    happened-found c.args.order.now c.args.relation.now c.requires.relation c.args.read.now kept c.loop-session.session c.in-Some.write initially
    (subst₂ (λ (g : MemoryHistory) (n : ℕ). IsLastWriteBefore g c.args.read.now.key (op c.loop-session.session n) c.in-Some.write)
    c.memory.ensures c.count.ensures (rw c.at-end.ensures at c.in-Some.ensures))

pub loop-session-preserved : goal.loop-session-preserved
loop-session-preserved c =
    let kept : IsTrue (program_past c.args.relation.now.0 c.args.read.now.op) =
    subst (λ (x : OpId). IsTrue (program_past x c.args.read.now.op)) c.op.ensures (sym c.is_in_program_past_of.ensures ∙ c.if-not-is_in_program_past_of.false) in
    happened-more c.args.order.now c.args.relation.now c.requires.relation c.args.read.now kept c.loop-session.session c.loop-session.invariant
    (subst₂ (λ (g : MemoryHistory) (n : ℕ). HasNoWriteBefore g c.args.read.now.key (op c.loop-session.session n))
    c.memory.ensures c.count.ensures (rw c.at-end.ensures at c.in_default.ensures))

pub returns : goal.returns
returns c =
    let kept : IsTrue (program_past c.args.relation.now.0 c.args.read.now.op) =
    subst (λ (x : OpId). IsTrue (program_past x c.args.read.now.op)) c.op.ensures (sym c.is_in_program_past_of.ensures ∙ c.if-not-is_in_program_past_of.false) in
    let ended : length c.args.order.now.1 ≤ c.loop-session.session = omega arith in
    happened-ended c.args.order.now c.args.relation.now c.requires.relation c.args.read.now kept c.loop-session.session ended c.loop-session.invariant
