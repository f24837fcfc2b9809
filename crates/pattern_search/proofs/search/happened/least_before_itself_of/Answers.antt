use Rattle.std.proofs.Common.{◌≡◌, ℕ, length, arith, ap, ⊎_elim, subst}
use Rattle.std.specs.Prelude.{◌≢◌}
use Rattle.std.proofs.lemmas.Bool.{cases_eq}
use Rattle.model_history.specs.History.{session}
use Rattle.order_memory.specs.Memory.{MemoryHistory}
use Rattle.order_memory.specs.Relations.{HB}
use Rattle.order_causal.specs.Orders.{op}
use Rattle.pattern_search.proofs.HappenedReads.{itself-of_history}
use Rattle.pattern_search.proofs.search.happened.least_before_itself_of.Goals as goal

pub loop-index-preserved : goal.loop-index-preserved
loop-index-preserved c i below before = ⊎_elim
    (λ (here : i ≡ c.loop-index.index).
    let same = subst (λ (k : ℕ). HB c.args.order.now c.args.relation.now.0 (op c.args.session k) (op c.args.session k)) here before in
    let yes = (rw c.at-op.ensures at c.is_before_itself.ensures).1 same in
    let no = c.if-is_before_itself.false in
    absurd cc)
    (λ (apart : i ≢ c.loop-index.index). c.loop-index.invariant i (omega arith) before)
    (cases_eq i c.loop-index.index)

pub returns : goal.returns
returns c i before =
    let is_op = itself-of_history c.args.order.now c.args.relation.now c.requires.relation c.requires.distinct (op c.args.session i) before in
    let same = ap (λ (g : MemoryHistory). length (session g c.args.session)) c.history.ensures in
    let count = c.len-index-end.ensures.count in
    let ended = c.loop-index-test.false in
    c.loop-index.invariant i (omega arith) before
