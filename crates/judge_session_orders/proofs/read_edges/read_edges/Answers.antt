use Rattle.std.specs.Prelude.{◌≡◌, ◌-◌, ◌<◌, ◌+◌, ℕ, suc, Some, length, slice_get, slice_index_or}
use Rattle.std.proofs.Common.{arith, sym, ap, subst, ◌∙◌}
use Rattle.std.proofs.lemmas.Option.{slice_get-get_or}
use Rattle.model_history.specs.History.{number}
use Rattle.judge_memory.proofs.Numbers.{number-all}
use Rattle.judge_session_orders.proofs.ReadEdges.{AreEdgesFrom, edges-all, edges-more}
use Rattle.judge_session_orders.proofs.read_edges.read_edges.Goals as goal

pub push_edge-requires : goal.push_edge-requires
push_edge-requires c =
    let h = c.args.index.now.history in
    let p : ℕ = length c.args.order.now - 1 - c.loop-i.i in
    let below : p < length c.args.order.now = grind arith in
    let found = c.requires.no_other p _ (slice_get-get_or c.args.order.now p 0 below) in
    let inside = number-all h found.0 found.1 in
    let named = found.2 in
    omega arith

pub loop-i-preserved : goal.loop-i-preserved
loop-i-preserved c =
    let h = c.args.index.now.history in
    let order = c.args.order.now in
    let inside : c.loop-i.i < length order = grind arith in
    let p : ℕ = length order - 1 - c.loop-i.i in
    let here : length order - c.loop-i.i ≡ suc p = omega arith in
    let next : p ≡ length order - (c.loop-i.i + 1) = omega arith in
    let at : slice_get order p ≡ Some (slice_index_or order p 0) = slice_get-get_or order p 0 (omega arith) in
    let b = c.requires.no_other p (slice_index_or order p 0) at in
    let old = c.loop-i.edges.items in
    let new = c.push_edge.new.edges.items in
    subst (λ (i : ℕ). AreEdgesFrom h order (length order) i new) next
    (edges-more h order (length order) p b.0 old new b.1 (at ∙ ap (λ (k : ℕ). Some k) {y = number h b.0} (sym b.2))
    (c.in_ok-push_edge.ensures b.0 b.1 b.2)
    (subst (λ (i : ℕ). AreEdgesFrom h order (length order) i old) here c.loop-i.invariant))

pub returns : goal.returns
returns c =
    let h = c.args.index.now.history in
    let order = c.args.order.now in
    let none : length order - c.loop-i.i ≡ 0 = grind arith in
    edges-all h order (length order) c.loop-i.edges.items
    (subst (λ (i : ℕ). AreEdgesFrom h order (length order) i c.loop-i.edges.items) none c.loop-i.invariant)
