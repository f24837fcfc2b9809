use Rattle.std.proofs.Common.{◌≤◌, ℕ, List, subst₂, sym, get_or}
use Rattle.std.specs.Prelude.{max}
use Rattle.order_causal.specs.Topological.{IsFullWalk}
use Rattle.order_causal.specs.Schedules.{placed}
use Rattle.order_causal.specs.Vectors.{Counts}
use Rattle.order_causal.specs.Waits.{IsTopologicalOrder}
use Rattle.order_causal.proofs.TopologicalOrders.{sorted-acyclic, walk-order, walk-stuck}
use Rattle.order_causal.proofs.sorting.topological_sort.Goals as goal

pub cycle_from-requires-clause-stuck : goal.cycle_from-requires-clause-stuck
cycle_from-requires-clause-stuck c =
    let v = c.counts-counts.result.now in
    let limits = c.in_ok-limits.limits.items in
    let schedule = c.run_to.new.self in
    walk-stuck v limits c.in_ok-limits.ensures schedule
    (subst₂ (λ (l b : List ℕ). IsFullWalk v l b schedule) c.deref.ensures.value c.new-walk.ensures c.in_ok-run_to.ensures.rule)
    (subst₂ (λ (l b : List ℕ). (s : ℕ) → placed schedule s ≤ max (placed b s) (get_or l s 0)) c.deref.ensures.value c.new-walk.ensures c.in_ok-run_to.ensures.within)

pub returns-clause-sorted : goal.returns-clause-sorted
returns-clause-sorted c =
    let v = c.counts-counts.result.now in
    let limits = c.in_ok-limits.limits.items in
    let schedule = c.run_to.new.self in
    let order = walk-order v limits c.in_ok-limits.ensures schedule
    (subst₂ (λ (l b : List ℕ). IsFullWalk v l b schedule) c.deref.ensures.value c.new-walk.ensures c.in_ok-run_to.ensures.rule)
    (subst₂ (λ (l b : List ℕ). (s : ℕ) → placed schedule s ≤ max (placed b s) (get_or l s 0)) c.deref.ensures.value c.new-walk.ensures c.in_ok-run_to.ensures.within)
    c.in-None.ensures in
    let whole : IsTopologicalOrder c.args.waits.now c.into_schedule.result.items =
    subst₂ (λ (w : Counts) (xs : List ℕ). IsTopologicalOrder w xs) c.counts-counts.ensures.counts (sym c.into_schedule.ensures) order in
    (whole, sorted-acyclic c.args.waits.now c.into_schedule.result.items whole)
