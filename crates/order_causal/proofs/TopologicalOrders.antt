-- Orders by the topological rule: a walk that places all is one, and where there is one no operation leads to itself.
use Rattle.std.specs.Prelude.{◌≡◌, ◌≢◌, ℕ, ◌+◌, ◌<◌, ◌≤◌, List, [], length, take, max}
use Rattle.std.proofs.Common.{arith, get_or, sym, ap, subst, ⊎_elim, refl, eq-or-lt_of_le}
use Rattle.std.proofs.lemmas.Bool.{cases_eq, cases_lt}
use Rattle.std.proofs.lemmas.List.{get_or_past}
use Rattle.model_history.specs.declared.op_id.OpId.{OpId}
use Rattle.model_history.specs.History.{Precedes}
use Rattle.order_causal.specs.Orders.{op, Leads}
use Rattle.order_causal.specs.Vectors.{IsListed, Counts, count}
use Rattle.order_causal.specs.Steps.Waiting.{IsLimit, AreLimits, IsOpen, IsStuck}
use Rattle.order_causal.specs.Topological.{CanGoOn, IsFullWalk}
use Rattle.order_causal.specs.Schedules.{placed, next_of}
use Rattle.order_causal.specs.Waits.{WaitsFor, IsAwaited, IsWaitEdge, CanFollow, IsTopologicalOrder}
use Rattle.order_causal.proofs.VectorsLaws.{counted-listed}
use Rattle.order_causal.proofs.OrdersLaws.{same_op}
use Rattle.order_causal.proofs.Placed.{placed-up, placed-whole, places}
use Rattle.order_causal.proofs.PushedLaws.{listed-length}
use Rattle.order_causal.proofs.PathsLaws.{leads-within}

module _ (waits : Counts) (schedule : List ℕ) (order : IsTopologicalOrder waits schedule) where
  -- some front of the schedule places a and not b
  abbrev IsBefore : OpId → OpId → Type 0
  IsBefore a b = (k : ℕ) × (a.index < placed (take k schedule) a.session) × (placed (take k schedule) b.session ≤ b.index)

  before-before : (a b c : OpId) → IsBefore a b → IsBefore b c → IsBefore a c
  before-before a b c first second = ⊎_elim
      (λ (later : second.0 < first.0).
      let less = placed-up schedule second.0 first.0 b.session (omega arith) in
      let not_placed = first.2 in
      let is_placed = second.1 in
      absurd (omega arith))
      (λ (up_to : first.0 ≤ second.0).
      let more = placed-up schedule first.0 second.0 a.session up_to in
      let is_placed = first.1 in
      (second.0, omega arith, second.2))
      (cases_lt second.0 first.0)

  awaited-listed : (a b : OpId) → IsAwaited waits b a → IsListed waits b
  awaited-listed a b awaited = let is = awaited.0 in counted-listed waits b a (omega arith)

  edge-before : (a b : OpId) → IsWaitEdge waits a b → IsBefore a b
  edge-before a b edge =
      let listed : IsListed waits b = ⊎_elim
      (λ (before : Precedes a b × IsListed waits b). before.1)
      (λ (awaited : IsAwaited waits b a). awaited-listed a b awaited)
      edge in
      let all = order.whole b.session in
      let place = places schedule b.session b.index (omega arith) in
      let k : ℕ = place.0 in
      let here = place.2 in
      let is_next : b ≡ next_of (take k schedule) b.session = same_op b (next_of (take k schedule) b.session) refl (sym here) in
      ⊎_elim
      (λ (before : Precedes a b × IsListed waits b).
      let same = before.0.0 in
      let less = before.0.1 in
      let is_placed : a.index < placed (take k schedule) b.session = omega arith in
      (k, subst (λ (s : ℕ). a.index < placed (take k schedule) s) (sym same) is_placed, omega arith))
      (λ (awaited : IsAwaited waits b a).
      let is = awaited.0 in
      let waits_for : WaitsFor waits b a = (omega arith, awaited.1) in
      (k, (order.can k b.session place.1).ready a (subst (λ (o : OpId). WaitsFor waits o a) is_next waits_for), omega arith))
      edge

  -- no operation leads to itself
  pub sorted-acyclic : (a : OpId) → ¬ Leads (IsWaitEdge waits) a a
  sorted-acyclic a leads =
      let before = leads-within (IsWaitEdge waits) IsBefore edge-before before-before a a leads in
      let is_placed = before.1 in
      let not_placed = before.2 in
      omega arith

module _ (waits : Counts) (limits : List ℕ) (are_limits : AreLimits waits limits) where
  limit : (o : OpId) → IsListed waits o → IsLimit waits o.session (get_or limits o.session 0)
  limit o listed = are_limits.each o.session (listed-length waits o.session o.index listed)

  -- where a walk can go on, the next operation can follow
  go-follow : (schedule : List ℕ) (s : ℕ) → CanGoOn waits limits schedule s → CanFollow waits schedule s
  go-follow schedule s can =
      let o = next_of schedule s in
      let below = can.below in
      let own = (limit o can.there).before (placed schedule s) below in
      record {
        there = can.there;
        ready = λ a waits_for.
            let counted = waits_for.0 in
            ⊎_elim
            (λ (same : a.session ≡ s).
            let here : a.index < count waits o s = subst (λ (t : ℕ). a.index < count waits o t) same counted in
            let other : a.index ≢ placed schedule s = λ index. waits_for.1 (same_op a o same index) in
            subst (λ (t : ℕ). a.index < placed schedule t) (sym same) (omega arith))
            (λ (apart : a.session ≢ s). let ready = can.ready a.session apart in omega arith)
            (cases_eq a.session s);
      }

  -- and the other way round, where the schedule is within the limits
  follow-go : (schedule : List ℕ) (s : ℕ) → placed schedule s ≤ get_or limits s 0 → CanFollow waits schedule s → CanGoOn waits limits schedule s
  follow-go schedule s within follow =
      let o = next_of schedule s in
      let there = follow.there in
      record {
        there = there;
        below = ⊎_elim
            (λ (last : placed schedule s ≡ get_or limits s 0).
            let later : get_or limits s 0 + 1 < count waits (op s (get_or limits s 0)) s = (limit o there).first (omega arith) in
            let here : placed schedule s + 1 < count waits o s = subst (λ (n : ℕ). n + 1 < count waits (op s n) s) (sym last) later in
            let apart : op s (placed schedule s + 1) ≢ o = λ same. let index = ap (λ (a : OpId). a.index) same in omega arith in
            let ready = follow.ready (op s (placed schedule s + 1)) (here, apart) in
            absurd (omega arith))
            (λ (below : placed schedule s < get_or limits s 0). below)
            (eq-or-lt_of_le within);
        ready = λ t other. ⊎_elim
            (λ (missing : placed schedule t < count waits o t).
            let apart : op t (placed schedule t) ≢ o = λ same. other (ap (λ (a : OpId). a.session) same) in
            let ready = follow.ready (op t (placed schedule t)) (missing, apart) in
            absurd (omega arith))
            (λ (up_to : count waits o t ≤ placed schedule t). up_to)
            (cases_lt (placed schedule t) (count waits o t));
      }

  module _ (schedule : List ℕ) (full : IsFullWalk waits limits [] schedule)
      (within : (s : ℕ) → placed schedule s ≤ max (placed [] s) (get_or limits s 0)) where
    front-within : (k s : ℕ) → placed (take k schedule) s ≤ get_or limits s 0
    front-within k s = let less = placed-whole schedule k s in let most = within s in omega arith

    whole-within : (s : ℕ) → placed schedule s ≤ get_or limits s 0
    whole-within s = let most = within s in omega arith

    -- where the walk ends no session can go on
    pub walk-stuck : IsStuck waits schedule
    walk-stuck s follow = full.ended s (follow-go schedule s (whole-within s) follow)

    limit-most : (s : ℕ) → get_or limits s 0 ≤ length (get_or waits s [])
    limit-most s = ⊎_elim
        (λ (inside : s < length waits). (are_limits.each s inside).within)
        (λ (past : length waits ≤ s).
        let size = are_limits.size in
        let none = get_or_past limits s 0 (omega arith) in
        omega arith)
        (cases_lt s (length waits))

    -- a walk that places all is an order
    pub walk-order : ((s : ℕ) → ¬ IsOpen waits schedule s) → IsTopologicalOrder waits schedule
    walk-order all = record {
      can = λ k s here. go-follow (take k schedule) s (full.walk.each k s (omega arith) here).can;
      least = λ k s t here below follow. (full.walk.each k s (omega arith) here).least t below
          (follow-go (take k schedule) t (front-within k t) follow);
      whole = λ s. ⊎_elim
          (λ (left : placed schedule s < length (get_or waits s [])). absurd (all s left))
          (λ (up_to : length (get_or waits s []) ≤ placed schedule s). let most = limit-most s in let up = whole-within s in omega arith)
          (cases_lt (placed schedule s) (length (get_or waits s [])));
    }
