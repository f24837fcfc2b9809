-- A full walk by the topological rule, cut to a closed set of operations, is the full walk through them.
use Rattle.std.specs.Prelude.{◌≡◌, ◌≢◌, ℕ, ◌+◌, ◌<◌, ◌≤◌, List, [], ◌∷◌, ◌++◌, length, min, take, Some, slice_get}
use Rattle.std.proofs.Common.{zero, suc, arith, get_or, sym, ap, subst, ◌∙◌, ⊎_elim, take_all}
use Rattle.std.proofs.lemmas.Bool.{cases_lt, cases_eq}
use Rattle.std.proofs.lemmas.List.{get_or_past}
use Rattle.model_history.specs.History.{HistoryValue, session}
use Rattle.order_causal.specs.Orders.{op}
use Rattle.order_causal.specs.Schedules.{placed}
use Rattle.order_causal.specs.Topological.{CanGoOn, IsFullWalk, IsNext, IsWalk}
use Rattle.order_causal.specs.Vectors.{Counts, count, HasOneEach, IsListed}
use Rattle.order_causal.proofs.PushedLaws.{listed-length}
use Rattle.order_causal.proofs.TopologicalLaws.{placed-same}
use Rattle.order_causal.proofs.Walked.{placed-other, room, walk-none, walk-push}
use Rattle.cert_check.proofs.Named.{take_next}
use Rattle.cert_make_cc.specs.Steps.Cuts.{AreClosed, IsWalkOfAll}

-- where the limits leave no room, each is reached
pub no_room : (n : ℕ) (limits schedule : List ℕ) → room n limits schedule ≡ 0 → (s : ℕ) → s < n → get_or limits s 0 ≤ placed schedule s
no_room zero limits schedule none s below = absurd (omega arith)
no_room (suc n) limits schedule none s below = ⊎_elim
    (λ (last : s ≡ n). subst (λ (r : ℕ). get_or limits r 0 ≤ placed schedule r) (sym last) (omega arith))
    (λ (other : s ≢ n). no_room n limits schedule (omega arith) s (omega arith))
    (cases_eq s n)

-- what was cut from the first k numbers
pub record IsCutAt (v : Counts) (whole limits : List ℕ) (k : ℕ) (cut : List ℕ) : Type 0 where
  pub counts : (s : ℕ) → placed cut s ≡ min (placed (take k whole) s) (get_or limits s 0)
  pub walk : IsWalk v limits [] cut

module _ (v : Counts) (whole : List ℕ) (all : IsWalkOfAll v whole) (limits : List ℕ) (closed : AreClosed v limits) where
  module _ (front cut : List ℕ) (counts : (s : ℕ) → placed cut s ≡ min (placed front s) (get_or limits s 0)) where
    -- what can go on in the cut can go on in the whole
    can-whole : (s : ℕ) → CanGoOn v limits cut s → CanGoOn v all.ends front s
    can-whole s can =
        let here = counts s in
        let below = can.below in
        let end = all.all s in
        let same : placed cut s ≡ placed front s = omega arith in
        let there : IsListed v (op s (placed front s)) = subst (λ (n : ℕ). IsListed v (op s n)) same can.there in
        record {
          there = there;
          below = omega arith;
          ready = λ t apart.
              let ready = can.ready t apart in
              let other = counts t in
              subst (λ (n : ℕ). count v (op s n) t ≤ placed front t) same (omega arith);
        }

    -- and the other way round, below the limits
    can-cut : (s : ℕ) → CanGoOn v all.ends front s → placed cut s < get_or limits s 0 → CanGoOn v limits cut s
    can-cut s can below =
        let here = counts s in
        let same : placed front s ≡ placed cut s = omega arith in
        let there : IsListed v (op s (placed cut s)) = subst (λ (n : ℕ). IsListed v (op s n)) same can.there in
        record {
          there = there;
          below = below;
          ready = λ t apart.
              let ready : count v (op s (placed cut s)) t ≤ placed front t = subst (λ (n : ℕ). count v (op s n) t ≤ placed front t) same (can.ready t apart) in
              let other = counts t in
              ⊎_elim
              (λ (more : get_or limits t 0 < count v (op s (placed cut s)) t).
              let inside : get_or limits t 0 < get_or limits t 0 = closed.each (op s (placed cut s)) (op t (get_or limits t 0)) there below more in
              absurd (omega arith))
              (λ (most : count v (op s (placed cut s)) t ≤ get_or limits t 0). omega arith)
              (cases_lt (get_or limits t 0) (count v (op s (placed cut s)) t));
        }

  pub cut_none : IsCutAt v whole limits 0 []
  cut_none = record { counts = λ s. omega arith; walk = walk-none v limits [] }

  module _ (k s : ℕ) (here : slice_get whole k ≡ Some s) (cut : List ℕ) (at : IsCutAt v whole limits k cut) where
    next : IsNext v all.ends (take k whole) s
    next = all.full.walk.each k s (omega arith) here

    pub session-held : s < length v
    session-held = listed-length v s (placed (take k whole) s) next.can.there

    -- an operation below the limit of its session is placed
    pub cut_placed : placed cut s < get_or limits s 0 → IsCutAt v whole limits (k + 1) (cut ++ s ∷ [])
    cut_placed below = record {
      counts = λ t.
          let more : placed (take (k + 1) whole) t ≡ placed (take k whole ++ s ∷ []) t = ap (λ (xs : List ℕ). placed xs t) (take_next whole k s here) in
          let now = at.counts t in
          ⊎_elim
          (λ (same : t ≡ s).
          let one = placed-same cut s in
          let own = placed-same (take k whole) s in
          let first = at.counts s in
          let next_count : placed (take (k + 1) whole) s ≡ placed (take k whole ++ s ∷ []) s = ap (λ (xs : List ℕ). placed xs s) (take_next whole k s here) in
          subst (λ (r : ℕ). placed (cut ++ s ∷ []) r ≡ min (placed (take (k + 1) whole) r) (get_or limits r 0)) (sym same) (omega arith))
          (λ (apart : t ≢ s).
          let one = placed-other cut s t apart in
          let own = placed-other (take k whole) s t apart in
          omega arith)
          (cases_eq t s);
      walk = walk-push v limits [] cut s at.walk (record {
        can = can-cut (take k whole) cut at.counts s next.can below;
        least = λ t less can. next.least t less (can-whole (take k whole) cut at.counts t can);
      });
    }

    -- another is not
    pub cut_skipped : get_or limits s 0 ≤ placed cut s → IsCutAt v whole limits (k + 1) cut
    cut_skipped reached = record {
      counts = λ t.
          let more : placed (take (k + 1) whole) t ≡ placed (take k whole ++ s ∷ []) t = ap (λ (xs : List ℕ). placed xs t) (take_next whole k s here) in
          let now = at.counts t in
          ⊎_elim
          (λ (same : t ≡ s).
          let own = placed-same (take k whole) s in
          let first = at.counts s in
          let next_count : placed (take (k + 1) whole) s ≡ placed (take k whole ++ s ∷ []) s = ap (λ (xs : List ℕ). placed xs s) (take_next whole k s here) in
          subst (λ (r : ℕ). placed cut r ≡ min (placed (take (k + 1) whole) r) (get_or limits r 0)) (sym same) (omega arith))
          (λ (apart : t ≢ s). let own = placed-other (take k whole) s t apart in omega arith)
          (cases_eq t s);
      walk = at.walk;
    }

  -- at the end of the whole walk the cut is full
  pub cut_ends : (k : ℕ) → length whole ≤ k → (cut : List ℕ) → IsCutAt v whole limits k cut → IsFullWalk v limits [] cut
  cut_ends k past cut at = record {
    walk = at.walk;
    ended = λ s can. all.full.ended s
        (subst (λ (xs : List ℕ). CanGoOn v all.ends xs s) (take_all k whole past) (can-whole (take k whole) cut at.counts s can));
  }

  -- and so it is where the limits leave no room
  pub cut_reaches : (k : ℕ) (cut : List ℕ) → IsCutAt v whole limits k cut → room (length limits) limits cut ≡ 0 → IsFullWalk v limits [] cut
  cut_reaches k cut at none = record {
    walk = at.walk;
    ended = λ s can.
        let below = can.below in
        ⊎_elim
        (λ (inside : s < length limits). let reached = no_room (length limits) limits cut none s inside in absurd (omega arith))
        (λ (past : length limits ≤ s). let nothing = get_or_past limits s 0 past in absurd (omega arith))
        (cases_lt s (length limits));
  }

-- the ends of the sessions are where their vectors end
pub all_ends : {S C R : Type 0} (h : HistoryValue S C R) (v : Counts) → HasOneEach h v → (ends : List ℕ) → length ends ≡ length h.1
    → ((s : ℕ) → s < length h.1 → get_or ends s 0 ≡ length (session h s)) → (s : ℕ) → get_or ends s 0 ≡ length (get_or v s [])
all_ends {S} {C} {R} h v one_each ends size each s = ⊎_elim
    (λ (inside : s < length h.1). each s inside ∙ sym (one_each.operations s))
    (λ (past : length h.1 ≤ s).
    let sessions = one_each.sessions in
    let none = get_or_past ends s 0 (omega arith) in
    let nothing : length (get_or v s []) ≡ 0 = ap length (get_or_past v s [] (omega arith)) in
    omega arith)
    (cases_lt s (length h.1))
