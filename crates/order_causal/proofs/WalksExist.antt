-- The topological rule can be followed until no session can go on.
use Rattle.std.specs.Prelude.{◌≢◌, ℕ, ◌+◌, ◌<◌, ◌≤◌, List, [], ◌∷◌, ◌++◌, length}
use Rattle.std.proofs.Common.{zero, suc, arith, get_or, inl, inr, ⊎_elim}
use Rattle.std.proofs.lemmas.Bool.{cases_lt}
use Rattle.std.proofs.lemmas.List.{get_or_past}
use Rattle.order_causal.proofs.FullWalks.{missing}
use Rattle.order_causal.proofs.Searches.{IsDecided, least}
use Rattle.order_causal.proofs.Walked.{room, room-push, limit-within, walk-none, walk-push}
use Rattle.order_causal.specs.Topological.{CanGoOn, IsWalk, IsFullWalk}
use Rattle.order_causal.specs.Schedules.{placed, next_of}
use Rattle.order_causal.specs.Vectors.{Counts, list_of}

module _ (v : Counts) (limits : List ℕ) where
  can-decided : (schedule : List ℕ) (s : ℕ) → IsDecided (CanGoOn v limits schedule s)
  can-decided schedule s =
      let counts = list_of v (next_of schedule s) in
      ⊎_elim
      (λ (below : placed schedule s < get_or limits s 0). ⊎_elim
      (λ (there : placed schedule s < length (get_or v s [])). ⊎_elim
      (λ (found : (t : ℕ) × (t ≢ s) × (placed schedule t < get_or counts t 0)).
      inr (λ can. let ready = can.ready found.0 found.1 in let more = found.2 in omega arith))
      (λ (none : (t : ℕ) → t < length counts → t ≢ s → get_or counts t 0 ≤ placed schedule t).
      inl (record {
        there = there;
        below = below;
        ready = λ t apart. ⊎_elim
            (λ (inside : t < length counts). none t inside apart)
            (λ (past : length counts ≤ t). let nothing = get_or_past counts t 0 past in omega arith)
            (cases_lt t (length counts));
      }))
      (missing schedule s counts (length counts)))
      (λ (past : length (get_or v s []) ≤ placed schedule s). inr (λ can. let there = can.there in omega arith))
      (cases_lt (placed schedule s) (length (get_or v s []))))
      (λ (above : get_or limits s 0 ≤ placed schedule s). inr (λ can. let below = can.below in omega arith))
      (cases_lt (placed schedule s) (get_or limits s 0))

  full-from : (n : ℕ) (before whole : List ℕ) → IsWalk v limits before whole → room (length limits) limits whole < n
      → (after : List ℕ) × IsFullWalk v limits before after
  full-from zero before whole walk few = absurd (omega arith)
  full-from (suc n) before whole walk few = ⊎_elim
      (λ (next : (s : ℕ) × (s < length limits) × CanGoOn v limits whole s × ((t : ℕ) → t < s → ¬ CanGoOn v limits whole t)).
      let can = next.2 in
      let less = room-push (length limits) limits whole next.0 next.1 can.below in
      full-from n before (whole ++ next.0 ∷ [])
      (walk-push v limits before whole next.0 walk (record { can = can; least = next.3 })) (omega arith))
      (λ (none : (s : ℕ) → s < length limits → ¬ CanGoOn v limits whole s). (
        whole,
        record { walk = walk; ended = λ s can. none s (limit-within limits s (placed whole s) can.below) can },
      ))
      (least (CanGoOn v limits whole) (can-decided whole) (length limits))

  -- there is a full walk behind each schedule
  pub full-walk : (before : List ℕ) → (whole : List ℕ) × IsFullWalk v limits before whole
  full-walk before = full-from (room (length limits) limits before + 1) before before (walk-none v limits before) (omega arith)
