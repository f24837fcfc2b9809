-- Where an update goes among others in the order of their stamps.
use Rattle.std.proofs.Common.{◌≡◌, ℕ, ◌<◌, ◌≤◌, List, length, get_or, ap, arith, subst, ◌∙◌, ⊎_elim}
use Rattle.std.specs.Prelude.{Bool, true, false, Some, map, slice_get}
use Rattle.std.specs.List.Sorted.{IsPartitionedBy, IsPartitionPoint}
use Rattle.std.proofs.lemmas.Bool.{cases_lt}
use Rattle.std.proofs.lemmas.List.{length-map}
use Rattle.std.specs.Option.{option_map}
use Rattle.std.proofs.lemmas.Option.{slice_get-get_or, slice_get-map}
use Rattle.live_replica.specs.declared.update.UpdateOf.{UpdateOf}
use Rattle.live_replica.specs.Updates.{key}
use Rattle.live_lamport_store.specs.Stamps.{IsRising, goes_before, place_by_stamp}
use Rattle.live_lamport_store.specs.Laws.Stamp.{before-trans, first-ones, place_within}

module _ {C : Type 0} where
  key-at : (us : List (UpdateOf C)) (i : ℕ) (d : UpdateOf C) → i < length us → slice_get (map key us) i ≡ Some (key (get_or us i d))
  key-at us i d below = slice_get-map key us i ∙ ap (option_map key) (slice_get-get_or us i d below)

  module _ (u : UpdateOf C) where
    abbrev pub stands_before : UpdateOf C → Bool
    stands_before v = goes_before (key v) (key u)

    pub partitioned : (us : List (UpdateOf C)) → IsRising (map key us) → IsPartitionedBy stands_before us
    partitioned us rising i j d up_to below passes = ⊎_elim
        (λ (less : i < j).
        before-trans (key (get_or us i d)) (key (get_or us j d)) (key u)
        (rising i j (key (get_or us i d)) (key (get_or us j d)) less (key-at us i d (omega arith)) (key-at us j d below)) passes)
        (λ (not_less : j ≤ i).
        let same : j ≡ i = omega arith in
        subst (λ (n : ℕ). stands_before (get_or us n d) ≡ true) same passes)
        (cases_lt i j)

    -- the place that splits the updates is the place by stamp
    pub split-place : (us : List (UpdateOf C)) (n : ℕ) → IsRising (map key us) → n ≤ length us
        → IsPartitionPoint (λ v. stands_before v ≡ true) (λ v. stands_before v ≡ false) us n → n ≡ place_by_stamp (map key us) (key u)
    split-place us n rising within split = ⊎_elim
        (λ (less : n < place). absurd (too_low less))
        (λ (up_to : place ≤ n). ⊎_elim (λ (less : place < n). absurd (too_high less)) (λ (same : n ≤ place). omega arith) (cases_lt place n))
        (cases_lt n place)
      where
        place : ℕ
        place = place_by_stamp (map key us) (key u)

        inside : place ≤ length us
        inside = let up_to = place_within (map key us) (key u) in let same = length-map us key in omega arith

        too_low : n < place → ⊥
        too_low less =
            let below : n < length us = omega (arith, inside) in
            let fails = split.1 n u (omega arith) below in
            let past = (first-ones (key u) (map key us) rising n (key (get_or us n u)) (key-at us n u below)).1 fails in
            omega arith

        too_high : place < n → ⊥
        too_high less =
            let below : place < length us = omega arith in
            let passes = split.0 place u (omega arith) less in
            let before = (first-ones (key u) (map key us) rising place (key (get_or us place u)) (key-at us place u below)).0 passes in
            omega arith
