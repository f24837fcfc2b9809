-- What a sealer has sealed is a consistent cut, and stays as it is.
use Rattle.std.proofs.Common.{◌≡◌, ℕ, zero, suc, List, [], ◌∷◌, ◌++◌, length, take, refl, sym, ◌∙◌, ap, subst}
use Rattle.std.specs.Prelude.{Option, Some, None, option_map, slice_get}
use Rattle.std.specs.List.{filter_map}
use Rattle.std.proofs.Math.Seq.{take-append_seam}
use Rattle.std.proofs.lemmas.List.{append-nil}
use Rattle.std.proofs.lemmas.List.Elements.{filter_map-append}
use Rattle.model_history.specs.History.{HistoryValue}
use Rattle.live_cut_plan.specs.declared.cell.Cell.{Cell}
use Rattle.live_cut_plan.specs.Plans.{Look, Plan, fresh_plan, after_looks, looked_at, next_cell, Follows}
use Rattle.live_seals.specs.Runs.{Event, counts_of, look_of, sealers, looks, sealed, HasSealed}
use Rattle.live_seals.specs.Cuts.{IsConsistentCut}
use Rattle.live_seals.proofs.RunPlaces.{sealer_started}
use Rattle.live_seals.proofs.ConsistentCuts.{seals_are_cuts, seal_stays}
use Rattle.live_simulation.specs.LaneReplies.{seal, sealed_by, sealed_when}
use Rattle.live_simulation.specs.Steps.Recordings.{IsRecorded}

-- what stands in a list stands in a longer one
pub get_front : {A : Type 0} (xs ys : List A) (i : ℕ) (x : A) → slice_get xs i ≡ Some x → slice_get (xs ++ ys) i ≡ Some x
get_front [] ys zero x e = absurd (cc)
get_front [] ys (suc i) x e = absurd (cc)
get_front (y ∷ xs) ys zero x e = e
get_front (y ∷ xs) ys (suc i) x e = get_front xs ys i x e

-- behind a finished plan there is no look
no_more : (p : Plan) (ls more : List Look) → Follows p (ls ++ more) → next_cell (after_looks p ls) ≡ None → more ≡ []
no_more p [] [] f none = refl
no_more p [] (m ∷ more) f none = let bad : None ≡ Some m.0 = sym none ∙ f.0 in absurd (cc)
no_more p (l ∷ ls) more f none = no_more (looked_at p (Some l.0) l.1) ls more f.1 none

module _ {S C R : Type 0} (start : S) (es : List (Event C R)) where
  -- a plan that has sealed is finished
  when_sealed : (p : Plan) (h : HistoryValue S C R) (o : Option Cell) → next_cell p ≡ o → sealed_when start es p o ≡ Some h → (next_cell p ≡ None) × (sealed start es p ≡ h)
  when_sealed p h None none e = (none, let same : sealed start es p ≡ h = some_same (sealed start es p) h e in same)
    where
      some_same : (a b : HistoryValue S C R) → Some a ≡ Some b → a ≡ b
      some_same a b e = cc
  when_sealed p h (Some cell) some e = absurd (cc)

module _ {S C R : Type 0} (start : S) (k : ℕ) (es : List (Event C R)) (z : ℕ) (h : HistoryValue S C R) where
  -- what is sealed is sealed by the finished plan of a sealer that started
  abbrev pub IsSealedBy : List ℕ → Type 0
  IsSealedBy told =
      (slice_get (sealers es) z ≡ Some told) × (next_cell (after_looks (fresh_plan k 256 told) (looks z es)) ≡ None)
      × (sealed start es (after_looks (fresh_plan k 256 told) (looks z es)) ≡ h)

  sealed_of : (o : Option (List ℕ)) → slice_get (sealers es) z ≡ o → sealed_by start es (option_map (λ told. after_looks (fresh_plan k 256 told) (looks z es)) o) ≡ Some h → (told : List ℕ) × IsSealedBy told
  sealed_of None at e = absurd (cc)
  sealed_of (Some told) at e =
      let p : Plan = after_looks (fresh_plan k 256 told) (looks z es) in
      let w = when_sealed start es p h (next_cell p) refl e in
      (told, (at, w.0, w.1))

  pub seal_parts : seal start k es z ≡ Some h → (told : List ℕ) × IsSealedBy told
  seal_parts e = sealed_of (slice_get (sealers es) z) refl e

  seal_from : (told : List ℕ) (o : Option (List ℕ)) → o ≡ Some told → next_cell (after_looks (fresh_plan k 256 told) (looks z es)) ≡ None
      → sealed start es (after_looks (fresh_plan k 256 told) (looks z es)) ≡ h → sealed_by start es (option_map (λ t. after_looks (fresh_plan k 256 t) (looks z es)) o) ≡ Some h
  seal_from told o e none is =
      ap (λ (x : Option (List ℕ)). sealed_by start es (option_map (λ t. after_looks (fresh_plan k 256 t) (looks z es)) x)) e
      ∙ (ap (sealed_when start es (after_looks (fresh_plan k 256 told) (looks z es))) none ∙ ap {B = Option (HistoryValue S C R)} (λ (x : HistoryValue S C R). Some x) is)

  pub seal_of_parts : (told : List ℕ) → IsSealedBy told → seal start k es z ≡ Some h
  seal_of_parts told s = seal_from told (slice_get (sealers es) z) s.0 s.1 s.2

  module _ (was : IsRecorded k es) where
    pub has_sealed : (told : List ℕ) → IsSealedBy told → HasSealed k 256 es z (after_looks (fresh_plan k 256 told) (looks z es))
    has_sealed told s =
        let started = sealer_started k 256 es was.run z told s.0 in
        record { start = started.0; told = told; started = started.1; follows = was.follows z told s.0; planned = refl; finished = s.1 }

    -- what is sealed is a consistent cut
    pub seal_is_cut : seal start k es z ≡ Some h → IsConsistentCut es z h
    seal_is_cut e =
        let s = seal_parts e in
        subst (λ (x : HistoryValue S C R). IsConsistentCut es z x) s.1.2
        (seals_are_cuts k 256 es z (after_looks (fresh_plan k 256 s.0) (looks z es)) start was.run (has_sealed s.0 s.1))

module _ {S C R : Type 0} (start : S) (k : ℕ) (front rest es : List (Event C R)) (whole : front ++ rest ≡ es) (before : IsRecorded k front) (was : IsRecorded k es) (z : ℕ) (h : HistoryValue S C R) where
  -- what was sealed stays sealed
  pub seal_kept : seal start k front z ≡ Some h → seal start k es z ≡ Some h
  seal_kept e =
      let s = seal_parts start k front z h e in
      let p : Plan = after_looks (fresh_plan k 256 s.0) (looks z front) in
      let told_split : sealers es ≡ sealers front ++ filter_map counts_of rest = ap (filter_map counts_of) (sym whole) ∙ filter_map-append counts_of front rest in
      let at : slice_get (sealers es) z ≡ Some s.0 = subst (λ (ts : List (List ℕ)). slice_get ts z ≡ Some s.0) (sym told_split) (get_front (sealers front) (filter_map counts_of rest) z s.0 s.1.0) in
      let split : looks z es ≡ looks z front ++ filter_map (look_of z) rest = ap (filter_map (look_of z)) (sym whole) ∙ filter_map-append (look_of z) front rest in
      let follows : Follows (fresh_plan k 256 s.0) (looks z front ++ filter_map (look_of z) rest) = subst (λ (ls : List Look). Follows (fresh_plan k 256 s.0) ls) split (was.follows z s.0 at) in
      let none : filter_map (look_of z) rest ≡ [] = no_more (fresh_plan k 256 s.0) (looks z front) (filter_map (look_of z) rest) follows s.1.1 in
      let same : looks z es ≡ looks z front = split ∙ (ap (λ (ls : List Look). looks z front ++ ls) none ∙ append-nil (looks z front)) in
      let is_front : take (length front) es ≡ front = ap (take (length front)) (sym whole) ∙ take-append_seam front rest in
      let has : HasSealed k 256 (take (length front) es) z p = subst (λ (evs : List (Event C R)). HasSealed k 256 evs z p) (sym is_front) (has_sealed start k front z h before s.0 s.1) in
      let stays : sealed start es p ≡ sealed start front p = seal_stays k 256 es was.run z (length front) p has start ∙ ap (λ (evs : List (Event C R)). sealed start evs p) is_front in
      seal_of_parts start k es z h s.0 (
        at,
        subst (λ (ls : List Look). next_cell (after_looks (fresh_plan k 256 s.0) ls) ≡ None) (sym same) s.1.1,
        subst (λ (ls : List Look). sealed start es (after_looks (fresh_plan k 256 s.0) ls) ≡ h) (sym same) (stays ∙ s.1.2),
      )
