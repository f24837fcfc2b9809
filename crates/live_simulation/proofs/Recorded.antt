-- Recorded events with one event more.
use Rattle.std.proofs.Common.{◌≡◌, ℕ, ◌<◌, ◌≤◌, ◌==◌, inl, inr, List, [], ◌∷◌, ◌++◌, length, take, refl, sym, ap, arith, subst, eqb-true}
use Rattle.std.specs.Prelude.{Bool, true, false, Some, None, if◌then◌else◌, slice_get}
use Rattle.std.proofs.lemmas.Bool.{cases_eq}
use Rattle.live_recorder.proofs.Telling.{get_push_cases}
use Rattle.live_cut_plan.specs.Plans.{Look, Plan, fresh_plan, after_looks, looked_at, next_cell, Follows}
use Rattle.live_seals.specs.Runs.{Event, counts_of, look_of, sealers, looks, CanFollow, IsRun}
use Rattle.live_seals.specs.Runs.Event.{Began, Ended, Started, Looked}
use Rattle.live_seals.proofs.Filtered.{picked_at, picked_whole}
use Rattle.live_seals.proofs.RunPlaces.{run_more}
use Rattle.live_simulation.specs.Steps.Recordings.{IsRecorded}
use Rattle.live_simulation.proofs.Picked.{picked_not, picked_too, looks_here, looks_elsewhere}

-- a plan with one look more
pub follows_last : (p : Plan) (ls : List Look) (l : Look) → Follows p ls → next_cell (after_looks p ls) ≡ Some l.0 → Follows p (ls ++ l ∷ [])
follows_last p [] l f n = (n, tt)
follows_last p (m ∷ ls) l f n = (f.0, follows_last (looked_at p (Some m.0) m.1) ls l f.1 n)

pub after_last : (p : Plan) (ls : List Look) (l : Look) → after_looks p (ls ++ l ∷ []) ≡ looked_at (after_looks p ls) (Some l.0) l.1
after_last p [] l = refl
after_last p (m ∷ ls) l = after_last (looked_at p (Some m.0) m.1) ls l

some_if : {A : Type 0} (b : Bool) (x y : A) → (if b then Some x else None) ≡ Some y → b ≡ true
some_if true x y e = refl
some_if false x y e = absurd (cc)

module _ {C R : Type 0} (k : ℕ) where
  -- a sealer that did not start did not look
  looks_later : (es : List (Event C R)) (e : Event C R) (z : ℕ) (l : Look) → CanFollow k 256 es e → look_of z e ≡ Some l → z < length (sealers es)
  looks_later es (Looked y cell full) z l can p =
      subst (λ (n : ℕ). n < length (sealers es)) (eqb-true y z (some_if {A = Look} (y == z) (cell, full) l p)) can.0
  looks_later es (Began o c) z l can p = absurd (cc)
  looks_later es (Ended o r) z l can p = absurd (cc)
  looks_later es (Started y told) z l can p = absurd (cc)

  module _ (es : List (Event C R)) (run : IsRun k 256 es) (z : ℕ) (late : length (sealers es) ≤ z) where
    quiet_of : (ls : List Look) → looks z es ≡ ls → ls ≡ []
    quiet_of [] e = refl
    quiet_of (l ∷ ls) e =
        let p = picked_at (look_of z) es 0 l (ap (λ (xs : List Look). slice_get xs 0) e) in
        let can : CanFollow k 256 (take p.0 es) p.1 = run p.0 p.1 p.2 in
        let there : z < length (sealers (take p.0 es)) = looks_later (take p.0 es) p.1 z l can p.3 in
        let whole : length (sealers (take p.0 es)) ≤ length (sealers es) = picked_whole counts_of es p.0 in
        let late' : length (sealers es) ≤ z = late in
        absurd (omega arith)

    pub quiet : looks z es ≡ []
    quiet = quiet_of (looks z es) refl

  -- a look is at the cell that is next in the sealer's plan
  abbrev pub IsNamed : List (Event C R) → Event C R → Type 0
  IsNamed es (Looked z cell full) = (told : List ℕ) → slice_get (sealers es) z ≡ Some told → next_cell (after_looks (fresh_plan k 256 told) (looks z es)) ≡ Some cell
  IsNamed es _ = Unit {0}

  module _ (es : List (Event C R)) (was : IsRecorded k es) where
    same_follows : (e : Event C R) → counts_of e ≡ None → ((z : ℕ) → look_of z e ≡ None) → (z : ℕ) (told : List ℕ) → slice_get (sealers (es ++ e ∷ [])) z ≡ Some told
        → Follows (fresh_plan k 256 told) (looks z (es ++ e ∷ []))
    same_follows e no_start no_look z told at =
        let before : slice_get (sealers es) z ≡ Some told = subst (λ (ts : List (List ℕ)). slice_get ts z ≡ Some told) (picked_not counts_of es e no_start) at in
        subst (λ (ls : List Look). Follows (fresh_plan k 256 told) ls) (sym (picked_not (look_of z) es e (no_look z))) (was.follows z told before)

    more_follows : (e : Event C R) → IsNamed es e → (z : ℕ) (told : List ℕ) → slice_get (sealers (es ++ e ∷ [])) z ≡ Some told → Follows (fresh_plan k 256 told) (looks z (es ++ e ∷ []))
    more_follows (Began o c) named z told at = same_follows (Began o c) refl (λ y. refl) z told at
    more_follows (Ended o r) named z told at = same_follows (Ended o r) refl (λ y. refl) z told at
    more_follows (Started y now) named z told at =
        let same : looks z (es ++ Started y now ∷ []) ≡ looks z es = picked_not (look_of z) es (Started y now) refl in
        let there : slice_get (sealers es ++ now ∷ []) z ≡ Some told = subst (λ (ts : List (List ℕ)). slice_get ts z ≡ Some told) (picked_too counts_of es (Started y now) now refl) at in
        subst (λ (ls : List Look). Follows (fresh_plan k 256 told) ls) (sym same)
        (elim (get_push_cases (sealers es) now z told there) [
          | inl before ↦ was.follows z told before
          | inr last ↦
              let none : looks z es ≡ [] = quiet es was.run z (let l : z ≡ length (sealers es) = last.0 in omega arith) in
              subst (λ (ls : List Look). Follows (fresh_plan k 256 told) ls) (sym none) tt
        ])
    more_follows (Looked y cell full) named z told at =
        let before : slice_get (sealers es) z ≡ Some told = subst (λ (ts : List (List ℕ)). slice_get ts z ≡ Some told) (picked_not counts_of es (Looked y cell full) refl) at in
        elim (cases_eq y z) [
          | inl same ↦
              subst (λ (ls : List Look). Follows (fresh_plan k 256 told) ls) (sym (looks_here es y cell full z same))
              (follows_last (fresh_plan k 256 told) (looks z es) (cell, full) (was.follows z told before)
              (subst (λ (x : ℕ). next_cell (after_looks (fresh_plan k 256 told) (looks x es)) ≡ Some cell) same (named told (subst (λ (x : ℕ). slice_get (sealers es) x ≡ Some told) (sym same) before))))
          | inr other ↦ subst (λ (ls : List Look). Follows (fresh_plan k 256 told) ls) (sym (looks_elsewhere es y cell full z other)) (was.follows z told before)
        ]

    pub recorded_more : (e : Event C R) → CanFollow k 256 es e → IsNamed es e → IsRecorded k (es ++ e ∷ [])
    recorded_more e can named = record {
      run = run_more k 256 es e was.run can;
      follows = more_follows e named;
    }
