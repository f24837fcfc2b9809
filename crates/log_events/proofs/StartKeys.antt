-- The keys of starts, in their order.
use Rattle.std.proofs.Common.{◌≡◌, ℕ, zero, suc, ◌+◌, ◌-◌, ◌/◌, ◌<◌, ◌≤◌, List, [], ◌∷◌, ◌++◌, length, get_or, refl, ap, sym, subst, ◌∙◌, ⊎_elim, arith, add-one, ltb, ltb-true, lt-ltb}
use Rattle.std.specs.Prelude.{◌↔◌, IsTrue, All, Some, slice_get, slice_index, filter_map}
use Rattle.std.specs.List.Sorted.{IsStrictlyIncreasing}
use Rattle.std.specs.Map.{keys_of}
use Rattle.std.proofs.lemmas.Bool.{cases_lt}
use Rattle.std.proofs.lemmas.List.{length-map, map-append, get_or-map}
use Rattle.std.proofs.lemmas.List.Kept.{AllPairs-from_increasing}
use Rattle.std.proofs.lemmas.Option.{same_Some, slice_get-get_or, get_or_from_slice_get, slice_get_within}
use Rattle.model_objects.specs.Table.{IsRising}
use Rattle.log_events.specs.declared.event.Event.{Event}
use Rattle.log_events.specs.declared.event.Event.TheVariants.{Starts, Begins, Ends}
use Rattle.log_events.specs.Events.{IsAt}
use Rattle.log_events.specs.Histories.{key, value, start_entry}
use Rattle.log_events.proofs.ListPlaces.{filter_map-from, filter_map-to}
use Rattle.log_events.specs.Kept.{IsAbove}

rest_increases : (k : ℕ) (ks : List ℕ) → IsStrictlyIncreasing (k ∷ ks) → IsStrictlyIncreasing ks
rest_increases k ks up i inside =
    let outside : suc i + 1 < length (k ∷ ks) = omega arith in
    rw add-one (rw add-one at (up (suc i) outside))

increases_push : (ks : List ℕ) (x : ℕ) → IsStrictlyIncreasing ks → ((i : ℕ) → i < length ks → slice_index ks i < x)
    → IsStrictlyIncreasing (ks ++ x ∷ [])
increases_push [] x up below i inside = absurd (omega arith)
increases_push (k ∷ []) x up below zero inside = below 0 (omega arith)
increases_push (k ∷ []) x up below (suc i) inside = absurd (omega arith)
increases_push (k ∷ m ∷ ks) x up below zero inside = up 0 (omega arith)
increases_push (k ∷ m ∷ ks) x up below (suc i) inside =
    let in_rest : i + 1 < length ((m ∷ ks) ++ x ∷ []) = omega arith in
    rw add-one (rw add-one at (increases_push (m ∷ ks) x (rest_increases k (m ∷ ks) up) (λ j within. below (suc j) (omega arith)) i in_rest))

-- an entry after those whose keys are below its own
pub rising_push : (starts : List (ℕ × ℕ)) (x v : ℕ) → IsRising starts → All (λ entry. entry.0 < x) starts → IsRising (starts ++ (x, v) ∷ [])
rising_push starts x v rising above =
    subst IsStrictlyIncreasing (sym (map-append (λ (entry : ℕ × ℕ). entry.0) starts ((x, v) ∷ [])))
    (increases_push (keys_of starts) x rising (λ i inside.
    let within : i < length starts = omega (arith, length-map starts (λ (entry : ℕ × ℕ). entry.0)) in
    rw (get_or-map (λ (entry : ℕ × ℕ). entry.0) starts i (0, 0) 0 within) (above i (0, 0) within)))

pub IsRising-push : (starts : List (ℕ × ℕ)) (x v : ℕ) → IsRising starts → IsAbove starts x → IsRising (starts ++ (key x, v) ∷ [])
IsRising-push starts x v rising above = rising_push starts (key x) v rising above

entry_of : (e : Event) (held : ℕ × ℕ) → start_entry e ≡ Some held → (y u : ℕ) × (e ≡ Starts y u) × (held ≡ (key y, value u))
entry_of (Starts y u) held is = (y, u, refl, sym (same_Some _ _ is))
entry_of (Begins c call) held is = absurd cc
entry_of (Ends c ending) held is = absurd cc

-- a key is above those of the entries exactly where it is above those of the starts
pub above-from : (es : List Event) (x : ℕ) → IsAbove (filter_map start_entry es) x → (i y u : ℕ) → IsAt es i (Starts y u) → y < x
above-from es x above i y u at =
    let r = filter_map-to start_entry es i (Starts y u) (key y, value u) at refl in
    let within = slice_get_within (filter_map start_entry es) r.0 (key y, value u) r.1 in
    let less = above r.0 (0, 0) within in
    let same = ap (λ (entry : ℕ × ℕ). entry.0) (get_or_from_slice_get (filter_map start_entry es) r.0 (key y, value u) (0, 0) r.1) in
    omega arith

pub above-to : (es : List Event) (x : ℕ) → ((i y u : ℕ) → IsAt es i (Starts y u) → y < x) → IsAbove (filter_map start_entry es) x
above-to es x below k d within =
    let held = get_or (filter_map start_entry es) k d in
    let r = filter_map-from start_entry es k held (slice_get-get_or (filter_map start_entry es) k d within) in
    let s = entry_of r.1 held r.3 in
    let less = below r.0 s.0 s.1 (r.2 ∙ ap Some s.2) in
    let same = ap (λ (entry : ℕ × ℕ). entry.0) s.3 in
    omega arith

-- where keys rise, one is above them all exactly where it is above the last
pub IsAbove-last : (starts : List (ℕ × ℕ)) (last : ℕ × ℕ) (x : ℕ) → IsRising starts → Some last ≡ slice_get starts (length starts - 1)
    → IsTrue (ltb (last.0 / 2) x) ↔ IsAbove starts x
IsAbove-last starts last x rising is = (
  λ less k d within.
      let below = ltb-true (last.0 / 2) x less in
      let under = at_most k d within in
      omega arith,
  λ above.
      let here = above (length starts - 1) last last_within in
      let same = ap (λ (entry : ℕ × ℕ). entry.0) (get_or_from_slice_get starts (length starts - 1) last last (sym is)) in
      lt-ltb (last.0 / 2) x (omega arith),
)
  where
    last_within : length starts - 1 < length starts
    last_within = slice_get_within starts (length starts - 1) last (sym is)

    at_most : (k : ℕ) (d : ℕ × ℕ) → k < length starts → (get_or starts k d).0 ≤ last.0
    at_most k d within =
        let same = get_or_from_slice_get starts (length starts - 1) last d (sym is) in
        let same_key = ap (λ (entry : ℕ × ℕ). entry.0) same in
        ⊎_elim
        (λ (before : k < length starts - 1).
        let many = length-map starts (λ (entry : ℕ × ℕ). entry.0) in
        let less = AllPairs-from_increasing (keys_of starts) rising k (length starts - 1) 0 before (omega arith) in
        let one = get_or-map (λ (entry : ℕ × ℕ). entry.0) starts k d 0 within in
        let two = get_or-map (λ (entry : ℕ × ℕ). entry.0) starts (length starts - 1) d 0 last_within in
        omega arith)
        (λ (here : length starts - 1 ≤ k).
        let place : k ≡ length starts - 1 = omega arith in
        let equal = ap (λ (n : ℕ). (get_or starts n d).0) place in
        omega arith)
        (cases_lt k (length starts - 1))
