-- The places of lost writes whose value was returned.
use Rattle.std.proofs.Common.{◌≡◌, ℕ, ◌+◌, ◌<◌, ◌≤◌, true, false, List, [], ◌∷◌, ◌++◌, length, drop, map, take, get_or, refl, ap, sym, subst, ◌∙◌, ⊎_elim, arith}
use Rattle.std.specs.Prelude.{◌↔◌, Contains, IsTrue, Option, Some, None, filter_map, option_map, slice_get}
use Rattle.std.specs.List.{cons_option, range_with_len}
use Rattle.std.specs.List.Sorted.{IsStrictlyIncreasing}
use Rattle.std.proofs.lemmas.Bool.{cases_lt}
use Rattle.std.proofs.lemmas.List.{drop-append-le, drop_all, length-append, length-take-le, take_more}
use Rattle.std.proofs.lemmas.List.Elements.{filter_map-append}
use Rattle.std.proofs.lemmas.List.FromFn.{length-map-range_with_len}
use Rattle.std.proofs.lemmas.Option.{same_Some, slice_get-get_or, slice_get_within}
use Rattle.log_events.specs.declared.event.ClientCall.TheVariants.{WriteTo}
use Rattle.log_events.specs.declared.event.Ending.TheVariants.{Lost}
use Rattle.log_events.specs.declared.event.Event.{Event}
use Rattle.log_events.specs.Events.{Call, run_calls}
use Rattle.log_events.specs.Histories.{Operation, clients, fork, is_returned}
use Rattle.log_events.specs.Origins.{client_origins, fork_origins, origins_of}
use Rattle.log_events.proofs.CallKindsLaws.{Contains-place, place-Contains}
use Rattle.log_events.proofs.CallPlaces.{calls-once, calls-rise}
use Rattle.log_events.proofs.GivenPlaces.{giving-rises}
use Rattle.log_events.proofs.ListPlaces.{append-cases, filter_map-from, filter_map-to}
use Rattle.log_choices.specs.Steps.ChosenCalls.{IsLostWrite, fork_place, fork_places}

-- where what is given rises with the elements, it rises
pub given-rise : {X : Type 0} (f : X → Option ℕ) (xs : List X)
    → ((m n : ℕ) (x y : X) (u v : ℕ) → m < n → slice_get xs m ≡ Some x → slice_get xs n ≡ Some y → f x ≡ Some u → f y ≡ Some v → u < v)
    → IsStrictlyIncreasing (filter_map f xs)
given-rise f xs rise k below =
    let given = filter_map f xs in
    let one = filter_map-from f xs k (get_or given k 0) (slice_get-get_or given k 0 (omega arith)) in
    let two = filter_map-from f xs (k + 1) (get_or given (k + 1) 0) (slice_get-get_or given (k + 1) 0 below) in
    let first = one.4 in
    let second = two.4 in
    ⊎_elim
    (λ (before : one.0 < two.0). rise one.0 two.0 one.1 two.1 (get_or given k 0) (get_or given (k + 1) 0) before one.2 two.2 one.3 two.3)
    (λ (rest : two.0 ≤ one.0). ⊎_elim
    (λ (after : two.0 < one.0).
    let more = giving-rises f xs two.0 one.0 two.1 (get_or given (k + 1) 0) after two.2 two.3 in absurd (omega arith))
    (λ (over : one.0 ≤ two.0).
    let same : one.0 ≡ two.0 = omega arith in
    let equal = ap (λ (m : ℕ). length (filter_map f (take m xs))) same in absurd (omega arith))
    (cases_lt two.0 one.0))
    (cases_lt one.0 two.0)

-- the place of the call of a row
abbrev pub row_place : List Call → Option ℕ
row_place row = option_map (λ (a : Call). a.place) (slice_get row 0)

module _ (es : List Event) where
  place-of : (a : Call) (p : ℕ) → fork_place es a ≡ Some p → a.place ≡ p
  place-of a p is = elim (fork es a.place a.call a.ending) as (λ o. option_map (λ (l : List Operation). a.place) o ≡ Some p → a.place ≡ p) [
    | None ↦ λ none. absurd cc
    | Some l ↦ λ some. same_Some _ _ some
  ] is

  pub fork_places-rise : IsStrictlyIncreasing (fork_places es)
  fork_places-rise = given-rise (fork_place es) (run_calls es) (λ m n a b u v before at there one two.
      let less = calls-rise 0 es m n a b before at there in
      let first = place-of a u one in
      let second = place-of b v two in
      omega arith)

  lost-returned : (p x v : ℕ) → option_map (λ (l : List Operation). p) (fork es p (WriteTo x v) (Some Lost)) ≡ Some p → is_returned es x v ≡ true
  lost-returned p x v is = elim (is_returned es x v) as (λ b. is_returned es x v ≡ b
      → option_map (λ (l : List Operation). p) (fork es p (WriteTo x v) (Some Lost)) ≡ Some p → b ≡ true) [
        | true ↦ λ _ _. refl
        | false ↦ λ no some. let none = rw no at some in absurd cc
      ] refl is

  -- a lost write has its place among them exactly where some read returned its value
  pub fork_places-are : (p x v : ℕ) → IsLostWrite es p x v → Contains (fork_places es) p ↔ IsTrue (is_returned es x v)
  fork_places-are p x v (client, inside) =
      let a : Call = record { client = client; place = p; call = WriteTo x v; ending = Some Lost } in
      let q = Contains-place (run_calls es) a inside in (
        λ listed.
            let k = Contains-place (fork_places es) p listed in
            let r = filter_map-from (fork_place es) (run_calls es) k.0 p k.1 in
            let place = calls-once es r.0 q.0 r.1 a r.2 q.1 (place-of r.1 p r.3) in
            let same : r.1 ≡ a = same_Some _ _ (sym r.2 ∙ ap (λ (m : ℕ). slice_get (run_calls es) m) place ∙ q.1) in
            lost-returned p x v (subst (λ (b : Call). fork_place es b ≡ Some p) same r.3),
        λ returned.
            let is : fork_place es a ≡ Some p = rw returned refl in
            let k = filter_map-to (fork_place es) (run_calls es) q.0 a p q.1 is in
            place-Contains (fork_places es) k.0 p k.1,
      )

  abbrev pair_of : Call → Option (List Call)
  pair_of a = option_map (λ (l : List Operation). a ∷ a ∷ []) (fork es a.place a.call a.ending)

  pair-from : (a : Call) (row : List Call) → pair_of a ≡ Some row → row ≡ a ∷ a ∷ []
  pair-from a row is = elim (fork es a.place a.call a.ending) as (λ o. option_map (λ (l : List Operation). a ∷ a ∷ []) o ≡ Some row → row ≡ a ∷ a ∷ []) [
    | None ↦ λ none. absurd cc
    | Some l ↦ λ some. sym (same_Some _ _ some)
  ] is

  -- the row of a fork among the origins
  pub fork-row : (k : ℕ) (row : List Call) → clients es ≤ k → slice_get (origins_of es) k ≡ Some row → (a : Call) × (row ≡ a ∷ a ∷ [])
  fork-row k row past at =
      let rows = map (client_origins es) (range_with_len 0 (clients es)) in
      let long = length-map-range_with_len (client_origins es) 0 (clients es) in
      ⊎_elim
      (λ (first : slice_get rows k ≡ Some row). let within = slice_get_within rows k row first in absurd (omega arith))
      (λ (second : (j : ℕ) × (k ≡ length rows + j) × (slice_get (fork_origins es) j ≡ Some row)).
      let r = filter_map-from pair_of (run_calls es) second.0 row second.2 in (r.1, pair-from r.1 row r.3))
      (append-cases rows (fork_origins es) k row at)

  rows-places : (calls : List Call) → filter_map row_place (filter_map pair_of calls) ≡ filter_map (fork_place es) calls
  rows-places [] = refl
  rows-places (a ∷ calls) = elim (fork es a.place a.call a.ending) as (λ o.
      filter_map row_place (cons_option (option_map (λ (l : List Operation). a ∷ a ∷ []) o) (filter_map pair_of calls))
      ≡ cons_option (option_map (λ (l : List Operation). a.place) o) (filter_map (fork_place es) calls)) [
        | None ↦ rows-places calls
        | Some l ↦ ap (λ (l : List ℕ). a.place ∷ l) (rows-places calls)
      ]

  -- the places of the calls of the rows past those of the clients
  pub fork_places-rows : filter_map row_place (drop (clients es) (origins_of es)) ≡ fork_places es
  fork_places-rows =
      let rows = map (client_origins es) (range_with_len 0 (clients es)) in
      let long = length-map-range_with_len (client_origins es) 0 (clients es) in
      ap (filter_map row_place) (ap (λ (n : ℕ). drop n (rows ++ fork_origins es)) (sym long) ∙ drop-append-le (length rows) rows (fork_origins es) (omega arith)
      ∙ ap (λ (l : List (List Call)). l ++ fork_origins es) (drop_all (length rows) rows (omega arith))) ∙ rows-places (run_calls es)

  pub origins-long : clients es ≤ length (origins_of es)
  origins-long =
      let rows = map (client_origins es) (range_with_len 0 (clients es)) in
      let long = length-map-range_with_len (client_origins es) 0 (clients es) in
      let both = length-append rows (fork_origins es) in
      omega arith

  -- one more row
  pub rows-more : (k : ℕ) (row : List Call) (a : Call) → clients es ≤ k → k < length (origins_of es) → row ≡ get_or (origins_of es) k row
      → slice_get row 0 ≡ Some a
      → filter_map row_place (drop (clients es) (take (k + 1) (origins_of es))) ≡ filter_map row_place (drop (clients es) (take k (origins_of es))) ++ a.place ∷ []
  rows-more k row a past within read first =
      let rows = origins_of es in
      let cut = length-take-le k rows (omega arith) in
      ap (λ (l : List (List Call)). filter_map row_place (drop (clients es) l)) (take_more rows k row within ∙ ap (λ (r : List Call). take k rows ++ r ∷ []) (sym read))
      ∙ ap (filter_map row_place) (drop-append-le (clients es) (take k rows) (row ∷ []) (omega arith))
      ∙ filter_map-append row_place (drop (clients es) (take k rows)) (row ∷ [])
      ∙ ap (λ (o : Option ℕ). filter_map row_place (drop (clients es) (take k rows)) ++ cons_option o []) (ap (option_map (λ (b : Call). b.place)) first)
