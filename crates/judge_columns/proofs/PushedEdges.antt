-- Edges that are pushed to a list, one place of a table after the other, and lists of edges that are joined.
use Rattle.std.specs.Prelude.{◌≡◌, ◌≢◌, ◌⊎◌, ◌↔◌, ◌++◌, ℕ, ◌+◌, ◌-◌, ◌<◌, ◌≤◌, List, Some, length, slice_index_or}
use Rattle.std.proofs.Common.{arith, ap, sym, ◌∙◌, refl, inl, inr, ⊎_elim, length-append}
use Rattle.std.proofs.lemmas.Bool.{cases_eq, cases_lt}
use Rattle.std.proofs.lemmas.List.{get_or_append_left, get_or-append-add, get_or-append_right, get_or_past}
use Rattle.std.proofs.lemmas.Option.{get_or_from_slice_get, slice_get-get_or, slice_get_within}
use Rattle.judge_columns.specs.Lanes.{IsClear}
use Rattle.judge_columns.specs.Swept.{HasEdge}

abbrev Edges : Type 0
Edges = List (ℕ × ℕ)

-- the edge of one place of the table more
pub edges-more : (late : List ℕ) (first edges pushed : Edges) (n after : ℕ) → after ≡ slice_index_or late n 0
    → ((a b : ℕ) → HasEdge edges a b ↔ (HasEdge first a b ⊎ ((b < n) × (slice_index_or late b 0 ≡ a + 1))))
    → ((a b : ℕ) → HasEdge pushed a b ↔ (HasEdge edges a b ⊎ ((b ≡ n) × (after ≡ a + 1))))
    → (a b : ℕ) → HasEdge pushed a b ↔ (HasEdge first a b ⊎ ((b < n + 1) × (slice_index_or late b 0 ≡ a + 1)))
edges-more late first edges pushed n after value was more a b = (
  (λ has. ⊎_elim
      (λ (old : HasEdge edges a b). ⊎_elim
      (λ (of_first : HasEdge first a b). inl of_first)
      (λ (before : (b < n) × (slice_index_or late b 0 ≡ a + 1)). let below = before.0 in inr (omega arith, before.1))
      ((was a b).0 old))
      (λ (new : (b ≡ n) × (after ≡ a + 1)).
      let place = ap (λ (k : ℕ). slice_index_or late k 0) new.0 in
      let here = new.0 in
      inr (omega arith, place ∙ sym value ∙ new.1))
      ((more a b).0 has)),
  λ either. (more a b).1 (⊎_elim
      (λ (of_first : HasEdge first a b). inl ((was a b).1 (inl of_first)))
      (λ (listed : (b < n + 1) × (slice_index_or late b 0 ≡ a + 1)). ⊎_elim
      (λ (here : b ≡ n). let place = ap (λ (k : ℕ). slice_index_or late k 0) here in inr (here, value ∙ sym place ∙ listed.1))
      (λ (apart : b ≡ n → ⊥). let below = listed.0 in inl ((was a b).1 (inr (omega arith, listed.1))))
      (cases_eq b n))
      either),
)

-- the edges of the whole table
pub edges-whole : (late : List ℕ) (first edges : Edges) (n : ℕ) → length late ≤ n
    → ((a b : ℕ) → HasEdge edges a b ↔ (HasEdge first a b ⊎ ((b < n) × (slice_index_or late b 0 ≡ a + 1))))
    → (a b : ℕ) → HasEdge edges a b ↔ (HasEdge first a b ⊎ (slice_index_or late b 0 ≡ a + 1))
edges-whole late first edges n whole now a b = (
  (λ has. ⊎_elim
      (λ (of_first : HasEdge first a b). inl of_first)
      (λ (listed : (b < n) × (slice_index_or late b 0 ≡ a + 1)). inr listed.1)
      ((now a b).0 has)),
  λ either. (now a b).1 (⊎_elim
      (λ (of_first : HasEdge first a b). inl of_first)
      (λ (listed : slice_index_or late b 0 ≡ a + 1). ⊎_elim
      (λ (below : b < n). inr (below, listed))
      (λ (past : n ≤ b). let none = get_or_past late b 0 (omega arith) in absurd (omega arith))
      (cases_lt b n))
      either),
)

-- one place of the table more is cleared
module _ (old now : List ℕ) (n : ℕ) (others : (k : ℕ) → k ≢ n → slice_index_or now k 0 ≡ slice_index_or old k 0) where
  pub cleared-more : slice_index_or now n 0 ≡ 0 → ((k : ℕ) → k < n → slice_index_or old k 0 ≡ 0)
      → (k : ℕ) → k < n + 1 → slice_index_or now k 0 ≡ 0
  cleared-more none was k below = ⊎_elim
      (λ (here : k ≡ n). ap (λ (j : ℕ). slice_index_or now j 0) here ∙ none)
      (λ (apart : k ≢ n). others k apart ∙ was k (omega arith))
      (cases_eq k n)

  pub left-more : (first : List ℕ) → ((k : ℕ) → n ≤ k → slice_index_or old k 0 ≡ slice_index_or first k 0)
      → (k : ℕ) → n + 1 ≤ k → slice_index_or now k 0 ≡ slice_index_or first k 0
  left-more first was k above = others k (λ (here : k ≡ n). omega arith) ∙ was k (omega arith)

-- the whole table is cleared
pub cleared-whole : (late : List ℕ) (n : ℕ) → length late ≤ n → ((k : ℕ) → k < n → slice_index_or late k 0 ≡ 0) → IsClear late
cleared-whole late n whole was k = ⊎_elim
    (λ (below : k < n). was k below)
    (λ (past : n ≤ k). get_or_past late k 0 (omega arith))
    (cases_lt k n)

-- a list has the edges of both its parts
module _ (first second : Edges) (from to : ℕ) where
  abbrev edge : ℕ × ℕ
  edge = (from, to)

  edge-cases : HasEdge (first ++ second) from to → HasEdge first from to ⊎ HasEdge second from to
  edge-cases (j, at) =
      let within : j < length (first ++ second) = slice_get_within (first ++ second) j edge at in
      let sum = length-append first second in
      let value = get_or_from_slice_get (first ++ second) j edge edge at in
      ⊎_elim
      (λ (below : j < length first).
      inl (
        j,
        slice_get-get_or first j edge below
            ∙ ap (λ (e : ℕ × ℕ). Some e) (sym (get_or_append_left first second edge j below) ∙ value),
      ))
      (λ (past : length first ≤ j).
      let inside : j - length first < length second = omega arith in
      inr (
        j - length first,
        slice_get-get_or second (j - length first) edge inside
            ∙ ap (λ (e : ℕ × ℕ). Some e) (sym (get_or-append_right first second (length first) j edge refl past) ∙ value),
      ))
      (cases_lt j (length first))

  edge-first : HasEdge first from to → HasEdge (first ++ second) from to
  edge-first (j, at) =
      let below : j < length first = slice_get_within first j edge at in
      let sum = length-append first second in
      let within : j < length (first ++ second) = omega arith in (
        j,
        slice_get-get_or (first ++ second) j edge within
            ∙ ap (λ (e : ℕ × ℕ). Some e) (get_or_append_left first second edge j below ∙ get_or_from_slice_get first j edge edge at),
      )

  edge-second : HasEdge second from to → HasEdge (first ++ second) from to
  edge-second (j, at) =
      let below : j < length second = slice_get_within second j edge at in
      let sum = length-append first second in
      let within : length first + j < length (first ++ second) = omega arith in (
        length first + j,
        slice_get-get_or (first ++ second) (length first + j) edge within
            ∙ ap (λ (e : ℕ × ℕ). Some e) (get_or-append-add first second j edge ∙ get_or_from_slice_get second j edge edge at),
      )

  pub edges-joined : HasEdge (first ++ second) from to ↔ (HasEdge first from to ⊎ HasEdge second from to)
  edges-joined = (
    edge-cases,
    λ either. ⊎_elim (λ (one : HasEdge first from to). edge-first one) (λ (other : HasEdge second from to). edge-second other) either,
  )
