-- Walks by the topological rule.
use Rattle.std.specs.Prelude.{◌≡◌, ◌≢◌, ◌==◌, ℕ, ◌+◌, ◌-◌, ◌<◌, ◌≤◌, List, [], ◌∷◌, ◌++◌, length, take, Some, slice_get, max, cond}
use Rattle.std.proofs.Common.{arith, get_or, sym, ap, subst, ◌∙◌, inl, inr, ⊎_elim, ◌⊎◌, refl, zero, suc, set}
use Rattle.std.proofs.lemmas.Bool.{cases_eq, cases_lt, ne_eqb}
use Rattle.std.proofs.lemmas.List.{get_or_past, get_or-set_same, get_or-set_other, set_past, length-take, length_push, take-append-le, take_at, take_all, get_or_append_left, get_or_push}
use Rattle.std.proofs.lemmas.List.Sums.{sum_by_push}
use Rattle.std.proofs.lemmas.Option.{slice_get_within, get_or_from_slice_get, slice_get-get_or}
use Rattle.order_causal.specs.Orders.{op}
use Rattle.order_causal.specs.Vectors.{Counts, count, list_of, IsListed}
use Rattle.order_causal.specs.Topological.{CanGoOn, IsNext, IsWalk, AreSeen}
use Rattle.order_causal.specs.Schedules.{placed, next_of}
use Rattle.order_causal.proofs.TopologicalLaws.{placed-same}

-- how many operations the limits of the first n sessions leave behind a schedule
abbrev pub room : ℕ → List ℕ → List ℕ → ℕ
room zero limits schedule = 0
room (suc n) limits schedule = room n limits schedule + (get_or limits n 0 - placed schedule n)

-- and none of another session
pub placed-other : (schedule : List ℕ) (s t : ℕ) → t ≢ s → placed (schedule ++ s ∷ []) t ≡ placed schedule t
placed-other schedule s t apart =
    let other : s ≡ t → ⊥ = λ same. apart (sym same) in
    let more : placed (schedule ++ s ∷ []) t ≡ placed schedule t + 0 =
    sum_by_push (λ r. cond (r == t) 1 0) schedule s ∙ ap (λ b. placed schedule t + cond b 1 0) (ne_eqb s t other) in
    omega arith

pub placed-more : (schedule : List ℕ) (s t : ℕ) → placed schedule t ≤ placed (schedule ++ s ∷ []) t
placed-more schedule s t = ⊎_elim
    (λ (same : t ≡ s).
    let more = placed-same schedule s in
    subst (λ (r : ℕ). placed schedule r ≤ placed (schedule ++ s ∷ []) r) (sym same) (omega arith))
    (λ (apart : t ≢ s). let more = placed-other schedule s t apart in omega arith)
    (cases_eq t s)

room-same : (n : ℕ) (limits schedule : List ℕ) (s : ℕ) → n ≤ s → room n limits (schedule ++ s ∷ []) ≡ room n limits schedule
room-same zero limits schedule s above = refl
room-same (suc n) limits schedule s above =
    let apart : n ≢ s = omega arith in
    let rest = room-same n limits schedule s (omega arith) in
    let same = placed-other schedule s n apart in
    omega arith

-- an operation below the limit of its session takes some of the room
pub room-push : (n : ℕ) (limits schedule : List ℕ) (s : ℕ) → s < n → placed schedule s < get_or limits s 0
    → room n limits (schedule ++ s ∷ []) < room n limits schedule
room-push zero limits schedule s below free = absurd (omega arith)
room-push (suc n) limits schedule s below free = ⊎_elim
    (λ (last : s ≡ n).
    let rest = room-same n limits schedule s (omega arith) in
    let more = placed-same schedule s in
    let here : get_or limits n 0 - placed (schedule ++ s ∷ []) n < get_or limits n 0 - placed schedule n =
    subst (λ (r : ℕ). get_or limits r 0 - placed (schedule ++ s ∷ []) r < get_or limits r 0 - placed schedule r) last (omega arith) in
    omega arith)
    (λ (apart : s ≢ n).
    let rest = room-push n limits schedule s (omega arith) free in
    let other : n ≢ s = omega arith in
    let same = placed-other schedule s n other in
    omega arith)
    (cases_eq s n)

-- a limit above something is there
pub limit-within : (limits : List ℕ) (s n : ℕ) → n < get_or limits s 0 → s < length limits
limit-within limits s n below = ⊎_elim
    (λ (inside : s < length limits). inside)
    (λ (past : length limits ≤ s). let none = get_or_past limits s 0 past in absurd (omega arith))
    (cases_lt s (length limits))

-- an entry of a list with one entry changed is what it was, or the new one
set-cases : (xs : List ℕ) (i y j : ℕ) → (get_or (set xs i y) j 0 ≡ get_or xs j 0) ⊎ ((j ≡ i) × (get_or (set xs i y) j 0 ≡ y))
set-cases xs i y j = ⊎_elim
    (λ (same : j ≡ i). ⊎_elim
    (λ (inside : i < length xs). inr (same, ap (λ (n : ℕ). get_or (set xs i y) n 0) same ∙ get_or-set_same xs i y 0 inside))
    (λ (past : length xs ≤ i). inl (ap (λ (ys : List ℕ). get_or ys j 0) (set_past xs i y past)))
    (cases_lt i (length xs)))
    (λ (apart : j ≢ i). inl (get_or-set_other xs i j y 0 apart))
    (cases_eq j i)

module _ (v : Counts) (schedule : List ℕ) (s : ℕ) (counts : List ℕ) (read : counts ≡ list_of v (next_of schedule s)) where
  abbrev PlacedUpTo : ℕ → ℕ → Type 0
  PlacedUpTo start missing = (t : ℕ) → start ≤ t → t < missing → t ≢ s → get_or counts t 0 ≤ placed schedule t

  all-placed : (seen : List ℕ) → AreSeen v schedule seen → (start missing : ℕ) → start ≡ get_or seen s 0
      → PlacedUpTo start missing → (t : ℕ) → t < missing → t ≢ s → count v (next_of schedule s) t ≤ placed schedule t
  all-placed seen are_seen start missing is found t below apart = ⊎_elim
      (λ (earlier : t < start). are_seen s t (omega arith) apart)
      (λ (later : start ≤ t). subst (λ (xs : List ℕ). get_or xs t 0 ≤ placed schedule t) read (found t later below apart))
      (cases_lt t start)

  -- what was looked at is seen
  pub seen-more : (seen : List ℕ) → AreSeen v schedule seen → (start missing : ℕ) → start ≡ get_or seen s 0
      → PlacedUpTo start missing → AreSeen v schedule (set seen s missing)
  seen-more seen are_seen start missing is found r t below apart = ⊎_elim
      (λ (old : get_or (set seen s missing) r 0 ≡ get_or seen r 0). are_seen r t (omega arith) apart)
      (λ (new : (r ≡ s) × (get_or (set seen s missing) r 0 ≡ missing)).
      let up_to : t < missing = let value = new.1 in omega arith in
      let other : t ≢ s = λ same. apart (same ∙ sym new.0) in
      subst (λ (q : ℕ). count v (next_of schedule q) t ≤ placed schedule t) (sym new.0)
      (all-placed seen are_seen start missing is found t up_to other))
      (set-cases seen s missing r)

  -- where nothing is missing the session can go on
  pub can-from : (limits seen : List ℕ) → AreSeen v schedule seen → (start missing : ℕ) → start ≡ get_or seen s 0
      → PlacedUpTo start missing → IsListed v (next_of schedule s) → placed schedule s < get_or limits s 0
      → missing ≡ length counts → CanGoOn v limits schedule s
  can-from limits seen are_seen start missing is found there below all = record {
    there = there;
    below = below;
    ready = λ t apart. ⊎_elim
        (λ (inside : t < missing). all-placed seen are_seen start missing is found t inside apart)
        (λ (past : missing ≤ t).
        let none = get_or_past counts t 0 (omega arith) in
        let here : get_or counts t 0 ≤ placed schedule t = omega arith in
        subst (λ (xs : List ℕ). get_or xs t 0 ≤ placed schedule t) read here)
        (cases_lt t missing);
  }

  -- where the session can go on nothing is missing
  pub can-all : (limits : List ℕ) (missing : ℕ) → missing ≤ length counts → (missing < length counts → missing ≢ s)
      → (missing < length counts → placed schedule missing < get_or counts missing 0) → CanGoOn v limits schedule s → missing ≡ length counts
  can-all limits missing bound other not_placed can = ⊎_elim
      (λ (inside : missing < length counts).
      let ready = subst (λ (xs : List ℕ). get_or xs missing 0 ≤ placed schedule missing) (sym read) (can.ready missing (other inside)) in
      let above = not_placed inside in
      absurd (omega arith))
      (λ (past : length counts ≤ missing). omega arith)
      (cases_lt missing (length counts))

-- what is seen stays seen when an operation is placed, but for the next of its session
pub seen-push : (v : Counts) (schedule seen : List ℕ) (s : ℕ) → AreSeen v schedule seen → AreSeen v (schedule ++ s ∷ []) (set seen s 0)
seen-push v schedule seen s are_seen r t below apart = ⊎_elim
    (λ (same : r ≡ s). absurd (⊎_elim
    (λ (inside : s < length seen).
    let value = ap (λ (q : ℕ). get_or (set seen s 0) q 0) same ∙ get_or-set_same seen s 0 0 inside in
    omega arith)
    (λ (past : length seen ≤ s).
    let unchanged = ap (λ (ys : List ℕ). get_or ys r 0) (set_past seen s 0 past) in
    let none = get_or_past seen r 0 (omega arith) in
    omega arith)
    (cases_lt s (length seen))))
    (λ (other : r ≢ s).
    let value = get_or-set_other seen s r 0 0 other in
    let before = are_seen r t (omega arith) apart in
    let more = placed-more schedule s t in
    subst (λ (n : ℕ). count v (op r n) t ≤ placed (schedule ++ s ∷ []) t) (sym (placed-other schedule s r other)) (omega arith))
    (cases_eq r s)

-- a walk that has only begun
pub walk-none : (v : Counts) (limits before : List ℕ) → IsWalk v limits before before
walk-none v limits before = record {
  extends = take_all (length before) before (omega arith);
  each = λ k s past here. let inside = slice_get_within before k s here in absurd (omega arith);
}

-- the next operation is placed
pub walk-push : (v : Counts) (limits before whole : List ℕ) (s : ℕ) → IsWalk v limits before whole → IsNext v limits whole s
    → IsWalk v limits before (whole ++ s ∷ [])
walk-push v limits before whole s walk next =
    let short : length before ≤ length whole =
    let cut = ap (λ (xs : List ℕ). length xs) walk.extends in let len = length-take (length before) whole in omega arith in
    record {
      extends = take-append-le (length before) whole (s ∷ []) short ∙ walk.extends;
      each = λ k t past here. ⊎_elim
          (λ (inside : k < length whole).
          let value : get_or (whole ++ s ∷ []) k t ≡ t = get_or_from_slice_get (whole ++ s ∷ []) k t t here in
          let left = get_or_append_left whole (s ∷ []) t k inside in
          let same : get_or whole k t ≡ t = sym left ∙ value in
          let there : slice_get whole k ≡ Some t = slice_get-get_or whole k t inside ∙ ap (λ n. Some n) same in
          subst (λ (xs : List ℕ). IsNext v limits xs t) (sym (take-append-le k whole (s ∷ []) (omega arith))) (walk.each k t past there))
          (λ (end : length whole ≤ k).
          let within = slice_get_within (whole ++ s ∷ []) k t here in
          let more = length_push whole s in
          let last : length whole ≡ k = omega arith in
          let value : get_or (whole ++ s ∷ []) k t ≡ t = get_or_from_slice_get (whole ++ s ∷ []) k t t here in
          let new = get_or_push whole s t k last in
          let same : s ≡ t = sym new ∙ value in
          let cut : take k (whole ++ s ∷ []) ≡ whole = take_at whole (s ∷ []) k last in
          subst (λ (xs : List ℕ). IsNext v limits xs t) (sym cut) (subst (λ (n : ℕ). IsNext v limits whole n) same next))
          (cases_lt k (length whole));
    }

-- what is placed stays within the limits
pub within-push : (limits before whole : List ℕ) (s : ℕ) → ((t : ℕ) → placed whole t ≤ max (placed before t) (get_or limits t 0))
    → placed whole s < get_or limits s 0 → (t : ℕ) → placed (whole ++ s ∷ []) t ≤ max (placed before t) (get_or limits t 0)
within-push limits before whole s within below t = ⊎_elim
    (λ (same : t ≡ s).
    let more = placed-same whole s in
    subst (λ (r : ℕ). placed (whole ++ s ∷ []) r ≤ max (placed before r) (get_or limits r 0)) (sym same) (omega arith))
    (λ (apart : t ≢ s). let other = placed-other whole s t apart in let old = within t in omega arith)
    (cases_eq t s)
