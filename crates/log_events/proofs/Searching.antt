-- What binary searches find.
use Rattle.std.proofs.Common.{◌≡◌, ℕ, ◌<◌, ◌≤◌, ⊎_elim, Bool, true, List, length, get_or, arith, ap, ◌∙◌, Result, Ok, Err, is_ok, Less, Equal, Greater}
use Rattle.std.specs.Prelude.{Contains, IsTrue, ◌↔◌}
use Rattle.std.specs.List.{HoldsAt}
use Rattle.std.specs.List.Sorted.{IsBinarySearchResult, IsSearchInRange, IsPartitionPoint, IsStrictlyIncreasing}
use Rattle.std.specs.Ordering.{nat_cmp}
use Rattle.std.proofs.lemmas.Bool.{cases_lt}
use Rattle.std.proofs.lemmas.Cmp.{tied_itself}
use Rattle.std.proofs.lemmas.List.{get_or_default}
use Rattle.std.proofs.lemmas.List.Kept.{AllPairs-from_increasing}
use Rattle.std.proofs.lemmas.List.Sorted.{searchable_from_sorted, searched}
use Rattle.order_memory.specs.Steps.Written.{by_variable}
use Rattle.order_memory.proofs.Sorted.{by_variable_total, same_pairs}
use Rattle.log_events.specs.Steps.Outcomes.{AreSorted}

found_at : (pairs : List (ℕ × ℕ)) (x v i : ℕ) → i < length pairs → HoldsAt (λ (p : ℕ × ℕ). by_variable p (x, v) ≡ Equal) pairs i → Contains pairs (x, v)
found_at pairs x v i below equal =
    let same = same_pairs (get_or pairs i (x, v)) (x, v) (equal (x, v)) in
    (i, below, λ j. (same.0 j, same.1 j))

not_found : (pairs : List (ℕ × ℕ)) (x v i : ℕ)
    → IsPartitionPoint (λ (p : ℕ × ℕ). by_variable p (x, v) ≡ Less) (λ (p : ℕ × ℕ). by_variable p (x, v) ≡ Greater) pairs i
    → ¬ Contains pairs (x, v)
not_found pairs x v i split inside =
    let equal = tied_itself by_variable_total (x, v) in
    ⊎_elim
    (λ (below : inside.0 < i).
    let less = rw inside.2 at (split.0 inside.0 (x, v) (omega arith) below) in absurd cc)
    (λ (above : i ≤ inside.0).
    let greater = rw inside.2 at (split.1 inside.0 (x, v) above inside.1) in absurd cc)
    (cases_lt inside.0 i)

-- what a binary search of sorted pairs answers
pub pairs-search : (pairs : List (ℕ × ℕ)) (x v : ℕ) (r : Result ℕ ℕ) (b : Bool) → AreSorted pairs → IsSearchInRange r (length pairs)
    → IsBinarySearchResult (λ (p : ℕ × ℕ). by_variable p (x, v)) pairs r → b ≡ is_ok r → IsTrue b ↔ Contains pairs (x, v)
pairs-search pairs x v (Ok i) b sorted in_range found is = (λ _. found_at pairs x v i in_range found, λ _. is)
pairs-search pairs x v (Err i) b sorted in_range split is = (
  λ (yes : b ≡ true). absurd cc,
  λ there. absurd (not_found pairs x v i (split (searchable_from_sorted by_variable_total (λ (p : ℕ × ℕ). p) pairs (x, v) sorted)) there),
)

pub rising-order : (keys : List ℕ) → IsStrictlyIncreasing keys → (i j : ℕ) → i ≤ j → j < length keys → get_or keys i 0 ≤ get_or keys j 0
rising-order keys rising i j before below = ⊎_elim
    (λ (less : i < j). let order = AllPairs-from_increasing keys rising i j 0 less below in omega arith)
    (λ (same : j ≤ i). let equal : i ≡ j = omega arith in let value = ap (λ (n : ℕ). get_or keys n 0) equal in omega arith)
    (cases_lt i j)

-- keys that rise are each there once
pub rising-once : (keys : List ℕ) → IsStrictlyIncreasing keys → (i j : ℕ) → i < length keys → j < length keys → get_or keys i 0 ≡ get_or keys j 0 → i ≡ j
rising-once keys rising i j one two same = ⊎_elim
    (λ (less : i < j). let order = AllPairs-from_increasing keys rising i j 0 less two in absurd (omega arith))
    (λ (rest : j ≤ i). ⊎_elim
    (λ (more : j < i). let order = AllPairs-from_increasing keys rising j i 0 more one in absurd (omega arith))
    (λ (equal : i ≤ j). omega arith)
    (cases_lt j i))
    (cases_lt i j)

-- a key that a search finds is there
pub keys-found : (keys : List ℕ) (x i : ℕ) → IsStrictlyIncreasing keys → IsBinarySearchResult (λ y. nat_cmp y x) keys (Ok i)
    → (i < length keys) × (get_or keys i 0 ≡ x)
keys-found keys x i rising found = searched keys x (Ok i) found (rising-order keys rising)

pub keys-missed : (keys : List ℕ) (x i : ℕ) → IsStrictlyIncreasing keys → IsBinarySearchResult (λ y. nat_cmp y x) keys (Err i) → ¬ Contains keys x
keys-missed keys x i rising missed (k, within, read) =
    let split = searched keys x (Err i) missed (rising-order keys rising) in
    let same : get_or keys k 0 ≡ x = get_or_default keys k 0 x within ∙ read in
    ⊎_elim
    (λ (below : k < i). let less = split.1 k below in absurd (omega arith))
    (λ (above : i ≤ k). let more = split.2 k above within in absurd (omega arith))
    (cases_lt k i)

pub keys-search : (keys : List ℕ) (x : ℕ) (r : Result ℕ ℕ) (b : Bool) → IsStrictlyIncreasing keys → IsBinarySearchResult (λ y. nat_cmp y x) keys r
    → b ≡ is_ok r → IsTrue b ↔ Contains keys x
keys-search keys x (Ok i) b rising found is =
    let here = keys-found keys x i rising found in
    (λ _. (i, here.0, get_or_default keys i x 0 here.0 ∙ here.1), λ _. is)
keys-search keys x (Err i) b rising missed is = (λ (yes : b ≡ true). absurd cc, λ there. absurd (keys-missed keys x i rising missed there))
