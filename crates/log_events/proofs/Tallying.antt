-- Tallies of keys.
use Rattle.std.proofs.Common.{◌≡◌, ℕ, ◌+◌, ◌<◌, ◌≤◌, true, false, List, [], ◌∷◌, ◌++◌, length, take, set, get_or, refl, ap, sym, subst, ◌∙◌, ⊎_elim, arith, eq-eqb}
use Rattle.std.specs.Prelude.{◌≢◌, ◌==◌, if◌then◌else◌, cond, Contains, Option, Some, None, filter, slice_index, unwrap_or}
use Rattle.std.specs.List.Sorted.{IsStrictlyIncreasing}
use Rattle.std.proofs.lemmas.Bool.{cases_eq, ne_eqb}
use Rattle.std.proofs.lemmas.List.{get_or_default, get_or-set_other, get_or-set_same, get_or-take, length-append, length-set, length-take-le}
use Rattle.std.proofs.lemmas.List.Elements.{All-push, All-weaker, Contains-append_left, Contains-push, Contains-push_cases, filter-append}
use Rattle.std.proofs.lemmas.List.Kept.{AllPairs-from_increasing}
use Rattle.model_objects.specs.Table.{value_at}
use Rattle.log_events.specs.Steps.Tallies.{AreCounted, IsTally, count_in}
use Rattle.log_events.proofs.Searching.{rising-once}
use Rattle.log_events.proofs.StartKeys.{rising_push}

-- one more element of a list
count_in-push : (xs : List ℕ) (x y : ℕ) → count_in (xs ++ x ∷ []) y ≡ count_in xs y + (if x == y then 1 else 0)
count_in-push xs x y =
    ap length (filter-append (λ z. z == y) xs (x ∷ [])) ∙ length-append (filter (λ z. z == y) xs) (filter (λ z. z == y) (x ∷ []))
    ∙ (elim (x == y) as (λ b. count_in xs y + length (cond b (x ∷ []) []) ≡ count_in xs y + (if b then 1 else 0)) [
      | true ↦ refl
      | false ↦ refl
    ])

count_in-same : (xs : List ℕ) (x y : ℕ) → x ≡ y → count_in (xs ++ x ∷ []) y ≡ count_in xs y + 1
count_in-same xs x y same = count_in-push xs x y ∙ rw (eq-eqb x y same) refl

count_in-apart : (xs : List ℕ) (x y : ℕ) → x ≢ y → count_in (xs ++ x ∷ []) y ≡ count_in xs y
count_in-apart xs x y apart = count_in-push xs x y ∙ rw (ne_eqb x y apart) (omega arith)

-- one more element that is a key
pub counted-more : (xs keys counts : List ℕ) (x p : ℕ) → AreCounted xs keys counts → IsStrictlyIncreasing keys → p < length keys → get_or keys p 0 ≡ x
    → AreCounted (xs ++ x ∷ []) keys (set counts p (slice_index counts p + 1))
counted-more xs keys counts x p counted rising within is =
    let as_many = counted.as_many in
    let long = length-set counts p (slice_index counts p + 1) in record {
      as_many = omega arith;
      each = λ k below. ⊎_elim
          (λ (equal : k ≡ p).
          let here = get_or-set_same counts p (slice_index counts p + 1) 0 (omega arith) in
          let moved = ap (slice_index (set counts p (slice_index counts p + 1))) equal in
          let key = ap (slice_index keys) equal in
          let more = count_in-same xs x (slice_index keys k) (sym is ∙ sym key) in
          let old = counted.each p within in
          let other = ap (count_in xs) key in
          omega arith)
          (λ (apart : k ≡ p → ⊥).
          let stays = get_or-set_other counts p k (slice_index counts p + 1) 0 apart in
          let differ : x ≢ slice_index keys k = λ same. apart (rising-once keys rising k p below within (sym (is ∙ same))) in
          stays ∙ counted.each k below ∙ sym (count_in-apart xs x (slice_index keys k) differ))
          (cases_eq k p);
    }

-- one more element that is no key
pub counted-other : (xs keys counts : List ℕ) (x : ℕ) → AreCounted xs keys counts → ¬ Contains keys x → AreCounted (xs ++ x ∷ []) keys counts
counted-other xs keys counts x counted none = record {
  as_many = counted.as_many;
  each = λ k below.
      let differ : x ≢ slice_index keys k = λ same. none (k, below, get_or_default keys k x 0 below ∙ sym same) in
      counted.each k below ∙ sym (count_in-apart xs x (slice_index keys k) differ);
}

-- no count is above how many elements there are
pub count_in-le : (xs : List ℕ) (x : ℕ) → count_in xs x ≤ length xs
count_in-le [] x = omega arith
count_in-le (y ∷ xs) x =
    let rest = count_in-le xs x in
    elim (y == x) as (λ b. length (cond b (y ∷ filter (λ z. z == x) xs) (filter (λ z. z == x) xs)) ≤ length (y ∷ xs)) [
      | true ↦ omega arith
      | false ↦ omega arith
    ]

-- what an entry at the end gives
value_at-push_other : (tally : List (ℕ × ℕ)) (k n x : ℕ) → k ≢ x → value_at (tally ++ (k, n) ∷ []) x ≡ value_at tally x
value_at-push_other [] k n x apart = rw (ne_eqb k x apart) refl
value_at-push_other (e ∷ tally) k n x apart =
    ap (λ (o : Option ℕ). cond (e.0 == x) (Some e.1) o) (value_at-push_other tally k n x apart)

value_at-push_same : (tally : List (ℕ × ℕ)) (k n : ℕ) → value_at tally k ≡ None → value_at (tally ++ (k, n) ∷ []) k ≡ Some n
value_at-push_same [] k n none = rw (eq-eqb k k refl) refl
value_at-push_same (e ∷ tally) k n none =
    elim (e.0 == k) as (λ b. cond b (Some e.1) (value_at tally k) ≡ None → cond b (Some e.1) (value_at (tally ++ (k, n) ∷ []) k) ≡ Some n) [
      | true ↦ λ some. absurd cc
      | false ↦ λ rest. value_at-push_same tally k n rest
    ] none

module _ (xs keys : List ℕ) (x : ℕ) (tally : List (ℕ × ℕ)) (is_tally : IsTally xs keys tally) (above : (k : ℕ) → k < length keys → slice_index keys k < x) where
  no_key : ¬ Contains keys x
  no_key (k, below, read) =
      let less = above k below in
      let same : slice_index keys k ≡ x = get_or_default keys k 0 x below ∙ read in
      absurd (omega arith)

  -- one more key, which is in the list
  pub tally-more : 0 < count_in xs x → IsTally xs (keys ++ x ∷ []) (tally ++ (x, count_in xs x) ∷ [])
  tally-more some = record {
    rising = rising_push tally x (count_in xs x) is_tally.rising
        (λ k d within.
        let (m, below, read) = is_tally.among k d within in
        let less = above m below in
        let same : slice_index keys m ≡ (get_or tally k d).0 = get_or_default keys m 0 (get_or tally k d).0 below ∙ read in
        omega arith);
    positive = All-push (λ entry. 0 < entry.1) tally (x, count_in xs x) is_tally.positive some;
    among = All-push (λ entry. Contains (keys ++ x ∷ []) entry.0) tally (x, count_in xs x)
        (All-weaker (λ entry. Contains keys entry.0) (λ entry. Contains (keys ++ x ∷ []) entry.0) (λ entry inside. Contains-append_left keys (x ∷ []) entry.0 inside) tally is_tally.among)
        (Contains-push keys x);
    listed = λ y inside. ⊎_elim
        (λ (equal : x ≡ y).
        subst (λ (z : ℕ). unwrap_or (value_at (tally ++ (x, count_in xs x) ∷ []) z) 0 ≡ count_in xs z) equal
        (ap (λ (o : Option ℕ). unwrap_or o 0) (value_at-push_same tally x (count_in xs x) (is_tally.other x no_key))))
        (λ (apart : x ≡ y → ⊥).
        ap (λ (o : Option ℕ). unwrap_or o 0) (value_at-push_other tally x (count_in xs x) y apart)
        ∙ is_tally.listed y (⊎_elim (λ (old : Contains keys y). old) (λ (same : x ≡ y). absurd (apart same)) (Contains-push_cases keys x y inside)))
        (cases_eq x y);
    other = λ y none.
        let apart : x ≢ y = λ same. none (subst (Contains (keys ++ x ∷ [])) same (Contains-push keys x)) in
        value_at-push_other tally x (count_in xs x) y apart ∙ is_tally.other y (λ inside. none (Contains-append_left keys (x ∷ []) y inside));
  }

  -- one more key, which is not in the list
  pub tally-other : count_in xs x ≡ 0 → IsTally xs (keys ++ x ∷ []) tally
  tally-other none = record {
    rising = is_tally.rising;
    positive = is_tally.positive;
    among = All-weaker (λ entry. Contains keys entry.0) (λ entry. Contains (keys ++ x ∷ []) entry.0) (λ entry inside. Contains-append_left keys (x ∷ []) entry.0 inside) tally is_tally.among;
    listed = λ y inside. ⊎_elim
        (λ (old : Contains keys y). is_tally.listed y old)
        (λ (same : x ≡ y). subst (λ (z : ℕ). unwrap_or (value_at tally z) 0 ≡ count_in xs z) same
        (ap (λ (o : Option ℕ). unwrap_or o 0) (is_tally.other x no_key) ∙ sym none))
        (Contains-push_cases keys x y inside);
    other = λ y absent. is_tally.other y (λ inside. absent (Contains-append_left keys (x ∷ []) y inside));
  }

-- the key after the first i of keys that rise is above them
pub above-first : (keys : List ℕ) (i : ℕ) → IsStrictlyIncreasing keys → i < length keys → (k : ℕ) → k < length (take i keys)
    → slice_index (take i keys) k < slice_index keys i
above-first keys i rising within k below =
    let long = length-take-le i keys (omega arith) in
    let less : k < i = omega arith in
    let same = get_or-take i keys k 0 less in
    let order = AllPairs-from_increasing keys rising k i 0 less within in
    omega arith
