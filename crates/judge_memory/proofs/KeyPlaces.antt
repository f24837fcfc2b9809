-- Numbers for keys.
use Rattle.std.specs.Prelude.{◌≡◌, ◌⊎◌, ℕ, ◌<◌, ◌≤◌, All, List, [], ◌∷◌, ◌++◌, Contains, IsPermutation, Option, Some, length, option_map, slice_get}
use Rattle.std.specs.List.{dedup}
use Rattle.std.specs.List.Sorted.{IsNonDecreasingBy, IsPartitionPoint, IsStrictlyIncreasing}
use Rattle.std.proofs.Common.{arith, ap, eqb, get_or, ltb, true, false, subst, sym, ◌∙◌, ⊎_elim}
use Rattle.std.proofs.lemmas.Bool.{cases_eq, cases_lt, cases_order}
use Rattle.std.proofs.lemmas.Bool.Decides.{nat_tests}
use Rattle.std.proofs.lemmas.List.{get_or_append_left, get_or_push, length_push}
use Rattle.std.proofs.lemmas.List.Elements.{Contains-get_or}
use Rattle.std.proofs.lemmas.List.Kept.{AllPairs-from_increasing, Contains-dedup_nat}
use Rattle.std.proofs.lemmas.List.Sorted.{Contains-permutation}
use Rattle.std.proofs.lemmas.Option.{get_or_from_slice_get, same_Some, slice_get-get_or, slice_get_within}
use Rattle.model_objects.specs.declared.register.RegisterRet.{RegisterRet}
use Rattle.model_history.specs.declared.op_id.OpId.{OpId}
use Rattle.model_history.specs.History.{IsOp, number}
use Rattle.order_memory.specs.Memory.{MemoryCall, MemoryHistory, Writes, Reads}
use Rattle.order_memory.proofs.MemoryLaws.{entry-call, read-of_history, write-of_history}
use Rattle.judge_memory.specs.Steps.{many}
use Rattle.judge_memory.proofs.Numbers.{number-all}
use Rattle.judge_memory.specs.Lists.{ArePlaces, IsKeyOf, ListsEach}
use Rattle.judge_memory.specs.Parts.{AreVariables, IsOfVariable}

module _ (xs : List ℕ) (rising : IsStrictlyIncreasing xs) where
  -- in a list that rises each number stands once
  rising-once : (i j x : ℕ) → slice_get xs i ≡ Some x → slice_get xs j ≡ Some x → i ≡ j
  rising-once i j x at_i at_j =
      let pairs = AllPairs-from_increasing xs rising in
      let in_i = slice_get_within xs i x at_i in
      let in_j = slice_get_within xs j x at_j in
      let is_i = get_or_from_slice_get xs i x 0 at_i in
      let is_j = get_or_from_slice_get xs j x 0 at_j in
      ⊎_elim
      (λ (same : i ≡ j). same)
      (λ (apart : (i < j) ⊎ (j < i)). ⊎_elim
      (λ (before : i < j). let less = pairs i j 0 before in_j in absurd (omega arith))
      (λ (behind : j < i). let less = pairs j i 0 behind in_i in absurd (omega arith))
      apart)
      (cases_order i j)

  pub rising-up : IsNonDecreasingBy (λ x. x) xs
  rising-up i j d up_to below = ⊎_elim
      (λ (same : i ≡ j). let one = ap (λ (k : ℕ). get_or xs k d) same in omega arith)
      (λ (apart : i ≡ j → ⊥). let less = AllPairs-from_increasing xs rising i j d (omega arith) below in omega arith)
      (cases_eq i j)

  -- the place before which all numbers are less is that of the number
  pub rising-place : (key i : ℕ) → IsPartitionPoint (λ y. ltb y key ≡ true) (λ y. ltb y key ≡ false) xs i → Contains xs key
      → slice_get xs i ≡ Some key
  rising-place key i split (j, below, at) = ⊎_elim
      (λ (same : i ≡ j). ap (slice_get xs) same ∙ slice_get-get_or xs j key below ∙ ap (λ (x : ℕ). Some x) at)
      (λ (apart : (i < j) ⊎ (j < i)). ⊎_elim
      (λ (before : i < j).
      let less = AllPairs-from_increasing xs rising i j key before below in
      let not_less = split.1 i key (omega arith) (omega arith) in
      absurd (grind (arith, nat_tests)))
      (λ (behind : j < i).
      let less = split.0 j key (omega arith) behind in
      absurd (grind (arith, nat_tests)))
      apart)
      (cases_order i j)

module _ (h : MemoryHistory) where
  -- the variable of a write or known read is its key
  key-of : (x : ℕ) (o : OpId) → IsOfVariable h x o → IsOp h o × IsKeyOf h o x
  key-of x o (v, is) = ⊎_elim
      (λ (wrote : Writes h o x v).
      let called = entry-call _ _ wrote in
      (write-of_history h o x v wrote, ap (option_map (λ (e : MemoryCall × Option RegisterRet). e.0.key)) called.1))
      (λ (reads : Reads h o x v). (read-of_history h o x v reads, ap (option_map (λ (e : MemoryCall × Option RegisterRet). e.0.key)) reads))
      is

  module _ (keys distinct places : List ℕ) (lists : ListsEach h (IsKeyOf h) (many h) keys) (found : ArePlaces distinct keys places) where
    place-of : (x : ℕ) (o : OpId) → IsOfVariable h x o → slice_get distinct (get_or places (number h o) 0) ≡ Some x
    place-of x o is =
        let known = key-of x o is in
        let below = number-all h o known.0 in
        let count = lists.count in
        let count_places = found.count in
        let here = slice_get-get_or keys (number h o) 0 (omega arith) in
        let key = lists.each o (get_or keys (number h o) 0) known.0 here in
        let same : get_or keys (number h o) 0 ≡ x = same_Some _ _ (sym key ∙ known.1) in
        found.each (number h o) (get_or places (number h o) 0) (slice_get-get_or places (number h o) 0 (omega arith))
        ∙ here ∙ ap (λ (y : ℕ). Some y) same

    -- the places of keys are numbers for variables
    pub places-variables : IsStrictlyIncreasing distinct → AreVariables h places
    places-variables rising a b x y of_a of_b =
        let at_a = place-of x a of_a in
        let at_b = place-of y b of_b in (
          (λ (same : get_or places (number h a) 0 ≡ get_or places (number h b) 0).
              same_Some _ _ (sym at_a ∙ ap (slice_get distinct) same ∙ at_b)),
          λ (same : x ≡ y). rising-once distinct rising _ _ y (at_a ∙ ap (λ (z : ℕ). Some z) same) at_b,
        )

    pub places-count : length places ≡ many h
    places-count = let count = lists.count in let count_places = found.count in omega arith

-- they are below how many distinct keys there are
pub places-below : (keys distinct places : List ℕ) → ArePlaces distinct keys places → (n x : ℕ) → slice_get places n ≡ Some x
    → x < length distinct
places-below keys distinct places found n x at =
    let inside = slice_get_within places n x at in
    let count = found.count in
    slice_get_within distinct x (get_or keys n 0) (found.each n x at ∙ slice_get-get_or keys n 0 (omega arith))

-- what stays of sorted keys, each once, has all of them
pub distinct-each : (keys copied sorted kept : List ℕ) → copied ≡ keys → IsPermutation copied sorted → kept ≡ dedup eqb sorted
    → All (Contains kept) keys
distinct-each keys copied sorted kept same moved is k d below =
    let inside : Contains copied (get_or keys k d) =
    subst (λ (xs : List ℕ). Contains xs (get_or keys k d)) (sym same) (Contains-get_or keys k d below) in
    subst (λ (xs : List ℕ). Contains xs (get_or keys k d)) (sym is)
    (Contains-dedup_nat sorted _ (Contains-permutation copied sorted _ moved inside))

-- the place of one key more
pub places-push : (distinct keys places : List ℕ) (i d place : ℕ) → i < length keys → length places ≡ i
    → ((n p : ℕ) → slice_get places n ≡ Some p → slice_get distinct p ≡ slice_get keys n) → slice_get distinct place ≡ Some (get_or keys i d)
    → (n p : ℕ) → slice_get (places ++ place ∷ []) n ≡ Some p → slice_get distinct p ≡ slice_get keys n
places-push distinct keys places i d place below count each this n p at =
    let here = get_or_from_slice_get (places ++ place ∷ []) n p 0 at in
    let within = slice_get_within (places ++ place ∷ []) n p at in
    let size = length_push places place in
    ⊎_elim
    (λ (old : n < length places).
    each n p (slice_get-get_or places n 0 old ∙ ap (λ (z : ℕ). Some z) (sym (get_or_append_left places (place ∷ []) 0 n old) ∙ here)))
    (λ (new : length places ≤ n).
    let last : n ≡ i = omega arith in
    let same : place ≡ p = sym (get_or_push places place 0 n (omega arith)) ∙ here in
    ap (slice_get distinct) (sym same) ∙ this ∙ sym (slice_get-get_or keys i d below) ∙ ap (slice_get keys) (sym last))
    (cases_lt n (length places))
