-- Bits of words, and of words in lists.
use Rattle.std.specs.Prelude.{◌≡◌, ◌≢◌, ◌⊎◌, ◌↔◌, ℕ, ◌-◌, ◌*◌, ◌^◌, ◌%◌, ◌<◌, List, length, slice_index_or, slice_set, bit_and, bit_or}
use Rattle.std.specs.Int.{bit_at, w128}
use Rattle.std.proofs.Common.{arith, refl, sym, subst, inl, inr, ⊎_elim}
use Rattle.std.proofs.lemmas.Bool.{cases_eq}
use Rattle.std.proofs.lemmas.List.{get_or-set_same, get_or-set_other}
use Rattle.std.proofs.lemmas.Nat.Bits.{bit_at_and, bit_at_or, bit_at_not, bit_at-lt, bit_at-zero, bit_at-trailing_zeros, bit_at_set_same, bit_at_set_other}
use Rattle.judge_columns.specs.Words.{HasBit}

pub and-both : (a b k : ℕ) → HasBit (bit_and a b) k ↔ (HasBit a k × HasBit b k)
and-both a b k =
    let is = bit_at_and a b k in
    let first = bit_at-lt a k in
    let second = bit_at-lt b k in (
      (λ has. (omega arith, omega arith)),
      λ both. let one = both.0 in let two = both.1 in omega arith,
    )

pub or-either : (a b k : ℕ) → HasBit (bit_or a b) k ↔ (HasBit a k ⊎ HasBit b k)
or-either a b k =
    let is = bit_at_or a b k in
    let first = bit_at-lt a k in
    let second = bit_at-lt b k in (
      (λ has. ⊎_elim
          (λ (one : bit_at a k ≡ 1). inl one)
          (λ (none : bit_at a k ≢ 1). inr (omega arith))
          (cases_eq (bit_at a k) 1)),
      λ either. ⊎_elim (λ (one : HasBit a k). omega arith) (λ (one : HasBit b k). omega arith) either,
    )

pub and-not : (a b k : ℕ) → b < 2 ^ 128 → k < 128 → HasBit (bit_and a (2 ^ 128 - 1 - b)) k ↔ (HasBit a k × (¬ HasBit b k))
and-not a b k small below =
    let both = and-both a (2 ^ 128 - 1 - b) k in
    let not = bit_at_not w128 b k small below in
    let second = bit_at-lt b k in (
      (λ has. let two = both.0 has in let one = two.1 in (two.0, λ other. omega arith)),
      λ (one, none). both.1 (
        one,
        ⊎_elim
            (λ (is : bit_at b k ≡ 1). absurd (none is))
            (λ (apart : bit_at b k ≢ 1). omega arith)
            (cases_eq (bit_at b k) 1),
      ),
    )

pub zero-none : (k : ℕ) → ¬ HasBit 0 k
zero-none k has = let is = bit_at-zero k in omega arith

pub some-bit : (a : ℕ) → a ≢ 0 → a < 2 ^ 128 → (k : ℕ) × (k < 128) × HasBit a k
some-bit a apart small = let found = bit_at-trailing_zeros w128 a (omega arith) small in (_, found.0, found.1)

pub set-bit : (a j k : ℕ) → j < 128 → HasBit (bit_or a (1 * 2 ^ j % 2 ^ 128)) k ↔ (HasBit a k ⊎ (k ≡ j))
set-bit a j k below =
    let same = bit_at_set_same w128 a j below in (
      (λ has. ⊎_elim
          (λ (here : k ≡ j). inr here)
          (λ (apart : k ≢ j). let other = bit_at_set_other w128 a j below k apart in inl (omega arith))
          (cases_eq k j)),
      λ either. ⊎_elim
          (λ (here : k ≡ j). subst (λ (i : ℕ). HasBit (bit_or a (1 * 2 ^ j % 2 ^ 128)) i) (sym here) same)
          (λ (apart : k ≢ j). let other = bit_at_set_other w128 a j below k apart in ⊎_elim
          (λ (had : HasBit a k). omega arith)
          (λ (here : k ≡ j). absurd (apart here))
          either)
          (cases_eq k j),
    )

-- a word of a list is changed
pub at-place : (words : List ℕ) (place word : ℕ) (more : ℕ → Type 0) → place < length words
    → ((k : ℕ) → HasBit word k ↔ (HasBit (slice_index_or words place 0) k ⊎ more k))
    → (n k : ℕ) → HasBit (slice_index_or (slice_set words place word) n 0) k ↔ (HasBit (slice_index_or words n 0) k ⊎ ((n ≡ place) × more k))
at-place words place word more inside is n k = ⊎_elim
    (λ (here : n ≡ place).
    let same = get_or-set_same words place word 0 inside in
    subst (λ (m : ℕ). HasBit (slice_index_or (slice_set words place word) m 0) k ↔ (HasBit (slice_index_or words m 0) k ⊎ ((m ≡ place) × more k)))
    (sym here) (
      (λ has. ⊎_elim
          (λ (old : HasBit (slice_index_or words place 0) k). inl old)
          (λ (new : more k). inr (refl, new))
          ((is k).0 (subst (λ (w : ℕ). HasBit w k) same has))),
      λ either. subst (λ (w : ℕ). HasBit w k) (sym same) ((is k).1 (⊎_elim
          (λ (old : HasBit (slice_index_or words place 0) k). inl old)
          (λ (new : (place ≡ place) × more k). inr new.1)
          either)),
    ))
    (λ (apart : n ≢ place).
    let same = get_or-set_other words place n word 0 apart in (
      (λ has. inl (subst (λ (w : ℕ). HasBit w k) same has)),
      λ either. ⊎_elim
          (λ (old : HasBit (slice_index_or words n 0) k). subst (λ (w : ℕ). HasBit w k) (sym same) old)
          (λ (new : (n ≡ place) × more k). absurd (apart new.0))
          either,
    ))
    (cases_eq n place)
