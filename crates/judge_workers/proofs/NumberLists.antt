-- Lists of numbers: one more, those of two lists, and all below a count.
use Rattle.std.specs.Prelude.{◌≡◌, ◌≢◌, ◌⊎◌, ◌++◌, ℕ, ◌+◌, ◌<◌, ◌≤◌, Bool, true, false, List, [], ◌∷◌, Some, length, set, slice_get, IsTrue}
use Rattle.std.proofs.Common.{zero, suc, arith, ap, get_or, sym, ◌∙◌, refl, subst, inl, inr, ⊎_elim}
use Rattle.std.proofs.lemmas.Bool.{cases_eq, cases_lt}
use Rattle.std.proofs.lemmas.List.{get_or-set_other, get_or-set_same}
use Rattle.std.proofs.lemmas.Option.{get_or_from_slice_get, same_Some, slice_get-get_or, slice_get_within}
use Rattle.judge_workers.specs.Numbers.{HasNumber}

pub has-none : (g : ℕ) → ¬ HasNumber [] g
has-none g (j, at) = let within = slice_get_within {A = ℕ} [] j g at in omega arith

pub has-cases : (xs ys : List ℕ) (g : ℕ) → HasNumber (xs ++ ys) g → HasNumber xs g ⊎ HasNumber ys g
has-cases [] ys g has = inr has
has-cases (x ∷ xs) ys g (zero, at) = inl (0, at)
has-cases (x ∷ xs) ys g (suc j, at) = ⊎_elim
    (λ (first : HasNumber xs g). inl (suc first.0, first.1))
    (λ (second : HasNumber ys g). inr second)
    (has-cases xs ys g (j, at))

pub has-first : (xs ys : List ℕ) (g : ℕ) → HasNumber xs g → HasNumber (xs ++ ys) g
has-first [] ys g has = absurd (has-none g has)
has-first (x ∷ xs) ys g (zero, at) = (0, at)
has-first (x ∷ xs) ys g (suc j, at) = let found = has-first xs ys g (j, at) in (suc found.0, found.1)

pub has-second : (xs ys : List ℕ) (g : ℕ) → HasNumber ys g → HasNumber (xs ++ ys) g
has-second [] ys g has = has
has-second (x ∷ xs) ys g has = let found = has-second xs ys g has in (suc found.0, found.1)

-- the last one is among them
pub has-pushed : (xs : List ℕ) (g : ℕ) → HasNumber (xs ++ g ∷ []) g
has-pushed xs g = has-second xs (g ∷ []) g (0, refl)

pub has-alone : (x g : ℕ) → HasNumber (x ∷ []) g → g ≡ x
has-alone x g (zero, at) = sym (same_Some _ _ at)
has-alone x g (suc j, at) = absurd (has-none g (j, at))

-- one number more is in one of two lists
pub unclaimed-more : (claimed rest more : List ℕ) (n : ℕ) → ((g : ℕ) → HasNumber rest g → HasNumber more g)
    → (HasNumber claimed n ⊎ HasNumber more n) → ((g : ℕ) → g < n → HasNumber claimed g ⊎ HasNumber rest g)
    → (g : ℕ) → g < n + 1 → HasNumber claimed g ⊎ HasNumber more g
unclaimed-more claimed rest more n wider here before g below = ⊎_elim
    (λ (same : g ≡ n). subst (λ (k : ℕ). HasNumber claimed k ⊎ HasNumber more k) (sym same) here)
    (λ (apart : g ≢ n). ⊎_elim
    (λ (first : HasNumber claimed g). inl first)
    (λ (second : HasNumber rest g). inr (wider g second))
    (before g (omega arith)))
    (cases_eq g n)

-- one that is not in a list more
pub apart-more : (claimed rest : List ℕ) (n : ℕ) → ¬ HasNumber claimed n → ((g : ℕ) → HasNumber rest g → ¬ HasNumber claimed g)
    → (g : ℕ) → HasNumber (rest ++ n ∷ []) g → ¬ HasNumber claimed g
apart-more claimed rest n lacks before g has = ⊎_elim
    (λ (old : HasNumber rest g). before g old)
    (λ (new : HasNumber (n ∷ []) g). subst (λ (k : ℕ). ¬ HasNumber claimed k) (sym (has-alone n g new)) lacks)
    (has-cases rest (n ∷ []) g has)

-- one below a number more
pub below-more : (rest : List ℕ) (g count : ℕ) → g < count → ((k : ℕ) → HasNumber rest k → k < count)
    → (k : ℕ) → HasNumber (rest ++ g ∷ []) k → k < count
below-more rest g count below before k has = ⊎_elim
    (λ (old : HasNumber rest k). before k old)
    (λ (new : HasNumber (g ∷ []) k). subst (λ (n : ℕ). n < count) (sym (has-alone g k new)) below)
    (has-cases rest (g ∷ []) k has)

-- all of a list and the rest are in a list that has both
pub all-there : (count : ℕ) (claimed rest all : List ℕ) → ((g : ℕ) → g < count → HasNumber claimed g ⊎ HasNumber rest g)
    → ((g : ℕ) → HasNumber claimed g → HasNumber all g) → ((g : ℕ) → HasNumber rest g → HasNumber all g)
    → (g : ℕ) → g < count → HasNumber all g
all-there count claimed rest all each kept done g below = ⊎_elim
    (λ (first : HasNumber claimed g). kept g first)
    (λ (second : HasNumber rest g). done g second)
    (each g below)

-- the first ones of a list are among others, and one more is
pub done-more : (rest all : List ℕ) (i g : ℕ) → slice_get rest i ≡ Some g
    → ((j k : ℕ) → j < i → slice_get rest j ≡ Some k → HasNumber all k)
    → (j k : ℕ) → j < i + 1 → slice_get rest j ≡ Some k → HasNumber (all ++ g ∷ []) k
done-more rest all i g here before j k below at = ⊎_elim
    (λ (same : j ≡ i).
    let one : g ≡ k = same_Some _ _ (sym here ∙ subst (λ (n : ℕ). slice_get rest n ≡ Some k) same at) in
    subst (λ (n : ℕ). HasNumber (all ++ g ∷ []) n) one (has-pushed all g))
    (λ (apart : j ≢ i). has-first all (g ∷ []) k (before j k (omega arith) at))
    (cases_eq j i)

-- a range, up to an end, grows by a number
pub range-more : (all : List ℕ) (from i to : ℕ) → ((k : ℕ) → from ≤ k → k < from + i → k < to → HasNumber all k)
    → (k : ℕ) → from ≤ k → k < from + (i + 1) → k < to → HasNumber (all ++ (from + i) ∷ []) k
range-more all from i to before k low high below = ⊎_elim
    (λ (same : k ≡ from + i). subst (λ (n : ℕ). HasNumber (all ++ (from + i) ∷ []) n) (sym same) (has-pushed all (from + i)))
    (λ (apart : k ≢ from + i). has-first all ((from + i) ∷ []) k (before k low (omega arith) below))
    (cases_eq k (from + i))

-- a list with a range more
pub ranges-more : (old now : List ℕ) (from to : ℕ) → ((k : ℕ) → HasNumber old k → HasNumber now k)
    → ((k : ℕ) → from ≤ k → k < to → HasNumber now k) → ((k : ℕ) → k < from → HasNumber old k) → (k : ℕ) → k < to → HasNumber now k
ranges-more old now from to kept added before k below = ⊎_elim
    (λ (first : k < from). kept k (before k first))
    (λ (second : from ≤ k). added k second below)
    (cases_lt k from)

-- marks for the numbers of a list, up to a place, and with that place
module _ (claimed : List ℕ) (are : List Bool) (i count : ℕ) (below : i < length claimed)
    (each : (n : ℕ) → IsTrue (get_or are n false) → HasNumber claimed n)
    (marked : (j n : ℕ) → j < i → slice_get claimed j ≡ Some n → n < count → IsTrue (get_or are n false)) where
  there : (j n : ℕ) → j ≡ i → slice_get claimed j ≡ Some n → n ≡ get_or claimed i 0
  there j n same at = sym (get_or_from_slice_get claimed j n 0 at) ∙ ap (λ (m : ℕ). get_or claimed m 0) same

  pub each-marked : (n : ℕ) → IsTrue (get_or (set are (get_or claimed i 0) true) n false) → HasNumber claimed n
  each-marked n is = ⊎_elim
      (λ (same : n ≡ get_or claimed i 0). (i, slice_get-get_or claimed i 0 below ∙ ap (λ (m : ℕ). Some m) (sym same)))
      (λ (apart : n ≢ get_or claimed i 0). each n (sym (get_or-set_other are (get_or claimed i 0) n true false apart) ∙ is))
      (cases_eq n (get_or claimed i 0))

  pub marked-more : get_or claimed i 0 < length are → (j n : ℕ) → j < i + 1 → slice_get claimed j ≡ Some n → n < count
      → IsTrue (get_or (set are (get_or claimed i 0) true) n false)
  marked-more inside j n before at low = ⊎_elim
      (λ (same : n ≡ get_or claimed i 0).
      ap (λ (m : ℕ). get_or (set are (get_or claimed i 0) true) m false) same ∙ get_or-set_same are (get_or claimed i 0) true false inside)
      (λ (apart : n ≢ get_or claimed i 0).
      let other : j ≢ i = λ is. apart (there j n is at) in
      get_or-set_other are (get_or claimed i 0) n true false apart ∙ marked j n (omega arith) at low)
      (cases_eq n (get_or claimed i 0))

  pub marked-past : count ≤ get_or claimed i 0 → (j n : ℕ) → j < i + 1 → slice_get claimed j ≡ Some n → n < count → IsTrue (get_or are n false)
  marked-past past j n before at low = ⊎_elim
      (λ (same : j ≡ i). let is = there j n same at in absurd (omega (arith, is, past, low)))
      (λ (apart : j ≢ i). marked j n (omega arith) at low)
      (cases_eq j i)
