-- Lists by operation, with one list more in a session.
use Rattle.std.specs.Prelude.{◌≡◌, ◌≢◌, ◌⊎◌, ℕ, ◌+◌, ◌<◌, ◌≤◌, List, [], ◌∷◌, ◌++◌, length}
use Rattle.std.proofs.Common.{arith, get_or, set, sym, ap, subst, ◌∙◌, inl, inr, ⊎_elim, lt_of_not-le, length-append, zero, suc}
use Rattle.std.proofs.lemmas.Bool.{cases_eq, cases_lt}
use Rattle.std.proofs.lemmas.List.{get_or-set_same, get_or-set_other, get_or_past, get_or_append_left, get_or-append-add}
use Rattle.std.proofs.lemmas.List.Sums.{sum_by-set, sum_by-cons}
use Rattle.std.specs.List.{sum_by}
use Rattle.model_history.specs.declared.op_id.OpId.{OpId}
use Rattle.order_causal.specs.Orders.{op}
use Rattle.order_causal.proofs.OrdersLaws.{same_op}
use Rattle.order_causal.specs.Vectors.{IsListed}

-- the lists, with x behind those of the session s
abbrev pub pushed : {A : Type 0} → List (List A) → ℕ → A → List (List A)
pushed lists s x = set lists s (get_or lists s [] ++ x ∷ [])

module _ {A : Type 0} (lists : List (List A)) where
  -- an entry that differs from the one past the end is there
  pub listed-length : (s i : ℕ) → i < length (get_or lists s []) → s < length lists
  listed-length s i below = lt_of_not-le (λ (past : length lists ≤ s).
      let none = get_or_past lists s [] past in
      let here = subst (λ (xs : List A). i < length xs) none below in
      omega arith)

  module _ (s : ℕ) (x : A) (inside : s < length lists) where
    pub pushed-same : get_or (pushed lists s x) s [] ≡ get_or lists s [] ++ x ∷ []
    pushed-same = get_or-set_same lists s (get_or lists s [] ++ x ∷ []) [] inside

    pub pushed-other : (t : ℕ) → t ≢ s → get_or (pushed lists s x) t [] ≡ get_or lists t []
    pushed-other t apart = get_or-set_other lists s t (get_or lists s [] ++ x ∷ []) [] apart

    pub pushed-length : length (get_or (pushed lists s x) s []) ≡ length (get_or lists s []) + 1
    pushed-length = ap (λ (xs : List A). length xs) pushed-same ∙ length-append (get_or lists s []) (x ∷ [])

    -- what has an entry keeps it
    pub pushed-old : (o : OpId) → IsListed lists o → IsListed (pushed lists s x) o
    pushed-old o listed = ⊎_elim
        (λ (same : o.session ≡ s).
        let before = subst (λ (t : ℕ). o.index < length (get_or lists t [])) same listed in
        let here : o.index < length (get_or (pushed lists s x) s []) = let more = pushed-length in omega arith in
        subst (λ (t : ℕ). o.index < length (get_or (pushed lists s x) t [])) (sym same) here)
        (λ (apart : o.session ≢ s). subst (λ (xs : List A). o.index < length xs) (sym (pushed-other o.session apart)) listed)
        (cases_eq o.session s)

    -- what has an entry had it, or is the next of the session
    pub pushed-cases : (o : OpId) → IsListed (pushed lists s x) o → IsListed lists o ⊎ (o ≡ op s (length (get_or lists s [])))
    pushed-cases o listed = ⊎_elim
        (λ (same : o.session ≡ s).
        let here = subst (λ (t : ℕ). o.index < length (get_or (pushed lists s x) t [])) same listed in
        let more = pushed-length in
        ⊎_elim
        (λ (below : o.index < length (get_or lists s [])). inl (subst (λ (t : ℕ). o.index < length (get_or lists t [])) (sym same) below))
        (λ (above : length (get_or lists s []) ≤ o.index). inr (same_op o (op s (length (get_or lists s []))) same (omega arith)))
        (cases_lt o.index (length (get_or lists s []))))
        (λ (apart : o.session ≢ s). inl (subst (λ (xs : List A). o.index < length xs) (pushed-other o.session apart) listed))
        (cases_eq o.session s)

    -- the next of the session has an entry
    pub pushed-next : IsListed (pushed lists s x) (op s (length (get_or lists s [])))
    pushed-next = let more = pushed-length in omega arith

    pub pushed-value_old : (o : OpId) (d : A) → IsListed lists o
        → get_or (get_or (pushed lists s x) o.session []) o.index d ≡ get_or (get_or lists o.session []) o.index d
    pushed-value_old o d listed = ⊎_elim
        (λ (same : o.session ≡ s).
        let before = subst (λ (t : ℕ). o.index < length (get_or lists t [])) same listed in
        let here : get_or (get_or (pushed lists s x) s []) o.index d ≡ get_or (get_or lists s []) o.index d =
        ap (λ (xs : List A). get_or xs o.index d) pushed-same ∙ get_or_append_left (get_or lists s []) (x ∷ []) d o.index before in
        subst (λ (t : ℕ). get_or (get_or (pushed lists s x) t []) o.index d ≡ get_or (get_or lists t []) o.index d) (sym same) here)
        (λ (apart : o.session ≢ s). ap (λ (xs : List A). get_or xs o.index d) (pushed-other o.session apart))
        (cases_eq o.session s)

    pub pushed-value_next : (d : A) → get_or (get_or (pushed lists s x) s []) (length (get_or lists s [])) d ≡ x
    pushed-value_next d =
        let there : length (get_or lists s []) ≡ length (get_or lists s []) + 0 = omega arith in
        ap (λ (xs : List A). get_or xs (length (get_or lists s [])) d) pushed-same
        ∙ ap (λ (i : ℕ). get_or (get_or lists s [] ++ x ∷ []) i d) there
        ∙ get_or-append-add (get_or lists s []) (x ∷ []) 0 d

    -- one more in all
    pub pushed-sum : sum_by (λ (xs : List A). length xs) (pushed lists s x) ≡ sum_by (λ (xs : List A). length xs) lists + 1
    pushed-sum =
        let change = sum_by-set (λ (xs : List A). length xs) lists s (get_or lists s [] ++ x ∷ []) [] inside in
        let more = length-append (get_or lists s []) (x ∷ []) in
        omega arith

module _ {A B : Type 0} where
  -- lists that are nowhere longer have no more entries
  pub sum-within : (xs : List (List A)) (ys : List (List B)) → length xs ≡ length ys
      → ((s : ℕ) → length (get_or xs s []) ≤ length (get_or ys s []))
      → sum_by (λ (x : List A). length x) xs ≤ sum_by (λ (y : List B). length y) ys
  sum-within [] ys same within = omega arith
  sum-within (x ∷ xs) [] same within = absurd (omega arith)
  sum-within (x ∷ xs) (y ∷ ys) same within =
      let rest = sum-within xs ys (omega arith) (λ s. within (suc s)) in
      let first = within zero in
      let left = sum_by-cons (λ (x : List A). length x) x xs in
      let right = sum_by-cons (λ (y : List B). length y) y ys in
      omega arith

  -- and fewer, where one is shorter
  pub sum-below : (xs : List (List A)) (ys : List (List B)) → length xs ≡ length ys
      → ((s : ℕ) → length (get_or xs s []) ≤ length (get_or ys s []))
      → (s : ℕ) → length (get_or xs s []) < length (get_or ys s [])
      → sum_by (λ (x : List A). length x) xs < sum_by (λ (y : List B). length y) ys
  sum-below xs [] same within s below = absurd (omega arith)
  sum-below [] (y ∷ ys) same within s below = absurd (omega arith)
  sum-below (x ∷ xs) (y ∷ ys) same within zero below =
      let rest = sum-within xs ys (omega arith) (λ s. within (suc s)) in
      let left = sum_by-cons (λ (x : List A). length x) x xs in
      let right = sum_by-cons (λ (y : List B). length y) y ys in
      omega arith
  sum-below (x ∷ xs) (y ∷ ys) same within (suc s) below =
      let rest = sum-below xs ys (omega arith) (λ s. within (suc s)) s below in
      let first = within zero in
      let left = sum_by-cons (λ (x : List A). length x) x xs in
      let right = sum_by-cons (λ (y : List B). length y) y ys in
      omega arith
