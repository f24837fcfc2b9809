-- What is picked out of a list and of its fronts: how many, and at which places.
use Rattle.std.proofs.Common.{◌≡◌, ℕ, zero, suc, ◌<◌, ◌≤◌, List, [], ◌∷◌, ◌++◌, length, take, drop, refl, sym, ◌∙◌, ap, subst, arith, take-append-drop, take_all}
use Rattle.std.specs.Prelude.{Option, Some, None, slice_get}
use Rattle.std.specs.List.{filter_map, cons_option}
use Rattle.std.proofs.lemmas.List.Elements.{filter_map-append}
use Rattle.std.proofs.lemmas.Option.{slice_get_within}

module _ {X : Type 0} where
  -- what stands in the front of a list stands in the list, and stands in its front if it comes before its end
  pub take-from : (n : ℕ) (xs : List X) (i : ℕ) (x : X) → slice_get (take n xs) i ≡ Some x → (i < n) × (slice_get xs i ≡ Some x)
  take-from zero xs zero x e = absurd (cc)
  take-from zero xs (suc i) x e = absurd (cc)
  take-from (suc n) [] zero x e = absurd (cc)
  take-from (suc n) [] (suc i) x e = absurd (cc)
  take-from (suc n) (y ∷ xs) zero x e = (omega arith, e)
  take-from (suc n) (y ∷ xs) (suc i) x e = let r = take-from n xs i x e in let l : i < n = r.0 in (omega arith, r.1)

  pub take-stands : (n : ℕ) (xs : List X) (i : ℕ) (x : X) → i < n → slice_get xs i ≡ Some x → slice_get (take n xs) i ≡ Some x
  take-stands zero xs i x l e = absurd (let l' : i < 0 = l in omega arith)
  take-stands (suc n) [] i x l e = e
  take-stands (suc n) (y ∷ xs) zero x l e = e
  take-stands (suc n) (y ∷ xs) (suc i) x l e = take-stands n xs i x (let l' : suc i < suc n = l in omega arith) e

module _ {Y : Type 0} where
  cons_more : (o : Option Y) (xs ys : List Y) → length xs ≤ length ys → length (cons_option o xs) ≤ length (cons_option o ys)
  cons_more None xs ys l = l
  cons_more (Some y) xs ys l = let l' : length xs ≤ length ys = l in omega arith

  cons_less : (o : Option Y) (xs ys : List Y) → length xs < length ys → length (cons_option o xs) < length (cons_option o ys)
  cons_less None xs ys l = l
  cons_less (Some y) xs ys l = let l' : length xs < length ys = l in omega arith

  cons_some : (o : Option Y) (y : Y) (xs : List Y) → o ≡ Some y → 0 < length (cons_option o xs)
  cons_some None y xs e = absurd (cc)
  cons_some (Some z) y xs e = omega arith

module _ {X Y : Type 0} (f : X → Option Y) where
  -- from a longer front at least as many are picked
  pub picked_more : (xs : List X) (i j : ℕ) → i ≤ j → length (filter_map f (take i xs)) ≤ length (filter_map f (take j xs))
  picked_more xs zero j l = omega arith
  picked_more [] (suc i) zero l = absurd (let l' : suc i ≤ 0 = l in omega arith)
  picked_more [] (suc i) (suc j) l = omega arith
  picked_more (x ∷ xs) (suc i) zero l = absurd (let l' : suc i ≤ 0 = l in omega arith)
  picked_more (x ∷ xs) (suc i) (suc j) l = cons_more (f x) (filter_map f (take i xs)) (filter_map f (take j xs)) (picked_more xs i j (let l' : suc i ≤ suc j = l in omega arith))

  -- and more, if one that is picked stands between
  pub picked_between : (xs : List X) (i j : ℕ) (x : X) (y : Y) → slice_get xs i ≡ Some x → f x ≡ Some y → i < j → length (filter_map f (take i xs)) < length (filter_map f (take j xs))
  picked_between xs i zero x y e p l = absurd (let l' : i < 0 = l in omega arith)
  picked_between [] zero (suc j) x y e p l = absurd (cc)
  picked_between [] (suc i) (suc j) x y e p l = absurd (cc)
  picked_between (z ∷ xs) zero (suc j) x y e p l = let same : z ≡ x = cc in cons_some (f z) y (filter_map f (take j xs)) (ap f same ∙ p)
  picked_between (z ∷ xs) (suc i) (suc j) x y e p l = cons_less (f z) (filter_map f (take i xs)) (filter_map f (take j xs)) (picked_between xs i j x y e p (let l' : suc i < suc j = l in omega arith))

  -- the same of the whole list
  pub picked_whole : (xs : List X) (i : ℕ) → length (filter_map f (take i xs)) ≤ length (filter_map f xs)
  picked_whole [] zero = omega arith
  picked_whole [] (suc i) = omega arith
  picked_whole (x ∷ xs) zero = omega arith
  picked_whole (x ∷ xs) (suc i) = cons_more (f x) (filter_map f (take i xs)) (filter_map f xs) (picked_whole xs i)

  pub picked_before : (xs : List X) (i : ℕ) (x : X) (y : Y) → slice_get xs i ≡ Some x → f x ≡ Some y → length (filter_map f (take i xs)) < length (filter_map f xs)
  picked_before xs i x y e p =
      let w : i < length xs = slice_get_within xs i x e in
      subst (λ (ys : List X). length (filter_map f (take i xs)) < length (filter_map f ys)) (take_all (length xs) xs (omega arith)) (picked_between xs i (length xs) x y e p w)

  -- what is picked from a front is a front of what is picked
  pub picked_front : (xs : List X) (i : ℕ) → filter_map f (take i xs) ++ filter_map f (drop i xs) ≡ filter_map f xs
  picked_front xs i = sym (filter_map-append f (take i xs) (drop i xs)) ∙ ap (filter_map f) (take-append-drop i xs)

  -- the n-th that is picked stands at some place
  abbrev pub IsPickedAt : List X → ℕ → Y → Type 0
  IsPickedAt xs n y = (i : ℕ) × (x : X) × (slice_get xs i ≡ Some x) × (f x ≡ Some y) × (length (filter_map f (take i xs)) ≡ n)

  picked_behind : (x : X) (xs : List X) (y : Y) → ((n : ℕ) → slice_get (filter_map f xs) n ≡ Some y → IsPickedAt xs n y)
      → (o : Option Y) → f x ≡ o → (n : ℕ) → slice_get (cons_option o (filter_map f xs)) n ≡ Some y → IsPickedAt (x ∷ xs) n y
  picked_behind x xs y rest None p n d = let r = rest n d in (suc r.0, r.1, r.2, r.3, ap (λ (o : Option Y). length (cons_option o (filter_map f (take r.0 xs)))) p ∙ r.4)
  picked_behind x xs y rest (Some z) p zero d = (0, x, refl, p ∙ d, refl)
  picked_behind x xs y rest (Some z) p (suc n) d = let r = rest n d in (suc r.0, r.1, r.2, r.3, ap (λ (o : Option Y). length (cons_option o (filter_map f (take r.0 xs)))) p ∙ ap suc r.4)

  pub picked_at : (xs : List X) (n : ℕ) (y : Y) → slice_get (filter_map f xs) n ≡ Some y → IsPickedAt xs n y
  picked_at [] zero y e = absurd (cc)
  picked_at [] (suc n) y e = absurd (cc)
  picked_at (x ∷ xs) n y e = picked_behind x xs y (λ m d. picked_at xs m y d) (f x) refl n e

  -- what is picked from a place stands behind what is picked before it
  pub picked_stands : (xs : List X) (i : ℕ) (x : X) (y : Y) → slice_get xs i ≡ Some x → f x ≡ Some y → slice_get (filter_map f xs) (length (filter_map f (take i xs))) ≡ Some y
  picked_stands [] zero x y e p = absurd (cc)
  picked_stands [] (suc i) x y e p = absurd (cc)
  picked_stands (z ∷ xs) zero x y e p = let same : z ≡ x = cc in subst (λ (o : Option Y). slice_get (cons_option o (filter_map f xs)) 0 ≡ Some y) (sym (ap f same ∙ p)) refl
  picked_stands (z ∷ xs) (suc i) x y e p = by (f z) (picked_stands xs i x y e p)
    where
      by : (o : Option Y) → slice_get (filter_map f xs) (length (filter_map f (take i xs))) ≡ Some y → slice_get (cons_option o (filter_map f xs)) (length (cons_option o (filter_map f (take i xs)))) ≡ Some y
      by None d = d
      by (Some w) d = d
