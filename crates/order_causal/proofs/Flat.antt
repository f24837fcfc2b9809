-- Lists that stand in one list.
use Rattle.std.specs.Prelude.{◌≡◌, ◌≢◌, ℕ, ◌+◌, ◌-◌, ◌<◌, ◌≤◌, List, [], ◌∷◌, ◌++◌, length}
use Rattle.std.specs.List.{slice_range}
use Rattle.std.proofs.Common.{zero, suc, arith, get_or, set, take, drop, sym, ap, subst, ◌∙◌, refl, length-append, length-drop}
use Rattle.std.proofs.lemmas.List.{take-append-le, drop-append-le, take_all, drop-set-lt, drop-set-add, take-set-le, length-take}
use Rattle.std.proofs.Math.Seq.{drop-append_seam, take-set-lt}
use Rattle.order_causal.specs.Steps.FlatRows.{cut, start_of, RisesTo}

pub start-before : (from : ℕ) (ends : List ℕ) (i d : ℕ) → i < length ends → start_of from ends (suc i) ≡ get_or ends i d
start-before from [] i d below = absurd (omega arith)
start-before from (end ∷ ends) zero d below = refl
start-before from (end ∷ ends) (suc i) d below = start-before end ends i d (omega arith)

-- a part that is not the first begins where the one before it ends
pub start-later : (ends : List ℕ) (i d : ℕ) → i ≢ 0 → i < length ends → start_of 0 ends i ≡ get_or ends (i - 1) d
start-later ends zero d later below = absurd (later refl)
start-later ends (suc i) d later below =
    let place : i ≡ suc i - 1 = omega arith in
    start-before 0 ends i d (omega arith) ∙ ap (λ (n : ℕ). get_or ends n d) place

rises-le : (from : ℕ) (ends : List ℕ) (last : ℕ) → RisesTo from ends last → from ≤ last
rises-le from [] last rises = omega arith
rises-le from (end ∷ ends) last rises = let rest = rises-le end ends last rises.1 in let first = rises.0 in omega arith

-- each part lies in the list
pub rises-start : (from : ℕ) (ends : List ℕ) (last : ℕ) → RisesTo from ends last → (i d : ℕ) → i < length ends → start_of from ends i ≤ get_or ends i d
rises-start from [] last rises i d below = absurd (omega arith)
rises-start from (end ∷ ends) last rises zero d below = rises.0
rises-start from (end ∷ ends) last rises (suc i) d below = rises-start end ends last rises.1 i d (omega arith)

pub rises-end : (from : ℕ) (ends : List ℕ) (last : ℕ) → RisesTo from ends last → (i d : ℕ) → i < length ends → get_or ends i d ≤ last
rises-end from [] last rises i d below = absurd (omega arith)
rises-end from (end ∷ ends) last rises zero d below = rises-le end ends last rises.1
rises-end from (end ∷ ends) last rises (suc i) d below = rises-end end ends last rises.1 i d (omega arith)

pub rises-push : (from : ℕ) (ends : List ℕ) (last next : ℕ) → RisesTo from ends last → last ≤ next → RisesTo from (ends ++ next ∷ []) next
rises-push from [] last next rises up_to = (omega arith, refl)
rises-push from (end ∷ ends) last next rises up_to = (rises.0, rises-push end ends last next rises.1 up_to)

module _ {A : Type 0} where
  -- as many parts as ends
  pub cut-length : (xs : List A) (from : ℕ) (ends : List ℕ) → length (cut xs from ends) ≡ length ends
  cut-length xs from [] = refl
  cut-length xs from (end ∷ ends) = ap suc (cut-length xs end ends)

  -- the i-th part
  pub cut-get : (xs : List A) (from : ℕ) (ends : List ℕ) (i d : ℕ) → i < length ends
      → get_or (cut xs from ends) i [] ≡ slice_range xs (start_of from ends i) (get_or ends i d)
  cut-get xs from [] i d below = absurd (omega arith)
  cut-get xs from (end ∷ ends) zero d below = refl
  cut-get xs from (end ∷ ends) (suc i) d below = cut-get xs end ends i d (omega arith)

  range-append : (xs ys : List A) (from end : ℕ) → from ≤ end → end ≤ length xs → slice_range (xs ++ ys) from end ≡ slice_range xs from end
  range-append xs ys from end up_to within =
      let rest = drop-append-le from xs ys (omega arith) in
      let fits : end - from ≤ length (drop from xs) = let len = length-drop from xs in omega arith in
      ap (λ (zs : List A). take (end - from) zs) rest ∙ take-append-le (end - from) (drop from xs) ys fits

  range-last : (xs ys : List A) → slice_range (xs ++ ys) (length xs) (length (xs ++ ys)) ≡ ys
  range-last xs ys =
      let count : length (xs ++ ys) - length xs ≡ length ys = let len = length-append xs ys in omega arith in
      ap (λ (zs : List A). take (length (xs ++ ys) - length xs) zs) (drop-append_seam xs ys)
      ∙ ap (λ (n : ℕ). take n ys) count ∙ take_all (length ys) ys (omega arith)

  -- one part more, at the end
  pub cut-push : (xs ys : List A) (from : ℕ) (ends : List ℕ) → RisesTo from ends (length xs)
      → cut (xs ++ ys) from (ends ++ length (xs ++ ys) ∷ []) ≡ cut xs from ends ++ ys ∷ []
  cut-push xs ys from [] rises =
      ap (λ (zs : List A). zs ∷ []) (ap (λ (n : ℕ). slice_range (xs ++ ys) n (length (xs ++ ys))) rises ∙ range-last xs ys)
  cut-push xs ys from (end ∷ ends) rises =
      let first = range-append xs ys from end rises.0 (rises-le end ends (length xs) rises.1) in
      let rest = cut-push xs ys end ends rises.1 in
      λ j. first j ∷ rest j

  -- what `push` leaves
  pub pushed-rows : (xs ys zs : List A) (ends after : List ℕ) (n : ℕ) → RisesTo 0 ends (length xs) → zs ≡ xs ++ ys → n ≡ length zs → after ≡ ends ++ n ∷ []
      → cut zs 0 after ≡ cut xs 0 ends ++ ys ∷ []
  pushed-rows xs ys zs ends after n rises items len places =
      let end : n ≡ length (xs ++ ys) = len ∙ ap (λ (ws : List A). length ws) items in
      let all : after ≡ ends ++ length (xs ++ ys) ∷ [] = places ∙ ap (λ (m : ℕ). ends ++ m ∷ []) end in
      (λ j. cut (items j) 0 (all j)) ∙ cut-push xs ys 0 ends rises

  pub pushed-rises : (xs ys zs : List A) (ends after : List ℕ) (n : ℕ) → RisesTo 0 ends (length xs) → zs ≡ xs ++ ys → n ≡ length zs → after ≡ ends ++ n ∷ []
      → RisesTo 0 after (length zs)
  pushed-rises xs ys zs ends after n rises items len places =
      let longer : length xs ≤ n = let whole = ap (λ (ws : List A). length ws) items in let parts = length-append xs ys in omega arith in
      subst (λ (m : ℕ). RisesTo 0 after m) len (subst (λ (es : List ℕ). RisesTo 0 es n) (sym places) (rises-push 0 ends (length xs) n rises longer))

-- a part begins behind where the first one does
pub start-from : (from : ℕ) (ends : List ℕ) (last : ℕ) → RisesTo from ends last → (i : ℕ) → from ≤ start_of from ends i
start-from from ends last rises zero = omega arith
start-from from [] last rises (suc i) = omega arith
start-from from (end ∷ ends) last rises (suc i) =
    let rest = start-from end ends last rises.1 i in
    let first = rises.0 in
    omega arith

module _ {A : Type 0} where
  -- an item before where the parts begin is in none of them
  pub cut-set_before : (xs : List A) (from : ℕ) (ends : List ℕ) (last n : ℕ) (x : A) → RisesTo from ends last → n < from
      → cut (set xs n x) from ends ≡ cut xs from ends
  cut-set_before xs from [] last n x rises before = refl
  cut-set_before xs from (end ∷ ends) last n x rises before =
      let up = rises.0 in
      let first = ap (λ (zs : List A). take (end - from) zs) (drop-set-lt from xs n x before) in
      let rest = cut-set_before xs end ends last n x rises.1 (omega arith) in
      λ j. first j ∷ rest j

  -- an item of a part
  range-set : (xs : List A) (from end j : ℕ) (x : A) → from + j < end → slice_range (set xs (from + j) x) from end ≡ set (slice_range xs from end) j x
  range-set xs from end j x inside =
      ap (λ (zs : List A). take (end - from) zs) (drop-set-add from xs j x) ∙ take-set-lt (end - from) (drop from xs) j x (omega arith)

  -- an item behind a part
  range-set_behind : (xs : List A) (from end n : ℕ) (x : A) → from ≤ end → end ≤ n → slice_range (set xs n x) from end ≡ slice_range xs from end
  range-set_behind xs from end n x up behind =
      let place : n ≡ from + (n - from) = omega arith in
      ap (λ (m : ℕ). slice_range (set xs m x) from end) place
      ∙ ap (λ (zs : List A). take (end - from) zs) (drop-set-add from xs (n - from) x)
      ∙ take-set-le (end - from) (drop from xs) (n - from) x (omega arith)

  -- what `set` leaves
  pub cut-set : (xs : List A) (from : ℕ) (ends : List ℕ) (last i j : ℕ) (x : A) → RisesTo from ends last → i < length ends
      → start_of from ends i + j < get_or ends i 0
      → cut (set xs (start_of from ends i + j) x) from ends ≡ set (cut xs from ends) i (set (get_or (cut xs from ends) i []) j x)
  cut-set xs from [] last i j x rises exists inside = absurd (omega arith)
  cut-set xs from (end ∷ ends) last zero j x rises exists inside =
      let first = range-set xs from end j x inside in
      let rest = cut-set_before xs end ends last (from + j) x rises.1 inside in
      λ k. first k ∷ rest k
  cut-set xs from (end ∷ ends) last (suc i) j x rises exists inside =
      let start = start-from end ends last rises.1 i in
      let first = range-set_behind xs from end (start_of end ends i + j) x rises.0 (omega arith) in
      let rest = cut-set xs end ends last i j x rises.1 (omega arith) inside in
      λ k. first k ∷ rest k

  -- an item of the i-th part is before where it ends
  pub inside-part : (xs : List A) (ends : List ℕ) (i j : ℕ) → i < length ends → j < length (get_or (cut xs 0 ends) i [])
      → start_of 0 ends i + j < get_or ends i 0
  inside-part xs ends i j exists inside =
      let part = ap (λ (zs : List A). length zs) (cut-get xs 0 ends i 0 exists) in
      let size = length-take (get_or ends i 0 - start_of 0 ends i) (drop (start_of 0 ends i) xs) in
      omega arith
