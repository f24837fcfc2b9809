-- One more element of a list in a loop.
use Rattle.std.proofs.Common.{◌≡◌, ℕ, ◌+◌, ◌<◌, Bool, true, false, cond, List, [], ◌∷◌, ◌++◌, length, take, get_or, refl, ap, sym, ◌∙◌}
use Rattle.std.specs.Prelude.{Option, Some, None, filter, filter_map, option_map}
use Rattle.std.specs.List.{cons_option}
use Rattle.std.specs.Option.{is_some}
use Rattle.std.proofs.lemmas.List.{append-nil, take_more}
use Rattle.std.proofs.lemmas.List.Elements.{filter_map-append, filter_more}

module _ {X Y : Type 0} (f : X → Option Y) (xs : List X) (i : ℕ) (x : X) where
  -- an element that gives something
  pub filter_map_more-some : i < length xs → x ≡ get_or xs i x → (y : Y) → f x ≡ Some y
      → filter_map f (take (i + 1) xs) ≡ filter_map f (take i xs) ++ y ∷ []
  filter_map_more-some within read y is =
      ap (filter_map f) (take_more xs i x within ∙ ap (λ (z : X). take i xs ++ z ∷ []) (sym read)) ∙ filter_map-append f (take i xs) (x ∷ [])
      ∙ ap (λ (o : Option Y). filter_map f (take i xs) ++ cons_option o []) is

  -- an element that gives nothing
  pub filter_map_more-none : i < length xs → x ≡ get_or xs i x → f x ≡ None → filter_map f (take (i + 1) xs) ≡ filter_map f (take i xs)
  filter_map_more-none within read is =
      ap (filter_map f) (take_more xs i x within ∙ ap (λ (z : X). take i xs ++ z ∷ []) (sym read)) ∙ filter_map-append f (take i xs) (x ∷ [])
      ∙ ap (λ (o : Option Y). filter_map f (take i xs) ++ cons_option o []) is ∙ append-nil (filter_map f (take i xs))

module _ {X : Type 0} (p : X → Bool) (xs : List X) (i : ℕ) (x : X) where
  filter_one : i < length xs → x ≡ get_or xs i x → filter p (take (i + 1) xs) ≡ filter p (take i xs) ++ cond (p x) (x ∷ []) []
  filter_one within read = filter_more p xs i x within ∙ ap (λ (z : X). filter p (take i xs) ++ cond (p z) (z ∷ []) []) (sym read)

  -- an element that passes
  pub filter_more-some : i < length xs → x ≡ get_or xs i x → p x ≡ true → filter p (take (i + 1) xs) ≡ filter p (take i xs) ++ x ∷ []
  filter_more-some within read is = filter_one within read ∙ ap (λ (b : Bool). filter p (take i xs) ++ cond b (x ∷ []) []) is

  -- an element that does not pass
  pub filter_more-none : i < length xs → x ≡ get_or xs i x → p x ≡ false → filter p (take (i + 1) xs) ≡ filter p (take i xs)
  filter_more-none within read is =
      filter_one within read ∙ ap (λ (b : Bool). filter p (take i xs) ++ cond b (x ∷ []) []) is ∙ append-nil (filter p (take i xs))

-- an option that is no `Some`
pub None-from : {Y : Type 0} (o : Option Y) → ((y : Y) → o ≡ Some y → ⊥) → o ≡ None
None-from None other = refl
None-from (Some y) other = absurd (other y refl)

-- a constant in place of what an option has
pub option_map-some : {X Y : Type 0} (y : Y) (o : Option X) → is_some o ≡ true → option_map (λ _. y) o ≡ Some y
option_map-some y None some = absurd cc
option_map-some y (Some x) some = refl

pub option_map-none : {X Y : Type 0} (y : Y) (o : Option X) → is_some o ≡ false → option_map (λ _. y) o ≡ None
option_map-none y None some = refl
option_map-none y (Some x) some = absurd cc
