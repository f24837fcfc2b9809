-- What is picked out of a list with one item more.
use Rattle.std.proofs.Common.{◌≡◌, ℕ, ◌==◌, List, [], ◌∷◌, ◌++◌, refl, ◌∙◌, ap, eqb-true, eq-eqb}
use Rattle.std.specs.Prelude.{Bool, true, false, Option, Some, None, if◌then◌else◌}
use Rattle.std.specs.List.{filter_map, cons_option}
use Rattle.std.proofs.lemmas.List.{append-nil}
use Rattle.std.proofs.lemmas.List.Elements.{filter_map-append}
use Rattle.model_history.specs.declared.op_id.OpId.{OpId}
use Rattle.live_cut_plan.specs.declared.cell.Cell.{Cell}
use Rattle.live_cut_plan.specs.Plans.{Look}
use Rattle.live_seals.specs.Runs.{Event, call_of, return_of, look_of, begun, ended, looks}
use Rattle.live_seals.specs.Runs.Event.{Began, Ended, Looked}

module _ {X Y : Type 0} (f : X → Option Y) (xs : List X) (x : X) where
  pub picked_not : f x ≡ None → filter_map f (xs ++ x ∷ []) ≡ filter_map f xs
  picked_not h = filter_map-append f xs (x ∷ []) ∙ (ap (λ (o : Option Y). filter_map f xs ++ cons_option o []) h ∙ append-nil (filter_map f xs))

  pub picked_too : (y : Y) → f x ≡ Some y → filter_map f (xs ++ x ∷ []) ≡ filter_map f xs ++ y ∷ []
  picked_too y h = filter_map-append f xs (x ∷ []) ∙ ap (λ (o : Option Y). filter_map f xs ++ cons_option o []) h

-- of a test that a number is another
pub if_same : {Y : Type 0} (a b : ℕ) (y : Y) → a ≡ b → (if a == b then Some y else None) ≡ Some y
if_same {Y} a b y e = ap (λ (t : Bool). if t then Some y else None) (eq-eqb a b e)

pub if_other : {Y : Type 0} (a b : ℕ) (y : Y) → (a ≡ b → ⊥) → (if a == b then Some y else None) ≡ None
if_other {Y} a b y ne = by (a == b) refl
  where
    by : (t : Bool) → (a == b) ≡ t → (if t then Some y else None) ≡ None
    by true e = absurd (ne (eqb-true a b e))
    by false e = refl

module _ {C R : Type 0} (es : List (Event C R)) where
  -- a call
  module _ (o : OpId) (c : C) where
    pub begun_here : (s : ℕ) → o.session ≡ s → begun s (es ++ Began o c ∷ []) ≡ begun s es ++ c ∷ []
    begun_here s e = picked_too (call_of s) es (Began o c) c (if_same o.session s c e)

    pub begun_elsewhere : (s : ℕ) → (o.session ≡ s → ⊥) → begun s (es ++ Began o c ∷ []) ≡ begun s es
    begun_elsewhere s ne = picked_not (call_of s) es (Began o c) (if_other o.session s c ne)

  -- a return
  module _ (o : OpId) (r : R) where
    pub ended_here : (s : ℕ) → o.session ≡ s → ended s (es ++ Ended o r ∷ []) ≡ ended s es ++ r ∷ []
    ended_here s e = picked_too (return_of s) es (Ended o r) r (if_same o.session s r e)

    pub ended_elsewhere : (s : ℕ) → (o.session ≡ s → ⊥) → ended s (es ++ Ended o r ∷ []) ≡ ended s es
    ended_elsewhere s ne = picked_not (return_of s) es (Ended o r) (if_other o.session s r ne)

  -- a look
  module _ (y : ℕ) (cell : Cell) (full : Bool) where
    pub looks_here : (z : ℕ) → y ≡ z → looks z (es ++ Looked y cell full ∷ []) ≡ looks z es ++ (cell, full) ∷ []
    looks_here z e = let look : Look = (cell, full) in picked_too (look_of z) es (Looked y cell full) look (if_same y z look e)

    pub looks_elsewhere : (z : ℕ) → (y ≡ z → ⊥) → looks z (es ++ Looked y cell full ∷ []) ≡ looks z es
    looks_elsewhere z ne = let look : Look = (cell, full) in picked_not (look_of z) es (Looked y cell full) (if_other y z look ne)
