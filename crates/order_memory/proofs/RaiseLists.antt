-- Lists of raises.
use Rattle.std.specs.Prelude.{◌≡◌, ◌≢◌, ℕ, ◌+◌, ◌-◌, ◌<◌, ◌≤◌, ◌∷◌, ◌++◌, [], List, Some, length, slice_get}
use Rattle.std.proofs.Common.{zero, suc, arith, refl, sym, ap, subst, ◌∙◌, ⊎_elim, length-append, append_assoc}
use Rattle.std.proofs.lemmas.Bool.{cases_eq}
use Rattle.model_history.specs.declared.op_id.OpId.{OpId}
use Rattle.order_memory.specs.declared.growing_order.Cause.{Cause}
use Rattle.order_memory.specs.declared.growing_order.Cause.TheVariants.{Through}
use Rattle.order_memory.specs.declared.growing_order.Raise.{Raise}
use Rattle.order_memory.specs.Steps.GrowthSteps.{cause_behind, raises_from}
use Rattle.order_causal.specs.Orders.{op}

-- what stands in the first of two lists, and in the second, stands in both together
pub at-left : {X : Type 0} (xs ys : List X) (k : ℕ) (x : X) → slice_get xs k ≡ Some x → slice_get (xs ++ ys) k ≡ Some x
at-left [] ys k x at = absurd cc
at-left (y ∷ xs) ys zero x at = at
at-left (y ∷ xs) ys (suc k) x at = at-left xs ys k x at

pub at-right : {X : Type 0} (xs ys : List X) (k j : ℕ) (x : X) → k ≡ length xs + j → slice_get ys j ≡ Some x → slice_get (xs ++ ys) k ≡ Some x
at-right [] ys k j x is at = let same : k ≡ j = omega arith in subst (λ (n : ℕ). slice_get ys n ≡ Some x) (sym same) at
at-right (y ∷ xs) ys zero j x is at = absurd (omega arith)
at-right (y ∷ xs) ys (suc k) j x is at = at-right xs ys k j x (omega arith) at

pub at-last : {X : Type 0} (xs : List X) (x : X) (k : ℕ) → k ≡ length xs → slice_get (xs ++ x ∷ []) k ≡ Some x
at-last xs x k is = at-right xs (x ∷ []) k 0 x (omega arith) refl

module _ (b : OpId) (u c : ℕ) (cause : Cause) where
  -- the n-th of the raises from b on
  abbrev pub raise_behind : ℕ → Raise
  raise_behind n = record { op = op b.session (b.index + n); session = u; count = c; cause = cause_behind cause b n }

  pub raises-length : (n : ℕ) → length (raises_from b u c cause n) ≡ n
  raises-length zero = refl
  raises-length (suc n) =
      let before = raises-length n in
      let more = length-append (raises_from b u c cause n) (raise_behind n ∷ []) in
      omega arith

  pub raises-at : (n j : ℕ) → j < n → slice_get (raises_from b u c cause n) j ≡ Some (raise_behind j)
  raises-at zero j below = absurd (omega arith)
  raises-at (suc n) j below = ⊎_elim
      (λ (last : j ≡ n).
      let size = raises-length n in
      at-last (raises_from b u c cause n) (raise_behind n) j (omega arith) ∙ ap (λ (k : ℕ). Some (raise_behind k)) (sym last))
      (λ (apart : j ≢ n). at-left (raises_from b u c cause n) (raise_behind n ∷ []) j (raise_behind j) (raises-at n j (omega arith)))
      (cases_eq j n)

  -- where one more is noted, one more is raised
  pub raises-next : (i e : ℕ) → b.index ≡ i → i ≤ e → (before now after : List Raise) (named : Cause) → cause_behind cause b (e - i) ≡ named
      → now ≡ before ++ raises_from b u c cause (e - i) → after ≡ now ++ record { op = op b.session e; session = u; count = c; cause = named } ∷ []
      → after ≡ before ++ raises_from b u c cause ((e + 1) - i)
  raises-next i e first from before now after named is same next =
      let last : e ≡ b.index + (e - i) = omega arith in
      let more : suc (e - i) ≡ (e + 1) - i = omega arith in
      let entry : record { op = op b.session e; session = u; count = c; cause = named } ≡ raise_behind (e - i) =
      λ k. record { op = op b.session (last k); session = u; count = c; cause = sym is k } in
      subst (λ (n : ℕ). after ≡ before ++ raises_from b u c cause n) more
      (next ∙ ap (λ (es : List Raise). es ++ record { op = op b.session e; session = u; count = c; cause = named } ∷ []) same
      ∙ append_assoc before (raises_from b u c cause (e - i)) (record { op = op b.session e; session = u; count = c; cause = named } ∷ [])
      ∙ ap (λ (r : Raise). before ++ (raises_from b u c cause (e - i) ++ r ∷ [])) entry)

-- the first names the cause, and those behind it go through it
pub behind-first : (cause : Cause) (first : OpId) (n : ℕ) → n ≡ 0 → cause_behind cause first n ≡ cause
behind-first cause first zero none = refl
behind-first cause first (suc n) none = absurd (omega arith)

pub behind-later : (cause : Cause) (first : OpId) (n : ℕ) → n ≢ 0 → cause_behind cause first n ≡ Through first
behind-later cause first zero some = absurd (some refl)
behind-later cause first (suc n) some = refl
