-- What may stand at a place goes by the events before it.
use Rattle.std.proofs.Common.{◌≡◌, ℕ, zero, suc, ◌+◌, ◌<◌, ◌≤◌, List, [], ◌∷◌, ◌++◌, length, refl, sym, subst, ◌∙◌, ⊎_elim, arith}
use Rattle.std.specs.Prelude.{Some, slice_get}
use Rattle.std.proofs.lemmas.Option.{same_Some, slice_get_within}
use Rattle.log_events.specs.declared.event.ClientCall.{ClientCall}
use Rattle.log_events.specs.declared.event.Ending.{Ending}
use Rattle.log_events.specs.declared.event.Event.{Event}
use Rattle.log_events.specs.declared.event.Event.TheVariants.{Starts, Begins, Ends}
use Rattle.log_events.specs.Events.{IsOpen, IsEnded, MayStand, IsAllowed}
use Rattle.log_events.proofs.ListPlaces.{append-cases}
use Rattle.log_events.specs.Pending.{MayFollow}

-- two lists have the same first n events
abbrev AreSame : ℕ → List Event → List Event → Type 0
AreSame n es fs = (i : ℕ) → i < n → slice_get es i ≡ slice_get fs i

flipped : (n : ℕ) (es fs : List Event) → AreSame n es fs → AreSame n fs es
flipped n es fs same i below = sym (same i below)

IsOpen-same : (n : ℕ) (es fs : List Event) → AreSame n es fs → (c : ℕ) (call : ClientCall) (i j : ℕ) → j ≤ n → IsOpen es c call i j
    → IsOpen fs c call i j
IsOpen-same n es fs same c call i j within is_open = let earlier = is_open.earlier in record {
  begun = sym (same i (omega arith)) ∙ is_open.begun;
  earlier = is_open.earlier;
  unended = λ k ending above before at. is_open.unended k ending above before (same k (omega arith) ∙ at);
}

MayStand-same : (n : ℕ) (es fs : List Event) → AreSame n es fs → (j : ℕ) (e : Event) → j ≤ n → MayStand es j e → MayStand fs j e
MayStand-same n es fs same j (Starts x v) within (none, rising) = (
  λ i c call earlier at. none i c call earlier (same i (omega arith) ∙ at),
  λ i y u earlier at. rising i y u earlier (same i (omega arith) ∙ at),
)
MayStand-same n es fs same j (Begins c call) within free =
    λ i other is_open. free i other (IsOpen-same n fs es (flipped n es fs same) c other i j within is_open)
MayStand-same n es fs same j (Ends c ending) within (i, call, is_open, fits) = (i, call, IsOpen-same n es fs same c call i j within is_open, fits)

pub slice_get-append : {X : Type 0} (xs ys : List X) (i : ℕ) → i < length xs → slice_get xs i ≡ slice_get (xs ++ ys) i
slice_get-append [] ys i below = absurd (omega arith)
slice_get-append (x ∷ xs) ys zero below = refl
slice_get-append (x ∷ xs) ys (suc i) below = slice_get-append xs ys i (omega arith)

pub slice_get-append_at : {X : Type 0} (xs : List X) (x : X) (ys : List X) → slice_get (xs ++ x ∷ ys) (length xs) ≡ Some x
slice_get-append_at [] x ys = refl
slice_get-append_at (y ∷ xs) x ys = slice_get-append_at xs x ys

-- what may come next, by the events that there are
pub MayFollow-from : (es : List Event) (e : Event) → MayStand es (length es) e → MayFollow es e
MayFollow-from es e may = MayStand-same (length es) es (es ++ e ∷ []) (slice_get-append es (e ∷ [])) (length es) e (omega arith) may

pub MayStand-from : (es : List Event) (e : Event) → MayFollow es e → MayStand es (length es) e
MayStand-from es e may =
    MayStand-same (length es) (es ++ e ∷ []) es (flipped (length es) es (es ++ e ∷ []) (slice_get-append es (e ∷ []))) (length es) e (omega arith) may

pub IsOpen-push : (es : List Event) (e : Event) (c : ℕ) (call : ClientCall) (i j : ℕ) → j ≤ length es → IsOpen es c call i j
    → IsOpen (es ++ e ∷ []) c call i j
IsOpen-push es e = IsOpen-same (length es) es (es ++ e ∷ []) (slice_get-append es (e ∷ []))

pub IsEnded-push : (es : List Event) (e : Event) (c : ℕ) (call : ClientCall) (i j : ℕ) (ending : Ending) → IsEnded es c call i j ending
    → IsEnded (es ++ e ∷ []) c call i j ending
IsEnded-push es e c call i j ending end =
    let within = slice_get_within es j (Ends c ending) end.ends in record {
      was_open = IsOpen-push es e c call i j (omega arith) end.was_open;
      ends = sym (slice_get-append es (e ∷ []) j within) ∙ end.ends;
    }

pub IsAllowed-push : (es : List Event) (e : Event) → IsAllowed es → MayFollow es e → IsAllowed (es ++ e ∷ [])
IsAllowed-push es e allowed may j f at = ⊎_elim
    (λ (first : slice_get es j ≡ Some f).
    let within = slice_get_within es j f first in
    MayStand-same (length es) es (es ++ e ∷ []) (slice_get-append es (e ∷ [])) j f (omega arith) (allowed j f first))
    (λ (second : (m : ℕ) × (j ≡ length es + m) × (slice_get (e ∷ []) m ≡ Some f)). last second.0 second.1 second.2)
    (append-cases es (e ∷ []) j f at)
  where
    last : (m : ℕ) → j ≡ length es + m → slice_get (e ∷ []) m ≡ Some f → MayStand (es ++ e ∷ []) j f
    last zero place same =
        let place_is : length es ≡ j = omega arith in
        subst (λ (g : Event). MayStand (es ++ e ∷ []) j g) (same_Some _ _ same) (subst (λ (k : ℕ). MayStand (es ++ e ∷ []) k e) place_is may)
    last (suc m) place same = absurd cc
