-- The keys of reads that are left out by a choice, and how many they are.
use Rattle.std.proofs.Common.{◌≡◌, ℕ, suc, ◌<◌, ◌≤◌, Bool, true, false, List, [], ◌∷◌, length, refl, ap, sym, subst, ◌∙◌, ⊎_elim, arith, eq-eqb, eqb-true}
use Rattle.std.specs.Prelude.{◌≢◌, ◌↔◌, ◌==◌, ◌&&◌, cond, Contains, Option, Some, None, filter, slice_get, unwrap_or}
use Rattle.std.specs.List.{cons_option}
use Rattle.std.specs.Option.{is_none}
use Rattle.std.proofs.lemmas.Bool.{cases_eq, cases_lt, ne_eqb}
use Rattle.log_events.specs.declared.event.ClientCall.{ClientCall}
use Rattle.log_events.specs.declared.event.ClientCall.TheVariants.{WriteTo, ReadOf, DeleteOf}
use Rattle.log_events.specs.declared.event.Ending.{Ending}
use Rattle.log_events.specs.declared.event.Ending.TheVariants.{Answered, Got, GotNothing, Failed, Lost}
use Rattle.log_events.specs.declared.event.Event.{Event}
use Rattle.log_events.specs.Events.{Call, run_calls}
use Rattle.log_events.specs.LeftOut.{finds_nothing}
use Rattle.log_events.specs.Steps.Tallies.{IsTally, count_in}
use Rattle.log_events.proofs.CallKindsLaws.{Contains-place, place-Contains}
use Rattle.log_choices.specs.Choices.{Choice}
use Rattle.log_choices.specs.ChosenHistories.{saw}
use Rattle.log_choices.specs.ChosenLeftOut.{AreLeftOutBy, many_left_out_by}
use Rattle.log_choices.specs.Steps.ChosenCalls.{left_out_key, left_out_keys, unseen_key}
use Rattle.log_choices.proofs.MissedKeys.{count-some}

-- what is counted is in the list
count-from : (xs : List ℕ) (x : ℕ) → 0 < count_in xs x → (k : ℕ) × (slice_get xs k ≡ Some x)
count-from [] x some = absurd (omega arith)
count-from (y ∷ xs) x some =
    elim (y == x) as (λ b. (y == x) ≡ b → 0 < length (cond b (y ∷ filter (λ z. z == x) xs) (filter (λ z. z == x) xs)) → (k : ℕ) × (slice_get (y ∷ xs) k ≡ Some x)) [
      | true ↦ λ same _. (0, ap Some (eqb-true y x same))
      | false ↦ λ _ rest. let r = count-from xs x rest in (suc r.0, r.1)
    ] refl some

module _ (x : ℕ) where
  -- an option has x
  abbrev has : Option ℕ → Bool
  has None = false
  has (Some y) = y == x

  count-cons : (o : Option ℕ) (xs : List ℕ) → count_in (cons_option o xs) x ≡ cond (has o) (suc (count_in xs x)) (count_in xs x)
  count-cons None xs = refl
  count-cons (Some y) xs = elim (y == x) as (λ b. length (cond b (y ∷ filter (λ z. z == x) xs) (filter (λ z. z == x) xs))
      ≡ cond b (suc (count_in xs x)) (count_in xs x)) [
        | true ↦ refl
        | false ↦ refl
      ]

  length-cons : (b : Bool) (a : Call) (calls : List Call) → length (cond b (a ∷ calls) calls) ≡ cond b (suc (length calls)) (length calls)
  length-cons true a calls = refl
  length-cons false a calls = refl

  module _ (es : List Event) (f : Choice) where
    -- a call is a read of x that is left out
    abbrev is_left_out : Call → Bool
    is_left_out a = finds_nothing x a.call a.ending && is_none (saw es f a.place x)

    of-key : (o : Option (Option ℕ)) → has (unseen_key x o) ≡ ((x == x) && is_none o)
    of-key None = rw (eq-eqb x x refl) refl
    of-key (Some c) = rw (eq-eqb x x refl) refl

    of-other : (y : ℕ) (o : Option (Option ℕ)) (b : Bool) → (y == x) ≡ false → has (unseen_key y o) ≡ ((y == x) && b)
    of-other y None b apart = rw apart refl
    of-other y (Some c) b apart = rw apart refl

    has-key : (place : ℕ) (call : ClientCall) (ending : Option Ending)
        → has (left_out_key es f place call ending) ≡ (finds_nothing x call ending && is_none (saw es f place x))
    has-key place (WriteTo y v) ending = refl
    has-key place (ReadOf y) None = refl
    has-key place (ReadOf y) (Some Answered) = refl
    has-key place (ReadOf y) (Some (Got v)) = refl
    has-key place (ReadOf y) (Some GotNothing) = ⊎_elim
        (λ (same : y ≡ x). subst (λ (z : ℕ). has (unseen_key z (saw es f place z)) ≡ ((z == x) && is_none (saw es f place x))) (sym same)
        (of-key (saw es f place x)))
        (λ (apart : y ≢ x). of-other y (saw es f place y) (is_none (saw es f place x)) (ne_eqb y x apart))
        (cases_eq y x)
    has-key place (ReadOf y) (Some Failed) = refl
    has-key place (ReadOf y) (Some Lost) = refl
    has-key place (DeleteOf y) ending = refl

    count-left_out : (calls : List Call) → count_in (left_out_keys es f calls) x ≡ length (filter is_left_out calls)
    count-left_out [] = refl
    count-left_out (a ∷ calls) =
        let rest = count-left_out calls in
        count-cons (left_out_key es f a.place a.call a.ending) (left_out_keys es f calls)
        ∙ (λ i. cond (has-key a.place a.call a.ending i) (suc (rest i)) (rest i))
        ∙ sym (length-cons (is_left_out a) a (filter is_left_out calls))

-- how many reads are left out
pub left_out-tally : (es : List Event) (f : Choice) (listed keys : List ℕ) (tally : List (ℕ × ℕ)) → listed ≡ left_out_keys es f (run_calls es)
    → ((x : ℕ) → Contains keys x ↔ Contains listed x) → IsTally listed keys tally → AreLeftOutBy es f tally
left_out-tally es f listed keys tally same each is_tally = record {
  rising = is_tally.rising;
  positive = is_tally.positive;
  exact = λ x.
      let many : count_in listed x ≡ many_left_out_by es f x = ap (λ (l : List ℕ). count_in l x) same ∙ count-left_out x es f (run_calls es) in
      ⊎_elim
      (λ (some : 0 < count_in listed x).
      let at = count-from listed x some in
      is_tally.listed x ((each x).1 (place-Contains listed at.0 x at.1)) ∙ many)
      (λ (none : count_in listed x ≤ 0).
      let zero_is : 0 ≡ count_in listed x = omega arith in
      ap (λ (o : Option ℕ). unwrap_or o 0) (is_tally.other x (λ inside.
      let at = Contains-place listed x ((each x).0 inside) in
      let some = count-some listed at.0 x at.1 in absurd (omega arith)))
      ∙ zero_is ∙ many)
      (cases_lt 0 (count_in listed x));
}
