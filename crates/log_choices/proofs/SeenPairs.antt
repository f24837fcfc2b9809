-- The deletes that null reads saw.
use Rattle.std.proofs.Common.{◌≡◌, ℕ, Bool, true, false, List, refl, ap, ◌∙◌, eq-eqb, eqb-true}
use Rattle.std.specs.Prelude.{◌↔◌, ◌==◌, ◌&&◌, Contains, IsTrue, Option, Some, None}
use Rattle.std.proofs.lemmas.Option.{some_pair_parts}
use Rattle.log_events.specs.declared.event.ClientCall.{ClientCall}
use Rattle.log_events.specs.declared.event.ClientCall.TheVariants.{WriteTo, ReadOf, DeleteOf}
use Rattle.log_events.specs.declared.event.Ending.{Ending}
use Rattle.log_events.specs.declared.event.Ending.TheVariants.{Answered, Got, GotNothing, Failed, Lost}
use Rattle.log_events.specs.declared.event.Event.{Event}
use Rattle.log_events.specs.Events.{Call, run_calls}
use Rattle.log_events.proofs.CallKindsLaws.{Contains-place, place-Contains}
use Rattle.log_events.proofs.ListPlaces.{filter_map-from, filter_map-to, list_any-from, list_any-to}
use Rattle.log_choices.specs.Choices.{Choice}
use Rattle.log_choices.specs.ChosenHistories.{is_of_delete, is_seen, saw, sees}
use Rattle.log_choices.specs.Steps.ChosenCalls.{seen_pair, seen_pairs, with_key}

both : (a b : Bool) → (a && b) ≡ true → (a ≡ true) × (b ≡ true)
both true b is = (refl, is)
both false b is = absurd cc

module _ (x p : ℕ) where
  of-delete : (o : Option (Option ℕ)) → is_of_delete p o ≡ true → o ≡ Some (Some p)
  of-delete None is = absurd cc
  of-delete (Some None) is = absurd cc
  of-delete (Some (Some q)) is = let same = eqb-true q p is in λ i. Some (Some (same i))

  with_key-from : (y : ℕ) (o : Option (Option ℕ)) → with_key y o ≡ Some (x, p) → (y ≡ x) × (o ≡ Some (Some p))
  with_key-from y None is = absurd cc
  with_key-from y (Some None) is = absurd cc
  with_key-from y (Some (Some q)) is = let parts = some_pair_parts y x q p is in (parts.0, λ i. Some (Some (parts.1 i)))

  module _ (es : List Event) (f : Choice) where
    sees-from : (place : ℕ) (call : ClientCall) (ending : Option Ending) → sees es f x p place call ending ≡ true
        → seen_pair es f place call ending ≡ Some (x, p)
    sees-from place (WriteTo y u) ending is = absurd cc
    sees-from place (ReadOf y) None is = absurd cc
    sees-from place (ReadOf y) (Some Answered) is = absurd cc
    sees-from place (ReadOf y) (Some (Got u)) is = absurd cc
    sees-from place (ReadOf y) (Some GotNothing) is =
        let parts = both (y == x) (is_of_delete p (saw es f place y)) is in
        let key = eqb-true y x parts.0 in
        ap (with_key y) (of-delete (saw es f place y) parts.1) ∙ (λ i. Some (key i, p))
    sees-from place (ReadOf y) (Some Failed) is = absurd cc
    sees-from place (ReadOf y) (Some Lost) is = absurd cc
    sees-from place (DeleteOf y) ending is = absurd cc

    sees-to : (place : ℕ) (call : ClientCall) (ending : Option Ending) → seen_pair es f place call ending ≡ Some (x, p)
        → sees es f x p place call ending ≡ true
    sees-to place (WriteTo y u) ending is = absurd cc
    sees-to place (ReadOf y) None is = absurd cc
    sees-to place (ReadOf y) (Some Answered) is = absurd cc
    sees-to place (ReadOf y) (Some (Got u)) is = absurd cc
    sees-to place (ReadOf y) (Some GotNothing) is =
        let parts = with_key-from y (saw es f place y) is in
        ap (λ (b : Bool). b && is_of_delete p (saw es f place y)) (eq-eqb y x parts.0)
        ∙ ap (is_of_delete p) parts.1 ∙ eq-eqb p p refl
    sees-to place (ReadOf y) (Some Failed) is = absurd cc
    sees-to place (ReadOf y) (Some Lost) is = absurd cc
    sees-to place (DeleteOf y) ending is = absurd cc

    -- a delete is among those that reads saw exactly where some read saw it
    pub seen_pairs-any : Contains (seen_pairs es f (run_calls es)) (x, p) ↔ IsTrue (is_seen es f x p)
    seen_pairs-any =
        let calls = run_calls es in
        let of_call = λ (a : Call). seen_pair es f a.place a.call a.ending in
        let test = λ (a : Call). sees es f x p a.place a.call a.ending in (
          λ inside.
              let k = Contains-place (seen_pairs es f calls) (x, p) inside in
              let r = filter_map-from of_call calls k.0 (x, p) k.1 in
              list_any-to test calls r.0 r.1 r.2 (sees-to r.1.place r.1.call r.1.ending r.3),
          λ some.
              let r = list_any-from test calls some in
              let k = filter_map-to of_call calls r.0 r.1 (x, p) r.2 (sees-from r.1.place r.1.call r.1.ending r.3) in
              place-Contains (seen_pairs es f calls) k.0 (x, p) k.1,
        )
