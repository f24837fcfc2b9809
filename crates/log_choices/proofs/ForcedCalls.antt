-- Where the calls of a run stand in its events, and how they ended.
use Rattle.std.proofs.Common.{◌≡◌, ℕ, zero, suc, ◌<◌, [], ◌∷◌, length, get_or, ap, sym, subst, ◌∙◌, arith}
use Rattle.std.specs.Prelude.{◌≢◌, All, Contains, List, Option, Some, None, slice_get}
use Rattle.std.proofs.lemmas.Option.{same_Some}
use Rattle.std.proofs.lemmas.List.Elements.{All-contains}
use Rattle.log_events.specs.declared.event.ClientCall.{ClientCall}
use Rattle.log_events.specs.declared.event.ClientCall.TheVariants.{WriteTo, ReadOf, DeleteOf}
use Rattle.log_events.specs.declared.event.Ending.{Ending}
use Rattle.log_events.specs.declared.event.Ending.TheVariants.{Failed}
use Rattle.log_events.specs.declared.event.Event.{Event}
use Rattle.log_events.specs.Events.{Call, IsEnded, run_calls}
use Rattle.log_events.proofs.CallKindsLaws.{Contains-place, place-Contains}
use Rattle.log_events.proofs.CallPlaces.{IsCallAt, calls-from, ended-from, ended-to}
use Rattle.log_choices.specs.ForcedSteps.{written_by, writing}

module _ (es : List Event) (a : Call) (listed : Contains (run_calls es) a) where
  pub call-placed : IsCallAt es a.place a
  call-placed =
      let (k, at) = Contains-place (run_calls es) a listed in
      let (i, place, here) = calls-from 0 es k a at in
      let same : i ≡ a.place = omega arith in subst (λ (n : ℕ). IsCallAt es n a) same here

  pub call-ended : (e : Ending) → a.ending ≡ Some e → (j : ℕ) × IsEnded es a.client a.call a.place j e
  call-ended e is = ended-from es a.place a e call-placed is

  pub call-unended : (e : Ending) → a.ending ≢ Some e → (j : ℕ) → ¬ IsEnded es a.client a.call a.place j e
  call-unended e other j end = other (call-placed.ended ∙ ended-to es a.client a.call a.place j e end)

pub all-at : {X : Type 0} (P : X → Type 0) (xs : List X) (k : ℕ) (x : X) → All P xs → slice_get xs k ≡ Some x → P x
all-at P xs k x all at = All-contains P xs x all (place-Contains xs k x at)

-- an element within a list
pub get-at : {X : Type 0} (xs : List X) (i : ℕ) (x : X) → i < length xs → x ≡ get_or xs i x → slice_get xs i ≡ Some x
get-at [] i x below is = absurd (omega arith)
get-at (y ∷ ys) zero x below is = ap Some (sym is)
get-at (y ∷ ys) (suc i) x below is = get-at ys i x (omega arith) is

-- a call that writes or deletes and did not fail
writing-same : (p q : ℕ × Option ℕ) → Some p ≡ Some q → writing p.0 p.1 ≡ writing q.0 q.1
writing-same p q is = ap (λ (r : ℕ × Option ℕ). writing r.0 r.1) (same_Some _ _ is)

pub written-is : (call : ClientCall) (ending : Option Ending) (x : ℕ) (v : Option ℕ) → written_by call ending ≡ Some (x, v)
    → (call ≡ writing x v) × (ending ≢ Some Failed)
written-is (WriteTo y u) (Some Failed) x v is = absurd cc
written-is (WriteTo y u) ending x v is = (writing-same (y, Some u) (x, v) is, λ failed. absurd cc)
written-is (DeleteOf y) (Some Failed) x v is = absurd cc
written-is (DeleteOf y) ending x v is = (writing-same (y, None) (x, v) is, λ failed. absurd cc)
written-is (ReadOf y) (Some Failed) x v is = absurd cc
written-is (ReadOf y) ending x v is = absurd cc
