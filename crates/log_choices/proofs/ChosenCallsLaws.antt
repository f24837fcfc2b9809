-- What decides which operations calls have by a choice.
use Rattle.std.proofs.Common.{◌≡◌, ℕ, List, subst}
use Rattle.std.specs.Prelude.{All, Contains, Some}
use Rattle.std.proofs.lemmas.List.Elements.{All-contains}
use Rattle.log_events.specs.declared.event.ClientCall.TheVariants.{WriteTo, ReadOf}
use Rattle.log_events.specs.declared.event.Ending.TheVariants.{GotNothing, Lost}
use Rattle.log_events.specs.declared.event.Event.{Event}
use Rattle.log_events.specs.Events.{Call, run_calls}
use Rattle.log_events.specs.Kept.{IsSmallCall}
use Rattle.log_events.specs.Steps.CallKinds.{missed_key, missed_keys}
use Rattle.log_events.proofs.CallKindsLaws.{Contains-place, place-Contains}
use Rattle.log_events.proofs.ListPlaces.{filter_map-to}
use Rattle.log_choices.specs.declared.seen.Seen.{Seen}
use Rattle.log_choices.specs.Steps.ChosenCalls.{IsLostWrite}

-- a call of the log is within the limits
pub small-call : (v w : List Event × List (ℕ × Seen)) (a : Call) → v ≡ w → All IsSmallCall (run_calls v.0) → Contains (run_calls w.0) a → IsSmallCall a
small-call v w a same small inside =
    All-contains IsSmallCall (run_calls w.0) a (subst (λ (u : List Event × List (ℕ × Seen)). All IsSmallCall (run_calls u.0)) same small) inside

-- a call of the log that is a lost write
pub lost-write : (es : List Event) (a : Call) (p x v : ℕ) → Contains (run_calls es) a → a.place ≡ p → a.call ≡ WriteTo x v → a.ending ≡ Some Lost
    → IsLostWrite es p x v
lost-write es a p x v inside place called ends =
    let b : Call = record { client = a.client; place = p; call = WriteTo x v; ending = Some Lost } in
    let same : a ≡ b = λ i. record { client = a.client; place = place i; call = called i; ending = ends i } in
    (a.client, subst (Contains (run_calls es)) same inside)

-- the key of a read of the log that got nothing
pub key-listed : (calls : List Call) (a : Call) (x : ℕ) → Contains calls a → missed_key a.call a.ending ≡ Some x → Contains (missed_keys calls) x
key-listed calls a x inside is =
    let p = Contains-place calls a inside in
    let r = filter_map-to (λ (b : Call). missed_key b.call b.ending) calls p.0 a x p.1 is in
    place-Contains (missed_keys calls) r.0 x r.1

pub missed-listed : (calls : List Call) (a : Call) (x : ℕ) → Contains calls a → a.call ≡ ReadOf x → a.ending ≡ Some GotNothing
    → Contains (missed_keys calls) x
missed-listed calls a x inside called ends = key-listed calls a x inside (λ i. missed_key (called i) (ends i))
