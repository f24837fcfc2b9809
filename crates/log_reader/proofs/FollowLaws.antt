-- Events that may follow those of a log.
use Rattle.std.proofs.Common.{◌≡◌, ℕ, zero, suc, ◌<◌, Bool, true, false, List, [], ◌∷◌, ◌++◌, length, slice_get, Option, Some, None, refl, sym, ap, subst, ◌∙◌, arith, if◌then◌else◌}
use Rattle.std.specs.Prelude.{codes, IfNone, IfSome}
use Rattle.log_events.specs.Events.{Fits, IsAllowed, IsOpen, MayStand}
use Rattle.log_events.specs.declared.event.ClientCall.{ClientCall}
use Rattle.log_events.specs.declared.event.ClientCall.TheVariants.{WriteTo, ReadOf, DeleteOf}
use Rattle.log_events.specs.declared.event.Ending.{Ending}
use Rattle.log_events.specs.declared.event.Ending.TheVariants.{Answered, Got, GotNothing, Failed, Lost}
use Rattle.log_events.specs.declared.event.Event.{Event}
use Rattle.log_events.specs.declared.event.Event.TheVariants.{Ends}
use Rattle.log_events.specs.Pending.{IsPending as Pending}
use Rattle.log_reader.specs.Forms.{SaidEnding, answer, nothing, failed, lost}
use Rattle.log_reader.specs.Logs.{IsPending, Log, MayFollow, ending_of, value_number}
use Rattle.log_reader.specs.Names.{same_name, text_name}

last_at : {X : Type 0} (xs : List X) (x : X) → slice_get (xs ++ x ∷ []) (length xs) ≡ Some x
last_at [] x = refl
last_at (y ∷ xs) x = last_at xs x

before_last : {X : Type 0} (xs : List X) (x : X) (i : ℕ) → i < length xs → slice_get (xs ++ x ∷ []) i ≡ slice_get xs i
before_last [] x i low = absurd (omega arith)
before_last (y ∷ xs) x zero low = refl
before_last (y ∷ xs) x (suc i) low = before_last xs x i (omega arith)

-- the events of a log after one more
pub allowed_follows : (log : Log) (es new : List Event) (e : Event) → es ≡ log.events → new ≡ es ++ e ∷ [] → IsAllowed new → MayFollow log e
allowed_follows log es new e same is allowed = subst (λ (l : List Event). IsAllowed l) (is ∙ ap (λ l. l ++ e ∷ []) same) allowed

-- where the last event may not stand they are none
pub unallowed : (log : Log) (e : Event) → ¬ MayStand (log.events ++ e ∷ []) (length log.events) e → ¬ MayFollow log e
unallowed log e never allowed = never (allowed (length log.events) e (last_at log.events e))

-- a pending call is so before one event more
open_before : (es : List Event) (e : Event) (client i : ℕ) (call : ClientCall) → IsOpen es client call i (length es) → IsOpen (es ++ e ∷ []) client call i (length es)
open_before es e client i call was = record {
  begun = before_last es e i was.earlier ∙ was.begun;
  earlier = was.earlier;
  unended = λ k ending above below ends. was.unended k ending above below (sym (before_last es e k below) ∙ ends);
}

-- and may end by what fits it
pub end_follows : (log : Log) (client : ℕ) (call : ClientCall) (ending : Ending) → IsPending log.events client (Some call) → Fits call ending
    → MayStand (log.events ++ Ends client ending ∷ []) (length log.events) (Ends client ending)
end_follows log client call ending pending fits =
    (pending.0, call, open_before log.events (Ends client ending) client pending.0 call pending.1, fits)

answered_fits : (call : ClientCall) (ending : Ending) (b : Bool) → Fits call Answered → (if b then Some Answered else None) ≡ Some ending → Fits call ending
answered_fits call ending true fits is = let e : Answered ≡ ending = cc in subst (λ (x : Ending). Fits call x) e fits
answered_fits call ending false fits is = absurd cc

fits_by : (call : ClientCall) (known ending : Ending) → Fits call known → Some known ≡ Some ending → Fits call ending
fits_by call known ending fits is = let e : known ≡ ending = cc in subst (λ (x : Ending). Fits call x) e fits

-- what is said of an ending fits the call
pub said_fits : (log : Log) (call : ClientCall) (said : SaidEnding) (ending : Ending) → ending_of log call said ≡ Some ending → Fits call ending
said_fits log (WriteTo x v) failed ending is = fits_by (WriteTo x v) Failed ending tt is
said_fits log (ReadOf x) failed ending is = fits_by (ReadOf x) Failed ending tt is
said_fits log (DeleteOf x) failed ending is = fits_by (DeleteOf x) Failed ending tt is
said_fits log (WriteTo x v) lost ending is = fits_by (WriteTo x v) Lost ending tt is
said_fits log (ReadOf x) lost ending is = fits_by (ReadOf x) Lost ending tt is
said_fits log (DeleteOf x) lost ending is = fits_by (DeleteOf x) Lost ending tt is
said_fits log (ReadOf x) (answer value) ending is = fits_by (ReadOf x) (Got (value_number log value)) ending tt is
said_fits log (ReadOf x) nothing ending is = fits_by (ReadOf x) GotNothing ending tt is
said_fits log (WriteTo x v) (answer value) ending is = answered_fits (WriteTo x v) ending (same_name value (text_name (codes "ok"))) tt is
said_fits log (DeleteOf x) (answer value) ending is = answered_fits (DeleteOf x) ending (same_name value (text_name (codes "ok"))) tt is
said_fits log (WriteTo x v) nothing ending is = absurd cc
said_fits log (DeleteOf x) nothing ending is = absurd cc

-- the pending call, or none
pub pending_by : (es : List Event) (client : ℕ) (o : Option ClientCall) → IfNone o ((call : ClientCall) → ¬ Pending es client call) → IfSome o (Pending es client)
    → IsPending es client o
pending_by es client None none some = λ i call was. none call (i, was)
pending_by es client (Some call) none some = some
