-- Which operations represent a call, and which calls the reads and the forks of a history come from.
use Rattle.std.proofs.Common.{◌≡◌, ℕ, zero, suc, true, false, List, [], ◌∷◌, refl, ap, sym, ◌∙◌, inl, inr}
use Rattle.std.specs.Prelude.{◌≢◌, ◌⊎◌, if◌then◌else◌, Option, Some, None, slice_get}
use Rattle.std.proofs.lemmas.Option.{same_Some}
use Rattle.model_objects.specs.declared.register.RegisterCall.TheVariants.{Write, Read}
use Rattle.model_objects.specs.declared.register.RegisterRet.{RegisterRet}
use Rattle.model_objects.specs.declared.register.RegisterRet.TheVariants.{Done, Value}
use Rattle.order_memory.specs.Memory.{MemoryCall}
use Rattle.log_events.specs.declared.event.ClientCall.{ClientCall}
use Rattle.log_events.specs.declared.event.ClientCall.TheVariants.{WriteTo, ReadOf, DeleteOf}
use Rattle.log_events.specs.declared.event.Ending.{Ending}
use Rattle.log_events.specs.declared.event.Ending.TheVariants.{Answered, Got, GotNothing, Failed, Lost}
use Rattle.log_events.specs.declared.event.Event.{Event}
use Rattle.log_events.specs.Events.{Fits}
use Rattle.log_events.specs.Histories.{key, mark, value, deleted, nothing, Operation, write, read, is_returned, is_deleted, operation, fork}

-- a write is no read
pub write-not_read : (x v y : ℕ) (r s : Option RegisterRet) → write x v r ≡ read y s → ⊥
write-not_read x v y r s same = let call : Write v ≡ Read = ap (λ (e : Operation). e.0.call) same in absurd cc

read-same : (x y : ℕ) (r s : Option RegisterRet) → ◌≡◌ {A = Option Operation} (Some (read x r)) (Some (read y s)) → (x ≡ y) × (r ≡ s)
read-same x y r s same = (ap (λ (e : Operation). e.0.key) (same_Some _ _ same), ap (λ (e : Operation). e.1) (same_Some _ _ same))

returned-same : (u v : ℕ) → ◌≡◌ {A = Option RegisterRet} (Some (Value u)) (Some (Value v)) → u ≡ v
returned-same u v same = cc

module _ (es : List Event) (place x u : ℕ) where
  -- a known read of a client comes from a read that got a value, or that got nothing where no delete names the key
  abbrev pub IsOfRead : ClientCall → Option Ending → Type 0
  IsOfRead call ending =
      ((y v : ℕ) × (call ≡ ReadOf y) × (ending ≡ Some (Got v)) × (x ≡ key y) × (u ≡ value v))
      ⊎ ((y : ℕ) × (call ≡ ReadOf y) × (ending ≡ Some GotNothing) × (is_deleted es y ≡ false) × (x ≡ key y) × (u ≡ nothing))

  pub read-call : (call : ClientCall) (ending : Option Ending) → operation es place call ending ≡ Some (read x (Some (Value u)))
      → IsOfRead call ending
  read-call (WriteTo y v) None is = absurd (write-not_read _ _ _ _ _ (same_Some _ _ is))
  read-call (WriteTo y v) (Some Answered) is = absurd (write-not_read _ _ _ _ _ (same_Some _ _ is))
  read-call (WriteTo y v) (Some (Got w)) is = absurd cc
  read-call (WriteTo y v) (Some GotNothing) is = absurd cc
  read-call (WriteTo y v) (Some Failed) is = absurd cc
  read-call (WriteTo y v) (Some Lost) is =
      elim (is_returned es y v) as (λ b. (if b then Some (write (mark place) 1 (Some Done)) else None) ≡ Some (read x (Some (Value u)))
      → IsOfRead (WriteTo y v) (Some Lost)) [
        | true ↦ λ same. absurd (write-not_read _ _ _ _ _ (same_Some _ _ same))
        | false ↦ λ none. absurd cc
      ] is
  read-call (ReadOf y) None is = let same = read-same _ _ _ _ is in let returns = same.1 in absurd cc
  read-call (ReadOf y) (Some Answered) is = absurd cc
  read-call (ReadOf y) (Some (Got v)) is =
      let same = read-same _ _ _ _ is in inl (y, v, refl, refl, sym same.0, sym (returned-same _ _ same.1))
  read-call (ReadOf y) (Some GotNothing) is =
      elim (is_deleted es y) as (λ b. is_deleted es y ≡ b → (if b then None else Some (read (key y) (Some (Value nothing)))) ≡ Some (read x (Some (Value u)))
      → IsOfRead (ReadOf y) (Some GotNothing)) [
        | true ↦ λ _ none. absurd cc
        | false ↦ λ kept here. let same = read-same _ _ _ _ here in inr (y, refl, refl, kept, sym same.0, sym (returned-same _ _ same.1))
      ] refl is
  read-call (ReadOf y) (Some Failed) is = absurd cc
  read-call (ReadOf y) (Some Lost) is = absurd cc
  read-call (DeleteOf y) None is = absurd (write-not_read _ _ _ _ _ (same_Some _ _ is))
  read-call (DeleteOf y) (Some Answered) is = absurd (write-not_read _ _ _ _ _ (same_Some _ _ is))
  read-call (DeleteOf y) (Some (Got w)) is = absurd cc
  read-call (DeleteOf y) (Some GotNothing) is = absurd cc
  read-call (DeleteOf y) (Some Failed) is = absurd cc
  read-call (DeleteOf y) (Some Lost) is = absurd cc

module _ (es : List Event) (place : ℕ) where
  -- a fork is of a lost write whose value was returned
  pub fork-call : (call : ClientCall) (ending : Option Ending) (l : List Operation) → fork es place call ending ≡ Some l
      → (y v : ℕ) × (call ≡ WriteTo y v) × (ending ≡ Some Lost) × (is_returned es y v ≡ true)
      × (l ≡ read (mark place) (Some (Value 1)) ∷ write (key y) (value v) None ∷ [])
  fork-call (WriteTo y v) None l is = absurd cc
  fork-call (WriteTo y v) (Some Answered) l is = absurd cc
  fork-call (WriteTo y v) (Some (Got w)) l is = absurd cc
  fork-call (WriteTo y v) (Some GotNothing) l is = absurd cc
  fork-call (WriteTo y v) (Some Failed) l is = absurd cc
  fork-call (WriteTo y v) (Some Lost) l is =
      elim (is_returned es y v) as (λ b. is_returned es y v ≡ b
      → (if b then Some (read (mark place) (Some (Value 1)) ∷ write (key y) (value v) None ∷ []) else None) ≡ Some l
      → (z u : ℕ) × (WriteTo y v ≡ WriteTo z u) × (◌≡◌ {A = Option Ending} (Some Lost) (Some Lost)) × (is_returned es z u ≡ true)
      × (l ≡ read (mark place) (Some (Value 1)) ∷ write (key z) (value u) None ∷ [])) [
        | true ↦ λ returned same. (y, v, refl, refl, returned, sym (same_Some _ _ same))
        | false ↦ λ _ none. absurd cc
      ] refl is
  fork-call (ReadOf y) ending l is = absurd cc
  fork-call (DeleteOf y) ending l is = absurd cc

-- what is read in a fork is its mark
pub fork-read : (m y v x u i : ℕ) → slice_get (read m (Some (Value 1)) ∷ write y v None ∷ []) i ≡ Some (read x (Some (Value u)))
    → (m ≡ x) × (1 ≡ u)
fork-read m y v x u zero at = let same = read-same _ _ _ _ at in (same.0, returned-same _ _ same.1)
fork-read m y v x u (suc zero) at = absurd (write-not_read _ _ _ _ _ (same_Some _ _ at))
fork-read m y v x u (suc (suc i)) at = absurd cc

-- the call of the operation of a call of a client
abbrev pub memory_call : ℕ → ClientCall → MemoryCall
memory_call place (WriteTo x v) = record { key = key x; call = Write (value v) }
memory_call place (ReadOf x) = record { key = key x; call = Read }
memory_call place (DeleteOf x) = record { key = key x; call = Write (deleted place) }

pub open-operation : (es : List Event) (place : ℕ) (call : ClientCall) → operation es place call None ≡ Some (memory_call place call, None)
open-operation es place (WriteTo x v) = refl
open-operation es place (ReadOf x) = refl
open-operation es place (DeleteOf x) = refl

pub open-same : (es : List Event) (place : ℕ) (call : ClientCall) (ending : Option Ending) (e : Operation) → ending ≡ None
    → operation es place call ending ≡ Some e → (memory_call place call, None) ≡ e
open-same es place call ending e none is =
    same_Some _ _ (sym (open-operation es place call) ∙ ap (operation es place call) (sym none) ∙ is)

-- whatever a call ended with, if it did not fail, was not lost and got something
pub ended-operation : (es : List Event) (place : ℕ) (call : ClientCall) (ending : Ending) → Fits call ending → ending ≢ Failed → ending ≢ Lost
    → ending ≢ GotNothing → (r : Option RegisterRet) × (operation es place call (Some ending) ≡ Some (memory_call place call, r))
ended-operation es place (WriteTo x v) Answered fits failed lost got = (Some Done, refl)
ended-operation es place (WriteTo x v) (Got w) fits failed lost got = absurd fits
ended-operation es place (WriteTo x v) GotNothing fits failed lost got = absurd fits
ended-operation es place (ReadOf x) Answered fits failed lost got = absurd fits
ended-operation es place (ReadOf x) (Got v) fits failed lost got = (Some (Value (value v)), refl)
ended-operation es place (ReadOf x) GotNothing fits failed lost got = absurd (got refl)
ended-operation es place (DeleteOf x) Answered fits failed lost got = (Some Done, refl)
ended-operation es place (DeleteOf x) (Got w) fits failed lost got = absurd fits
ended-operation es place (DeleteOf x) GotNothing fits failed lost got = absurd fits
ended-operation es place call Failed fits failed lost got = absurd (failed refl)
ended-operation es place call Lost fits failed lost got = absurd (lost refl)
