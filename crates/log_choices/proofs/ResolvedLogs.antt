-- A log in which deletes are writes of values of their own, and null reads got what a choice says: its events and its calls.
use Rattle.std.proofs.Common.{◌≡◌, ℕ, zero, suc, ◌+◌, ◌-◌, ◌*◌, ◌<◌, true, false, List, [], ◌∷◌, map, refl, ap, sym, subst, ◌∙◌, arith, eqb-true}
use Rattle.std.specs.Prelude.{◌≢◌, ◌==◌, if◌then◌else◌, Option, Some, None, option_map}
use Rattle.std.proofs.lemmas.Option.{same_Some}
use Rattle.std.proofs.lemmas.Bool.{eqb-false, eq-eqb, ne_eqb}
use Rattle.log_events.specs.declared.event.ClientCall.{ClientCall}
use Rattle.log_events.specs.declared.event.ClientCall.TheVariants.{WriteTo, ReadOf, DeleteOf}
use Rattle.log_events.specs.declared.event.Ending.{Ending}
use Rattle.log_events.specs.declared.event.Ending.TheVariants.{Answered, Got, GotNothing, Failed, Lost}
use Rattle.log_events.specs.declared.event.Event.{Event}
use Rattle.log_events.specs.declared.event.Event.TheVariants.{Starts, Begins, Ends}
use Rattle.log_events.specs.Events.{IsAt, Call, ending_in, calls_from}
use Rattle.log_events.proofs.CutCalls.{TakesTurns}
use Rattle.log_choices.specs.Choices.{Choice}
use Rattle.log_choices.specs.ChosenHistories.{saw}

-- values are even, and what a delete writes is odd
abbrev pub resolved_call : ℕ → ClientCall → ClientCall
resolved_call place (WriteTo x v) = WriteTo x (2 * v)
resolved_call place (ReadOf x) = ReadOf x
resolved_call place (DeleteOf x) = WriteTo x (2 * place + 1)

-- a read that is left out is lost
abbrev pub resolved_miss : Option (Option ℕ) → Ending
resolved_miss None = Lost
resolved_miss (Some None) = GotNothing
resolved_miss (Some (Some p)) = Got (2 * p + 1)

-- a call that a client began, by its place
abbrev pub Begun : Type 0
Begun = ℕ × ClientCall

module _ (es : List Event) (f : Choice) where
  abbrev pub resolved_ending : Begun → Ending → Ending
  resolved_ending (place, ReadOf x) GotNothing = resolved_miss (saw es f place x)
  resolved_ending (place, WriteTo x v) GotNothing = GotNothing
  resolved_ending (place, DeleteOf x) GotNothing = GotNothing
  resolved_ending begun Answered = Answered
  resolved_ending begun (Got v) = Got (2 * v)
  resolved_ending begun Failed = Failed
  resolved_ending begun Lost = Lost

  abbrev pub resolved_call_of : Call → Call
  resolved_call_of a = record {
    client = a.client;
    place = a.place;
    call = resolved_call a.place a.call;
    ending = option_map (resolved_ending (a.place, a.call)) a.ending;
  }

  -- the last call that each client began, with one more
  abbrev pub with_begun : (ℕ → Begun) → ℕ → Begun → ℕ → Begun
  with_begun begun c call d = if d == c then call else begun d

  abbrev pub resolved_event : (ℕ → Begun) → ℕ → Event → Event
  resolved_event begun i (Starts x v) = Starts x (2 * v)
  resolved_event begun i (Begins c call) = Begins c (resolved_call i call)
  resolved_event begun i (Ends c ending) = Ends c (resolved_ending (begun c) ending)

  abbrev pub begun_after : (ℕ → Begun) → ℕ → Event → ℕ → Begun
  begun_after begun i (Starts x v) = begun
  begun_after begun i (Begins c call) = with_begun begun c (i, call)
  begun_after begun i (Ends c ending) = begun

  unfoldable pub resolved_from : (ℕ → Begun) → ℕ → List Event → List Event
  resolved_from begun i [] = []
  resolved_from begun i (e ∷ l) = resolved_event begun i e ∷ resolved_from (begun_after begun i e) (i + 1) l

  -- between now and the first call that the client begins, its pending one ends
  abbrev Waits : ℕ → List Event → Type 0
  Waits c l = (k : ℕ) (call : ClientCall) → IsAt l k (Begins c call) → (m : ℕ) × (ending : Ending) × (m < k) × IsAt l m (Ends c ending)

  waits-rest : (c : ℕ) (e : Event) (l : List Event) → ((ending : Ending) → e ≢ Ends c ending) → Waits c (e ∷ l) → Waits c l
  waits-rest c e l other waits k call at = later (waits (suc k) call at)
    where
      later : (m : ℕ) × (ending : Ending) × (m < suc k) × IsAt (e ∷ l) m (Ends c ending)
          → (m : ℕ) × (ending : Ending) × (m < k) × IsAt l m (Ends c ending)
      later (zero, ending, below, here) = absurd (other ending (same_Some _ _ here))
      later (suc m, ending, below, there) = (m, ending, omega arith, there)

  resolved-ending_in : (begun : ℕ → Begun) (i c : ℕ) (l : List Event) → Waits c l
      → ending_in c (resolved_from begun i l) ≡ option_map (resolved_ending (begun c)) (ending_in c l)
  unfolding resolved_from
  resolved-ending_in begun i c [] waits = refl
  resolved-ending_in begun i c (Starts x v ∷ l) waits =
      resolved-ending_in begun (i + 1) c l (waits-rest c (Starts x v) l (λ ending same. absurd cc) waits)
  resolved-ending_in begun i c (Begins d call ∷ l) waits =
      let apart : c ≢ d = λ same.
      let r = waits 0 call (ap (λ (n : ℕ). Some (Begins n call)) (sym same)) in let below = r.2 in omega arith in
      resolved-ending_in (with_begun begun d (i, call)) (i + 1) c l (waits-rest c (Begins d call) l (λ ending same. absurd cc) waits)
      ∙ ap (λ (b : Begun). option_map (resolved_ending b) (ending_in c l)) (rw (ne_eqb c d apart))
  resolved-ending_in begun i c (Ends d ending ∷ l) waits =
      elim (d == c) as (λ b. (d == c) ≡ b
      → (if b then Some (resolved_ending (begun d) ending) else ending_in c (resolved_from begun (i + 1) l))
      ≡ option_map (resolved_ending (begun c)) (if b then Some ending else ending_in c l)) [
        | true ↦ λ same. ap (λ (n : ℕ). Some (resolved_ending (begun n) ending)) (eqb-true d c same)
        | false ↦ λ apart. resolved-ending_in begun (i + 1) c l
            (waits-rest c (Ends d ending) l (λ other same. let client : d ≡ c = cc in eqb-false d c apart client) waits)
      ] refl

  waits-behind : (c : ℕ) (call : ClientCall) (l : List Event) → TakesTurns c (Begins c call ∷ l) → Waits c l
  waits-behind c call l turns k other at =
      let r = turns 0 (suc k) call other (omega arith) refl at in
      let above = r.2 in
      let under = r.3 in
      let same : r.0 ≡ suc (r.0 - 1) = omega arith in
      (r.0 - 1, r.1, omega arith, subst (λ (n : ℕ). IsAt (Begins c call ∷ l) n (Ends c r.1)) same r.4)

  turns-behind : (c : ℕ) (e : Event) (l : List Event) → TakesTurns c (e ∷ l) → TakesTurns c l
  turns-behind c e l turns i k call other below first second =
      let r = turns (suc i) (suc k) call other (omega arith) first second in
      let above = r.2 in
      let under = r.3 in
      let same : r.0 ≡ suc (r.0 - 1) = omega arith in
      (r.0 - 1, r.1, omega arith, omega arith, subst (λ (n : ℕ). IsAt (e ∷ l) n (Ends c r.1)) same r.4)

  -- the calls are those of the log, resolved
  pub resolved-calls : (begun : ℕ → Begun) (i : ℕ) (l : List Event) → ((c : ℕ) → TakesTurns c l)
      → calls_from i (resolved_from begun i l) ≡ map resolved_call_of (calls_from i l)
  unfolding resolved_from
  resolved-calls begun i [] turns = refl
  resolved-calls begun i (Starts x v ∷ l) turns = resolved-calls begun (i + 1) l (λ c. turns-behind c (Starts x v) l (turns c))
  resolved-calls begun i (Begins c call ∷ l) turns =
      let ending = resolved-ending_in (with_begun begun c (i, call)) (i + 1) c l (waits-behind c call l (turns c))
      ∙ ap (λ (b : Begun). option_map (resolved_ending b) (ending_in c l)) (rw (eq-eqb c c refl)) in
      let rest = resolved-calls (with_begun begun c (i, call)) (i + 1) l (λ d. turns-behind d (Begins c call) l (turns d)) in
      λ t. record { client = c; place = i; call = resolved_call i call; ending = ending t } ∷ rest t
  resolved-calls begun i (Ends c ending ∷ l) turns = resolved-calls begun (i + 1) l (λ d. turns-behind d (Ends c ending) l (turns d))
