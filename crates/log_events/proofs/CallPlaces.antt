-- Where the calls of a run begin and end in its events.
use Rattle.std.proofs.Common.{◌≡◌, ℕ, zero, suc, ◌+◌, ◌-◌, ◌<◌, ◌≤◌, true, false, List, [], ◌∷◌, drop, refl, ap, sym, ◌∙◌, ⊎_elim, arith, eqb-true}
use Rattle.std.specs.Prelude.{◌≢◌, ◌==◌, if◌then◌else◌, Some, slice_get}
use Rattle.std.proofs.lemmas.Option.{same_Some}
use Rattle.std.proofs.lemmas.Bool.{cases_lt, eqb-false, eq-eqb}
use Rattle.log_events.specs.declared.event.ClientCall.{ClientCall}
use Rattle.log_events.specs.declared.event.Ending.{Ending}
use Rattle.log_events.specs.declared.event.Event.{Event}
use Rattle.log_events.specs.declared.event.Event.TheVariants.{Starts, Begins, Ends}
use Rattle.log_events.specs.Events.{IsAt, IsEnded, Call, ending_in, calls_from}
use Rattle.log_events.proofs.ListPlaces.{slice_get-drop}

-- the first end of a client
pub record IsFirstEnd (es : List Event) (c : ℕ) (ending : Ending) (j : ℕ) : Type 0 where
  pub ends : IsAt es j (Ends c ending)
  pub none_before : (m : ℕ) (other : Ending) → m < j → ¬ IsAt es m (Ends c other)

first_end-later : (e : Event) (es : List Event) (c : ℕ) (ending : Ending) → ((other : Ending) → e ≢ Ends c other)
    → (j : ℕ) × IsFirstEnd es c ending j → (j : ℕ) × IsFirstEnd (e ∷ es) c ending j
first_end-later e es c ending not_here (j, found) = (
  suc j,
  record {
    ends = found.ends;
    none_before = none;
  },
)
  where
    none : (m : ℕ) (other : Ending) → m < suc j → ¬ IsAt (e ∷ es) m (Ends c other)
    none zero other below at = not_here other (same_Some _ _ at)
    none (suc m) other below at = found.none_before m other (omega arith) at

pub ending_in-from : (c : ℕ) (es : List Event) (ending : Ending) → ending_in c es ≡ Some ending → (j : ℕ) × IsFirstEnd es c ending j
ending_in-from c [] ending is = absurd cc
ending_in-from c (Starts x v ∷ es) ending is = first_end-later (Starts x v) es c ending (λ other same. absurd cc) (ending_in-from c es ending is)
ending_in-from c (Begins d call ∷ es) ending is = first_end-later (Begins d call) es c ending (λ other same. absurd cc) (ending_in-from c es ending is)
ending_in-from c (Ends d other ∷ es) ending is =
    elim (d == c) as (λ b. (d == c) ≡ b → (if b then Some other else ending_in c es) ≡ Some ending → (j : ℕ) × IsFirstEnd (Ends d other ∷ es) c ending j) [
      | true ↦ λ same here. (
        0,
        record {
          ends = let client = eqb-true d c same in let end = same_Some _ _ here in cc;
          none_before = λ m _ below. absurd (omega arith);
        },
      )
      | false ↦ λ apart later. first_end-later (Ends d other) es c ending
          (λ another same. let client : d ≡ c = cc in eqb-false d c apart client)
          (ending_in-from c es ending later)
    ] refl is

pub ending_in-to : (c : ℕ) (es : List Event) (ending : Ending) (j : ℕ) → IsFirstEnd es c ending j → ending_in c es ≡ Some ending
ending_in-to c [] ending j found = let at = found.ends in absurd cc
ending_in-to c (Starts x v ∷ es) ending zero found = let at = found.ends in absurd cc
ending_in-to c (Starts x v ∷ es) ending (suc j) found =
    ending_in-to c es ending j (record { ends = found.ends; none_before = λ m other below. found.none_before (suc m) other (omega arith) })
ending_in-to c (Begins d call ∷ es) ending zero found = let at = found.ends in absurd cc
ending_in-to c (Begins d call ∷ es) ending (suc j) found =
    ending_in-to c es ending j (record { ends = found.ends; none_before = λ m other below. found.none_before (suc m) other (omega arith) })
ending_in-to c (Ends d other ∷ es) ending zero found =
    let same = same_Some _ _ found.ends in
    let client : d ≡ c = cc in
    let end : other ≡ ending = cc in
    rw (eq-eqb d c client) (ap Some end)
ending_in-to c (Ends d other ∷ es) ending (suc j) found =
    let apart : (d == c) ≡ false = elim (d == c) as (λ b. (d == c) ≡ b → b ≡ false) [
      | true ↦ λ same. absurd (found.none_before 0 other (omega arith) (ap (λ (n : ℕ). Some (Ends n other)) (eqb-true d c same)))
      | false ↦ λ _. refl
    ] refl in
    rw apart
    (ending_in-to c es ending j (record { ends = found.ends; none_before = λ m other below. found.none_before (suc m) other (omega arith) }))

-- a call of the run begins at its place, and ended with the first end of its client after it
pub record IsCallAt (es : List Event) (i : ℕ) (a : Call) : Type 0 where
  pub begun : IsAt es i (Begins a.client a.call)
  pub ended : a.ending ≡ ending_in a.client (drop (suc i) es)

pub calls-from : (b : ℕ) (es : List Event) (k : ℕ) (a : Call) → slice_get (calls_from b es) k ≡ Some a
    → (i : ℕ) × (a.place ≡ b + i) × IsCallAt es i a
calls-from b [] k a at = absurd cc
calls-from b (Starts x v ∷ es) k a at =
    let r = calls-from (b + 1) es k a at in let place = r.1 in (suc r.0, omega arith, record { begun = r.2.begun; ended = r.2.ended })
calls-from b (Begins c call ∷ es) zero a at =
    let same = same_Some _ _ at in
    let place : b ≡ a.place = ap (λ (d : Call). d.place) same in (
      0,
      omega arith,
      record {
        begun = ap (λ (d : Call). Some (Begins d.client d.call)) same;
        ended = sym (ap (λ (d : Call). d.ending) same) ∙ ap (λ (d : Call). ending_in d.client es) same;
      },
    )
calls-from b (Begins c call ∷ es) (suc k) a at =
    let r = calls-from (b + 1) es k a at in let place = r.1 in (suc r.0, omega arith, record { begun = r.2.begun; ended = r.2.ended })
calls-from b (Ends c ending ∷ es) k a at =
    let r = calls-from (b + 1) es k a at in let place = r.1 in (suc r.0, omega arith, record { begun = r.2.begun; ended = r.2.ended })

abbrev pub call_at : ℕ → ℕ → List Event → ℕ → ClientCall → Call
call_at b i es c call = record { client = c; place = b + i; call = call; ending = ending_in c (drop (suc i) es) }

later : (b i : ℕ) (es : List Event) (c : ℕ) (call : ClientCall) (e : Event) → call_at (b + 1) i es c call ≡ call_at b (suc i) (e ∷ es) c call
later b i es c call e = ap (λ (n : ℕ). record { client = c; place = n; call = call; ending = ending_in c (drop (suc i) es) }) (omega arith)

pub calls-to : (b : ℕ) (es : List Event) (i c : ℕ) (call : ClientCall) → IsAt es i (Begins c call)
    → (k : ℕ) × (slice_get (calls_from b es) k ≡ Some (call_at b i es c call))
calls-to b [] i c call at = absurd cc
calls-to b (Starts x v ∷ es) zero c call at = absurd cc
calls-to b (Starts x v ∷ es) (suc i) c call at =
    let r = calls-to (b + 1) es i c call at in (r.0, r.1 ∙ ap Some (later b i es c call (Starts x v)))
calls-to b (Begins d other ∷ es) zero c call at =
    let same = same_Some _ _ at in
    let client : d ≡ c = cc in
    let called : other ≡ call = cc in
    let place : b ≡ b + 0 = omega arith in
    (0, λ i. Some (record { client = client i; place = place i; call = called i; ending = ending_in (client i) es }))
calls-to b (Begins d other ∷ es) (suc i) c call at =
    let r = calls-to (b + 1) es i c call at in (suc r.0, r.1 ∙ ap Some (later b i es c call (Begins d other)))
calls-to b (Ends d ending ∷ es) zero c call at = absurd cc
calls-to b (Ends d ending ∷ es) (suc i) c call at =
    let r = calls-to (b + 1) es i c call at in (r.0, r.1 ∙ ap Some (later b i es c call (Ends d ending)))

-- a call that ended so did so at a place of the list
pub ended-from : (es : List Event) (i : ℕ) (a : Call) (ending : Ending) → IsCallAt es i a → a.ending ≡ Some ending
    → (j : ℕ) × IsEnded es a.client a.call i j ending
ended-from es i a ending here is =
    let found = ending_in-from a.client (drop (suc i) es) ending (sym here.ended ∙ is) in
    let at : IsAt es (suc i + found.0) (Ends a.client ending) = sym (slice_get-drop (suc i) es found.0) ∙ found.1.ends in (
      suc i + found.0,
      record {
        was_open = record {
          begun = here.begun;
          earlier = omega arith;
          unended = λ k other above below end.
              let same : suc i + (k - suc i) ≡ k = omega arith in
              found.1.none_before (k - suc i) other (omega arith) (slice_get-drop (suc i) es (k - suc i) ∙ ap (slice_get es) same ∙ end);
        };
        ends = at;
      },
    )

-- and the other way round
pub ended-to : (es : List Event) (c : ℕ) (call : ClientCall) (i j : ℕ) (ending : Ending) → IsEnded es c call i j ending
    → ending_in c (drop (suc i) es) ≡ Some ending
ended-to es c call i j ending end =
    let after = end.was_open.earlier in
    let same : suc i + (j - suc i) ≡ j = omega arith in
    ending_in-to c (drop (suc i) es) ending (j - suc i) (record {
      ends = slice_get-drop (suc i) es (j - suc i) ∙ ap (slice_get es) same ∙ end.ends;
      none_before = λ m other below at.
          end.was_open.unended (suc i + m) other (omega arith) (omega arith) (sym (slice_get-drop (suc i) es m) ∙ at);
    })

-- calls are in the order of their places, so two calls at one place are one
pub calls-rise : (b : ℕ) (es : List Event) (m n : ℕ) (first second : Call) → m < n → slice_get (calls_from b es) m ≡ Some first
    → slice_get (calls_from b es) n ≡ Some second → first.place < second.place
calls-rise b [] m n first second below at there = absurd cc
calls-rise b (Starts x v ∷ es) m n first second below at there = calls-rise (b + 1) es m n first second below at there
calls-rise b (Begins c call ∷ es) m zero first second below at there = absurd (omega arith)
calls-rise b (Begins c call ∷ es) zero (suc n) first second below at there =
    let here : b ≡ first.place = ap (λ (d : Call). d.place) (same_Some _ _ at) in
    let r = calls-from (b + 1) es n second there in
    let place = r.1 in
    omega arith
calls-rise b (Begins c call ∷ es) (suc m) (suc n) first second below at there = calls-rise (b + 1) es m n first second (omega arith) at there
calls-rise b (Ends c ending ∷ es) m n first second below at there = calls-rise (b + 1) es m n first second below at there

pub calls-once : (es : List Event) (m n : ℕ) (first second : Call) → slice_get (calls_from 0 es) m ≡ Some first
    → slice_get (calls_from 0 es) n ≡ Some second → first.place ≡ second.place → m ≡ n
calls-once es m n first second at there same = ⊎_elim
    (λ (below : m < n). let less = calls-rise 0 es m n first second below at there in absurd (omega arith))
    (λ (up_to : n ≤ m). ⊎_elim
    (λ (below : n < m). let less = calls-rise 0 es n m second first below there at in absurd (omega arith))
    (λ (over : m ≤ n). omega arith)
    (cases_lt n m))
    (cases_lt m n)
