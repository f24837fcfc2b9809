-- The calls, the clients and the starts of events with one more.
use Rattle.std.proofs.Common.{◌≡◌, ℕ, zero, suc, ◌+◌, ◌≤◌, true, false, List, [], ◌∷◌, ◌++◌, length, map, set, refl, ap, ◌∙◌, arith}
use Rattle.std.specs.Prelude.{◌≢◌, ◌==◌, if◌then◌else◌, max, Option, Some, None, slice_get, filter_map}
use Rattle.std.proofs.lemmas.List.{append-nil}
use Rattle.std.proofs.lemmas.List.Elements.{filter_map-append}
use Rattle.std.proofs.lemmas.Option.{same_Some}
use Rattle.log_events.specs.declared.event.ClientCall.{ClientCall}
use Rattle.log_events.specs.declared.event.Ending.{Ending}
use Rattle.log_events.specs.declared.event.Event.{Event}
use Rattle.log_events.specs.declared.event.Event.TheVariants.{Starts, Begins, Ends}
use Rattle.log_events.specs.Events.{Call, ending_in, calls_from, run_calls}
use Rattle.log_events.specs.Histories.{clients, key, value, start_entry}

-- an event that is no end
abbrev IsNoEnd : Event → Type 0
IsNoEnd e = (d : ℕ) (ending : Ending) → e ≢ Ends d ending

ending_in-push : (c : ℕ) (es : List Event) (e : Event) → IsNoEnd e → ending_in c (es ++ e ∷ []) ≡ ending_in c es
ending_in-push c [] (Starts x v) other = refl
ending_in-push c [] (Begins d call) other = refl
ending_in-push c [] (Ends d ending) other = absurd (other d ending refl)
ending_in-push c (Starts x v ∷ es) e other = ending_in-push c es e other
ending_in-push c (Begins d call ∷ es) e other = ending_in-push c es e other
ending_in-push c (Ends d ending ∷ es) e other =
    ap (λ (o : Option Ending). if d == c then Some ending else o) (ending_in-push c es e other)

calls_from-start : (b : ℕ) (es : List Event) (x v : ℕ) → calls_from b (es ++ Starts x v ∷ []) ≡ calls_from b es
calls_from-start b [] x v = refl
calls_from-start b (Starts y u ∷ es) x v = calls_from-start (b + 1) es x v
calls_from-start b (Begins c call ∷ es) x v =
    let same : ending_in c (es ++ Starts x v ∷ []) ≡ ending_in c es = ending_in-push c es (Starts x v) (λ d ending is. absurd cc) in
    let rest = calls_from-start (b + 1) es x v in
    λ i. record { client = c; place = b; call = call; ending = same i } ∷ rest i
calls_from-start b (Ends c ending ∷ es) x v = calls_from-start (b + 1) es x v

-- a start adds no call
pub run_calls-start : (es : List Event) (x v : ℕ) → run_calls (es ++ Starts x v ∷ []) ≡ run_calls es
run_calls-start es x v = calls_from-start 0 es x v

calls_from-begin : (b : ℕ) (es : List Event) (c : ℕ) (call : ClientCall) (p : ℕ) → b + length es ≡ p
    → calls_from b (es ++ Begins c call ∷ []) ≡ calls_from b es ++ record { client = c; place = p; call = call; ending = None } ∷ []
calls_from-begin b [] c call p is =
    let place : b ≡ p = omega arith in λ i. record { client = c; place = place i; call = call; ending = None } ∷ []
calls_from-begin b (Starts x v ∷ es) c call p is = calls_from-begin (b + 1) es c call p (omega arith)
calls_from-begin b (Begins d other ∷ es) c call p is =
    let same : ending_in d (es ++ Begins c call ∷ []) ≡ ending_in d es = ending_in-push d es (Begins c call) (λ f ending begin. absurd cc) in
    let rest = calls_from-begin (b + 1) es c call p (omega arith) in
    λ i. record { client = d; place = b; call = other; ending = same i } ∷ rest i
calls_from-begin b (Ends d ending ∷ es) c call p is = calls_from-begin (b + 1) es c call p (omega arith)

-- a begin adds a call that has not ended
pub run_calls-begin : (es : List Event) (c : ℕ) (call : ClientCall)
    → run_calls (es ++ Begins c call ∷ []) ≡ run_calls es ++ record { client = c; place = length es; call = call; ending = None } ∷ []
run_calls-begin es c call = calls_from-begin 0 es c call (length es) (omega arith)

-- how a call of the client c that ended so, or did not, ends where an end of the client d comes after all others
abbrev pub ends_with : ℕ → Ending → ℕ → Option Ending → Option Ending
ends_with d ending c (Some first) = Some first
ends_with d ending c None = if d == c then Some ending else None

abbrev pub ended_by : ℕ → Ending → Call → Call
ended_by d ending a = record { client = a.client; place = a.place; call = a.call; ending = ends_with d ending a.client a.ending }

ending_in-end : (c : ℕ) (es : List Event) (d : ℕ) (ending : Ending) → ending_in c (es ++ Ends d ending ∷ []) ≡ ends_with d ending c (ending_in c es)
ending_in-end c [] d ending = refl
ending_in-end c (Starts x v ∷ es) d ending = ending_in-end c es d ending
ending_in-end c (Begins f call ∷ es) d ending = ending_in-end c es d ending
ending_in-end c (Ends f first ∷ es) d ending =
    let rest = ending_in-end c es d ending in
    elim (f == c) as (λ b. (if b then Some first else ending_in c (es ++ Ends d ending ∷ []))
    ≡ ends_with d ending c (if b then Some first else ending_in c es)) [
      | true ↦ refl
      | false ↦ rest
    ]

calls_from-end : (b : ℕ) (es : List Event) (d : ℕ) (ending : Ending)
    → calls_from b (es ++ Ends d ending ∷ []) ≡ map (ended_by d ending) (calls_from b es)
calls_from-end b [] d ending = refl
calls_from-end b (Starts x v ∷ es) d ending = calls_from-end (b + 1) es d ending
calls_from-end b (Begins c call ∷ es) d ending =
    let same = ending_in-end c es d ending in
    let rest = calls_from-end (b + 1) es d ending in
    λ i. record { client = c; place = b; call = call; ending = same i } ∷ rest i
calls_from-end b (Ends c other ∷ es) d ending = calls_from-end (b + 1) es d ending

-- an end ends the calls of its client that have not ended
pub run_calls-end : (es : List Event) (d : ℕ) (ending : Ending) → run_calls (es ++ Ends d ending ∷ []) ≡ map (ended_by d ending) (run_calls es)
run_calls-end es d ending = calls_from-end 0 es d ending

map-none : {X : Type 0} (f : X → X) (xs : List X) → ((k : ℕ) (x : X) → slice_get xs k ≡ Some x → f x ≡ x) → map f xs ≡ xs
map-none f [] stay = refl
map-none f (x ∷ xs) stay =
    let first = stay 0 x refl in let rest = map-none f xs (λ k. stay (suc k)) in λ i. first i ∷ rest i

-- a map that changes one element
pub map-one : {X : Type 0} (f : X → X) (xs : List X) (p : ℕ) (a : X) → slice_get xs p ≡ Some a
    → ((k : ℕ) (x : X) → slice_get xs k ≡ Some x → k ≢ p → f x ≡ x) → map f xs ≡ set xs p (f a)
map-one f [] p a at stay = absurd cc
map-one f (x ∷ xs) zero a at stay =
    let first = ap f (same_Some _ _ at) in
    let rest = map-none f xs (λ k y there. stay (suc k) y there (λ same. absurd (omega arith))) in
    λ i. first i ∷ rest i
map-one f (x ∷ xs) (suc p) a at stay =
    let first = stay 0 x refl (λ same. absurd (omega arith)) in
    let rest = map-one f xs p a at (λ k y there apart. stay (suc k) y there (λ same. apart (omega arith))) in
    λ i. first i ∷ rest i

pub clients-begin : (es : List Event) (c : ℕ) (call : ClientCall) → clients (es ++ Begins c call ∷ []) ≡ max (clients es) (c + 1)
clients-begin [] c call = omega arith
clients-begin (Starts x v ∷ es) c call = clients-begin es c call
clients-begin (Begins d other ∷ es) c call = let rest = clients-begin es c call in omega arith
clients-begin (Ends d ending ∷ es) c call = clients-begin es c call

-- an event of no call adds no client
pub clients-push : (es : List Event) (e : Event) → clients (e ∷ []) ≡ 0 → clients (es ++ e ∷ []) ≡ clients es
clients-push [] e none = none
clients-push (Starts x v ∷ es) e none = clients-push es e none
clients-push (Begins d other ∷ es) e none = ap (λ (n : ℕ). max (d + 1) n) (clients-push es e none)
clients-push (Ends d ending ∷ es) e none = clients-push es e none

pub starts-start : (es : List Event) (x v : ℕ)
    → filter_map start_entry (es ++ Starts x v ∷ []) ≡ filter_map start_entry es ++ (key x, value v) ∷ []
starts-start es x v = filter_map-append start_entry es (Starts x v ∷ [])

-- an event that is no start adds no entry
pub starts-push : (es : List Event) (e : Event) → start_entry e ≡ None → filter_map start_entry (es ++ e ∷ []) ≡ filter_map start_entry es
starts-push es (Starts x v) none = absurd cc
starts-push es (Begins c call) none =
    filter_map-append start_entry es (Begins c call ∷ []) ∙ append-nil (filter_map start_entry es)
starts-push es (Ends c ending) none =
    filter_map-append start_entry es (Ends c ending ∷ []) ∙ append-nil (filter_map start_entry es)

length-calls_from : (b : ℕ) (es : List Event) → length (calls_from b es) ≤ length es
length-calls_from b [] = omega arith
length-calls_from b (Starts x v ∷ es) = let rest = length-calls_from (b + 1) es in omega arith
length-calls_from b (Begins c call ∷ es) = let rest = length-calls_from (b + 1) es in omega arith
length-calls_from b (Ends c ending ∷ es) = let rest = length-calls_from (b + 1) es in omega arith

-- there are no more calls than events
pub length-run_calls : (es : List Event) → length (run_calls es) ≤ length es
length-run_calls es = length-calls_from 0 es
