-- The places of the ends of calls, with one more event.
use Rattle.std.proofs.Common.{◌≡◌, ℕ, zero, suc, ◌+◌, ◌<◌, ◌≤◌, List, [], ◌∷◌, ◌++◌, length, map, set, refl, ap, sym, subst, ◌∙◌, ⊎_elim, arith}
use Rattle.std.specs.Prelude.{◌≢◌, Some, None, slice_get, slice_index}
use Rattle.std.proofs.lemmas.Bool.{cases_eq, ne_eqb}
use Rattle.std.proofs.lemmas.List.{length-append, length-map, length-set, get_or-set_other, get_or-set_same}
use Rattle.std.proofs.lemmas.Option.{same_Some, slice_get_within}
use Rattle.log_events.specs.declared.event.ClientCall.{ClientCall}
use Rattle.log_events.specs.declared.event.Ending.{Ending}
use Rattle.log_events.specs.declared.event.Event.{Event}
use Rattle.log_events.specs.declared.event.Event.TheVariants.{Starts, Begins, Ends}
use Rattle.log_events.specs.Events.{Call, IsEnded, run_calls}
use Rattle.log_events.specs.Kept.{AreEnds, ArePending, IsEndLink}
use Rattle.log_events.proofs.EventFronts.{IsEnded-push, IsOpen-push, slice_get-append_at}
use Rattle.log_events.proofs.Following.{one-pending}
use Rattle.log_events.proofs.ListPlaces.{append-cases}
use Rattle.log_events.proofs.PushedEvents.{ended_by, ends_with, run_calls-begin, run_calls-end, run_calls-start}

pub ends-new : AreEnds [] []
ends-new = record { each = λ k a at. absurd cc; past = λ k above. refl; room = omega arith }

-- a call that stays as it is
link-push : (es : List Event) (e : Event) (a : Call) (link : ℕ) → IsEndLink es a link → IsEndLink (es ++ e ∷ []) a link
link-push es e a zero none = none
link-push es e a (suc j) (ending, end) = (ending, IsEnded-push es e a.client a.call a.place j ending end)

pub ends-start : (es : List Event) (ends : List ℕ) (x v : ℕ) → AreEnds es ends → AreEnds (es ++ Starts x v ∷ []) ends
ends-start es ends x v are =
    let same = run_calls-start es x v in
    let long = ap (λ (l : List Call). length l) same in record {
      each = λ k a at. link-push es (Starts x v) a (slice_index ends k) (are.each k a (sym (ap (λ (l : List Call). slice_get l k) same) ∙ at));
      past = λ k above. are.past k (omega arith);
      room = let room = are.room in omega arith;
    }

-- the table may be longer
pub ends-wide : (es : List Event) (ends wide : List ℕ) → AreEnds es ends → ((k : ℕ) → slice_index wide k ≡ slice_index ends k)
    → length ends ≤ length wide → AreEnds es wide
ends-wide es ends wide are same longer = record {
  each = λ k a at. subst (IsEndLink es a) (sym (same k)) (are.each k a at);
  past = λ k above. same k ∙ are.past k above;
  room = let room = are.room in omega arith;
}

pub ends-begin : (es : List Event) (ends : List ℕ) (c : ℕ) (call : ClientCall) → AreEnds es ends → length (run_calls es) < length ends
    → AreEnds (es ++ Begins c call ∷ []) ends
ends-begin es ends c call are room =
    let same = run_calls-begin es c call in
    let longer = ap (λ (l : List Call). length l) same in
    let one = length-append (run_calls es) (begun ∷ []) in record {
      each = λ k a at. ⊎_elim
          {C = IsEndLink (es ++ Begins c call ∷ []) a (slice_index ends k)}
          (λ (first : slice_get (run_calls es) k ≡ Some a). link-push es (Begins c call) a (slice_index ends k) (are.each k a first))
          (λ (second : (j : ℕ) × (k ≡ length (run_calls es) + j) × (slice_get (begun ∷ []) j ≡ Some a)). last k second.0 a second.1 second.2)
          (append-cases (run_calls es) (begun ∷ []) k a (sym (ap (λ (l : List Call). slice_get l k) same) ∙ at));
      past = λ k above. are.past k (omega arith);
      room = omega arith;
    }
  where
    begun : Call
    begun = record { client = c; place = length es; call = call; ending = None }

    last : (k j : ℕ) (a : Call) → k ≡ length (run_calls es) + j → slice_get (begun ∷ []) j ≡ Some a
        → IsEndLink (es ++ Begins c call ∷ []) a (slice_index ends k)
    last k zero a place is =
        subst (IsEndLink (es ++ Begins c call ∷ []) a) (sym (are.past k (omega arith))) (sym (ap (λ (d : Call). d.ending) (same_Some _ _ is)))
    last k (suc j) a place is = absurd cc

map-from : {X Y : Type 0} (f : X → Y) (xs : List X) (k : ℕ) (y : Y) → slice_get (map f xs) k ≡ Some y
    → (x : X) × (slice_get xs k ≡ Some x) × (f x ≡ y)
map-from f [] k y at = absurd cc
map-from f (x ∷ xs) zero y at = (x, refl, same_Some _ _ at)
map-from f (x ∷ xs) (suc k) y at = map-from f xs k y at

-- a call that another client's end leaves as it is, or that had ended before
link-end : (es : List Event) (c : ℕ) (ending : Ending) (a : Call) (link : ℕ) → (a.ending ≡ None → a.client ≢ c) → IsEndLink es a link
    → IsEndLink (es ++ Ends c ending ∷ []) (ended_by c ending a) link
link-end es c ending a zero other none =
    ap (ends_with c ending a.client) none ∙ rw (ne_eqb c a.client (λ same. other none (sym same))) refl
link-end es c ending a (suc j) other (first, end) = (first, IsEnded-push es (Ends c ending) a.client a.call a.place j first end)

pub ends-end : (es : List Event) (ends pending : List ℕ) (c k : ℕ) (a : Call) (ending : Ending) → AreEnds es ends
    → ArePending (run_calls es) pending → slice_index pending c ≡ k + 1 → slice_get (run_calls es) k ≡ Some a
    → AreEnds (es ++ Ends c ending ∷ []) (set ends k (length es + 1))
ends-end es ends pending c k a ending are open_calls is at =
    let same = run_calls-end es c ending in
    let long = ap (λ (l : List Call). length l) same in
    let mapped = length-map (run_calls es) (ended_by c ending) in
    let within = slice_get_within (run_calls es) k a at in
    let room = are.room in
    let inside : k < length ends = omega arith in
    let kept = length-set ends k (length es + 1) in record {
      each = λ m b there.
          let (x, old, made) = map-from (ended_by c ending) (run_calls es) m b (sym (ap (λ (l : List Call). slice_get l m) same) ∙ there) in
          subst (λ (d : Call). IsEndLink (es ++ Ends c ending ∷ []) d (slice_index (set ends k (length es + 1)) m)) made
          (⊎_elim
          {C = IsEndLink (es ++ Ends c ending ∷ []) (ended_by c ending x) (slice_index (set ends k (length es + 1)) m)}
          (λ (equal : m ≡ k).
          let own : x ≡ a = same_Some _ _ (sym old ∙ ap (slice_get (run_calls es)) equal ∙ at) in
          let here = ap (slice_index (set ends k (length es + 1))) equal ∙ get_or-set_same ends k (length es + 1) 0 inside in
          let link : slice_index (set ends k (length es + 1)) m ≡ suc (length es) = omega arith in
          subst (IsEndLink (es ++ Ends c ending ∷ []) (ended_by c ending x)) (sym link)
          (subst (λ (d : Call). IsEndLink (es ++ Ends c ending ∷ []) (ended_by c ending d) (suc (length es))) (sym own) (ending, ended_here)))
          (λ (apart : m ≡ k → ⊥).
          subst (IsEndLink (es ++ Ends c ending ∷ []) (ended_by c ending x)) (sym (get_or-set_other ends k m (length es + 1) 0 apart))
          (link-end es c ending x (slice_index ends m) (other m x old apart) (are.each m x old)))
          (cases_eq m k));
      past = λ m above. get_or-set_other ends k m (length es + 1) 0 (λ equal. absurd (omega arith)) ∙ are.past m (omega arith);
      room = omega arith;
    }
  where
    client : a.client ≡ c
    client =
        let b = open_calls.open_still c k is in
        let same : a ≡ b.0 = same_Some _ _ (sym at ∙ b.1) in ap (λ (d : Call). d.client) same ∙ b.2

    ended_here : IsEnded (es ++ Ends c ending ∷ []) a.client a.call a.place (length es) ending
    ended_here = subst (λ (d : ℕ). IsEnded (es ++ Ends c ending ∷ []) d a.call a.place (length es) ending) (sym client) (record {
      was_open = IsOpen-push es (Ends c ending) c a.call a.place (length es) (omega arith) (one-pending es pending open_calls c k a is at);
      ends = slice_get-append_at es (Ends c ending) [];
    })

    other : (m : ℕ) (x : Call) → slice_get (run_calls es) m ≡ Some x → (m ≡ k → ⊥) → x.ending ≡ None → x.client ≢ c
    other m x there apart none same =
        let listed = open_calls.listed m x there none in
        let equal = ap (slice_index pending) same in
        apart (omega arith)
