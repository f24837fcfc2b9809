-- What a log keeps with one more event.
use Rattle.std.proofs.Common.{◌≡◌, ℕ, zero, suc, ◌+◌, ◌*◌, ◌^◌, ◌<◌, ◌≤◌, List, [], ◌∷◌, ◌++◌, length, map, set, refl, ap, sym, subst, ◌∙◌, ⊎_elim, arith, eq-eqb}
use Rattle.std.specs.Prelude.{◌≢◌, max, Some, None, slice_get, slice_index}
use Rattle.std.proofs.lemmas.Bool.{cases_eq, cases_lt, ne_eqb}
use Rattle.std.proofs.lemmas.List.{length-append, get_or-set_other, get_or-set_same, get_or_past}
use Rattle.std.proofs.lemmas.List.Elements.{All-nil, All-push, All-set}
use Rattle.std.proofs.lemmas.Option.{same_Some, slice_get_within, get_or_from_slice_get}
use Rattle.log_events.specs.declared.event.ClientCall.{ClientCall}
use Rattle.log_events.specs.declared.event.Ending.{Ending}
use Rattle.log_events.specs.declared.event.Event.{Event}
use Rattle.log_events.specs.declared.event.Event.TheVariants.{Starts, Begins, Ends}
use Rattle.log_events.specs.Events.{Call, run_calls}
use Rattle.log_events.specs.Histories.{key, value}
use Rattle.log_events.proofs.ListPlaces.{append-cases}
use Rattle.log_events.specs.declared.limits.TheConstants.{MAX_EVENTS, MAX_NAME}
use Rattle.log_events.specs.Pending.{MayFollow}
use Rattle.log_events.specs.Kept.{ArePending, IsAbove, IsKept, IsSmallCall}
use Rattle.log_events.specs.Shapes.{called_key}
use Rattle.log_events.proofs.EventFronts.{IsAllowed-push, slice_get-append, slice_get-append_at}
use Rattle.log_events.proofs.Following.{start-above, begin-free}
use Rattle.log_events.proofs.PushedEvents.{run_calls-start, run_calls-begin, run_calls-end, ends_with, ended_by, map-one, clients-begin, clients-push, starts-start, starts-push}
use Rattle.log_events.proofs.StartKeys.{IsRising-push}

pub kept-new : IsKept [] [] [] [] 0 0
kept-new = record {
  allowed = λ j e at. absurd cc;
  rising = λ k inside. absurd (omega arith);
  starts_are = refl;
  calls_are = refl;
  are_pending = record { listed = λ k a at. absurd cc; open_still = λ client k is. absurd (omega arith) };
  sessions_are = refl;
  count = refl;
  few = omega arith;
  small_starts = All-nil (λ entry. entry.0 < 2 ^ 32);
  small_calls = All-nil IsSmallCall;
}

pub kept-start : (es : List Event) (starts : List (ℕ × ℕ)) (calls : List Call) (pending : List ℕ) (sessions events x v : ℕ)
    → IsKept es starts calls pending sessions events → MayFollow es (Starts x v) → length es < MAX_EVENTS → x ≤ MAX_NAME
    → IsKept (es ++ Starts x v ∷ []) (starts ++ (2 * x, 2 * v + 1) ∷ []) calls pending sessions (events + 1)
kept-start es starts calls pending sessions events x v kept may room small =
    let above : IsAbove starts x = subst (λ (s : List (ℕ × ℕ)). IsAbove s x) (sym kept.starts_are) (start-above es x v may) in
    let count = kept.count in
    let longer = length-append es (Starts x v ∷ []) in record {
      allowed = IsAllowed-push es (Starts x v) kept.allowed may;
      rising = IsRising-push starts x (value v) kept.rising above;
      starts_are = ap (λ (s : List (ℕ × ℕ)). s ++ (key x, value v) ∷ []) kept.starts_are ∙ sym (starts-start es x v);
      calls_are = kept.calls_are ∙ sym (run_calls-start es x v);
      are_pending = kept.are_pending;
      sessions_are = kept.sessions_are ∙ sym (clients-push es (Starts x v) refl);
      count = omega arith;
      few = omega arith;
      small_starts = All-push (λ entry. entry.0 < 2 ^ 32) starts (key x, value v) kept.small_starts (omega arith);
      small_calls = kept.small_calls;
    }

ArePending-push : (calls : List Call) (pending wide : List ℕ) (c p : ℕ) (call : ClientCall) → ArePending calls pending → slice_index pending c ≡ 0
    → ((d : ℕ) → slice_index wide d ≡ slice_index pending d) → c < length wide
    → ArePending (calls ++ record { client = c; place = p; call = call; ending = None } ∷ []) (set wide c (length calls + 1))
ArePending-push calls pending wide c p call are free same inside = record {
  listed = λ k b at is_open. ⊎_elim
      (λ (first : slice_get calls k ≡ Some b).
      let listed = are.listed k b first is_open in
      let apart : b.client ≢ c = λ client. let equal = ap (slice_index pending) client in omega arith in
      get_or-set_other wide c b.client (length calls + 1) 0 apart ∙ same b.client ∙ listed)
      (λ (second : (j : ℕ) × (k ≡ length calls + j) × (slice_get (begun ∷ []) j ≡ Some b)).
      at_last k second.0 b second.1 second.2)
      (append-cases calls (begun ∷ []) k b at);
  open_still = λ client k is. ⊎_elim
      (λ (equal : client ≡ c).
      let here = get_or-set_same wide c (length calls + 1) 0 inside in
      let moved = ap (slice_index (set wide c (length calls + 1))) equal in
      let place : length calls ≡ k = omega arith in
      (begun, ap (slice_get (calls ++ begun ∷ [])) (sym place) ∙ slice_get-append_at calls begun [], sym equal, refl))
      (λ (apart : client ≡ c → ⊥).
      let stays = get_or-set_other wide c client (length calls + 1) 0 apart in
      let old = same client in
      let b = are.open_still client k (omega arith) in
      (b.0, sym (slice_get-append calls (begun ∷ []) k (slice_get_within calls k b.0 b.1)) ∙ b.1, b.2, b.3))
      (cases_eq client c);
}
  where
    begun : Call
    begun = record { client = c; place = p; call = call; ending = None }

    at_last : (k j : ℕ) (b : Call) → k ≡ length calls + j → slice_get (begun ∷ []) j ≡ Some b → slice_index (set wide c (length calls + 1)) b.client ≡ k + 1
    at_last k zero b place is =
        let client = ap (λ (d : Call). d.client) (same_Some _ _ is) in
        let here = get_or-set_same wide c (length calls + 1) 0 inside in
        let moved = ap (slice_index (set wide c (length calls + 1))) client in
        omega arith
    at_last k (suc j) b place is = absurd cc

pub kept-begin : (es : List Event) (starts : List (ℕ × ℕ)) (calls : List Call) (pending : List ℕ) (sessions events c : ℕ) (call : ClientCall)
    → IsKept es starts calls pending sessions events → MayFollow es (Begins c call) → length es < MAX_EVENTS → c ≤ MAX_NAME → called_key call ≤ MAX_NAME
    → (wide : List ℕ) → ((d : ℕ) → slice_index wide d ≡ slice_index pending d) → c < length wide
    → IsKept (es ++ Begins c call ∷ []) starts (calls ++ record { client = c; place = events; call = call; ending = None } ∷ [])
    (set wide c (length calls + 1)) (max sessions (c + 1)) (events + 1)
kept-begin es starts calls pending sessions events c call kept may room small_client small_key wide same inside =
    let count = kept.count in
    let longer = length-append es (Begins c call ∷ []) in
    let are = subst (λ (l : List Call). ArePending l pending) kept.calls_are kept.are_pending in
    let calls_are : calls ++ record { client = c; place = events; call = call; ending = None } ∷ []
    ≡ run_calls es ++ record { client = c; place = length es; call = call; ending = None } ∷ []
    = λ i. kept.calls_are i ++ record { client = c; place = kept.count i; call = call; ending = None } ∷ [] in record {
      allowed = IsAllowed-push es (Begins c call) kept.allowed may;
      rising = kept.rising;
      starts_are = kept.starts_are ∙ sym (starts-push es (Begins c call) refl);
      calls_are = calls_are ∙ sym (run_calls-begin es c call);
      are_pending = ArePending-push calls pending wide c events call kept.are_pending (begin-free es pending are c call may) same inside;
      sessions_are = ap (λ (n : ℕ). max n (c + 1)) kept.sessions_are ∙ sym (clients-begin es c call);
      count = omega arith;
      few = omega arith;
      small_starts = kept.small_starts;
      small_calls = All-push IsSmallCall calls (record { client = c; place = events; call = call; ending = None }) kept.small_calls
          (record { client = small_client; key = small_key; place = omega arith });
    }

slice_get-set_other : {X : Type 0} (xs : List X) (i j : ℕ) (x : X) → j ≢ i → slice_get (set xs i x) j ≡ slice_get xs j
slice_get-set_other [] i j x apart = refl
slice_get-set_other (y ∷ xs) zero zero x apart = absurd (apart refl)
slice_get-set_other (y ∷ xs) zero (suc j) x apart = refl
slice_get-set_other (y ∷ xs) (suc i) zero x apart = refl
slice_get-set_other (y ∷ xs) (suc i) (suc j) x apart = slice_get-set_other xs i j x (λ same. apart (ap suc same))

slice_get-set_same : {X : Type 0} (xs : List X) (i : ℕ) (x y : X) → slice_get xs i ≡ Some y → slice_get (set xs i x) i ≡ Some x
slice_get-set_same [] i x y at = absurd cc
slice_get-set_same (z ∷ xs) zero x y at = refl
slice_get-set_same (z ∷ xs) (suc i) x y at = slice_get-set_same xs i x y at

abbrev ended : Call → Ending → Call
ended a ending = record { client = a.client; place = a.place; call = a.call; ending = Some ending }

ArePending-end : (calls : List Call) (pending : List ℕ) (c k : ℕ) (a : Call) (ending : Ending) → ArePending calls pending
    → slice_index pending c ≡ k + 1 → slice_get calls k ≡ Some a → ArePending (set calls k (ended a ending)) (set pending c 0)
ArePending-end calls pending c k a ending are is at = record {
  listed = λ m b there is_open. ⊎_elim
      (λ (equal : m ≡ k).
      let found = same_Some _ _ (sym (slice_get-set_same calls k (ended a ending) a at) ∙ ap (slice_get (set calls k (ended a ending))) (sym equal) ∙ there) in
      let wrong : Some ending ≡ None = ap (λ (d : Call). d.ending) found ∙ is_open in
      absurd cc)
      (λ (apart : m ≡ k → ⊥).
      let listed = are.listed m b (sym (slice_get-set_other calls k m (ended a ending) apart) ∙ there) is_open in
      let other : b.client ≢ c = λ client. let equal = ap (slice_index pending) client in apart (omega arith) in
      get_or-set_other pending c b.client 0 0 other ∙ listed)
      (cases_eq m k);
  open_still = λ client m some. ⊎_elim
      (λ (equal : client ≡ c).
      let here = get_or-set_same pending c 0 0 inside in
      let moved = ap (slice_index (set pending c 0)) equal in
      absurd (omega arith))
      (λ (apart : client ≡ c → ⊥).
      let stays = get_or-set_other pending c client 0 0 apart in
      let b = are.open_still client m (sym stays ∙ some) in
      let own = are.open_still c k is in
      let other : m ≢ k = λ equal.
      let found = same_Some _ _ (sym b.1 ∙ ap (slice_get calls) equal ∙ own.1) in
      apart (sym b.2 ∙ ap (λ (d : Call). d.client) found ∙ own.2) in
      (b.0, slice_get-set_other calls k m (ended a ending) other ∙ b.1, b.2, b.3))
      (cases_eq client c);
}
  where
    inside : c < length pending
    inside = ⊎_elim
        (λ (below : c < length pending). below)
        (λ (past : length pending ≤ c). let none = get_or_past pending c 0 past in absurd (omega arith))
        (cases_lt c (length pending))

pub kept-end : (es : List Event) (starts : List (ℕ × ℕ)) (calls : List Call) (pending : List ℕ) (sessions events c k : ℕ) (a : Call) (ending : Ending)
    → IsKept es starts calls pending sessions events → MayFollow es (Ends c ending) → length es < MAX_EVENTS
    → slice_index pending c ≡ k + 1 → slice_get calls k ≡ Some a
    → IsKept (es ++ Ends c ending ∷ []) starts (set calls k (record { client = a.client; place = a.place; call = a.call; ending = Some ending }))
    (set pending c 0) sessions (events + 1)
kept-end es starts calls pending sessions events c k a ending kept may room is at =
    let count = kept.count in
    let longer = length-append es (Ends c ending ∷ []) in
    let own = kept.are_pending.open_still c k is in
    let same : a ≡ own.0 = same_Some _ _ (sym at ∙ own.1) in
    let client : a.client ≡ c = ap (λ (d : Call). d.client) same ∙ own.2 in
    let open_still : a.ending ≡ None = ap (λ (d : Call). d.ending) same ∙ own.3 in
    let ends : ends_with c ending a.client a.ending ≡ Some ending =
    ap (ends_with c ending a.client) open_still ∙ rw (eq-eqb c a.client (sym client)) refl in
    let last : ended_by c ending a ≡ ended a ending = λ i. record { client = a.client; place = a.place; call = a.call; ending = ends i } in
    let small = subst IsSmallCall (get_or_from_slice_get calls k a a at) (kept.small_calls k a (slice_get_within calls k a at)) in record {
      allowed = IsAllowed-push es (Ends c ending) kept.allowed may;
      rising = kept.rising;
      starts_are = kept.starts_are ∙ sym (starts-push es (Ends c ending) refl);
      calls_are = ap (set calls k) (sym last) ∙ sym (map-one (ended_by c ending) calls k a at (stays c k ending is))
          ∙ ap (map (ended_by c ending)) kept.calls_are ∙ sym (run_calls-end es c ending);
      are_pending = ArePending-end calls pending c k a ending kept.are_pending is at;
      sessions_are = kept.sessions_are ∙ sym (clients-push es (Ends c ending) refl);
      count = omega arith;
      few = omega arith;
      small_starts = kept.small_starts;
      small_calls = All-set IsSmallCall calls k (ended a ending) (record { client = small.client; key = small.key; place = small.place }) kept.small_calls;
    }
  where
    stays : (c k : ℕ) (ending : Ending) → slice_index pending c ≡ k + 1 → (m : ℕ) (b : Call) → slice_get calls m ≡ Some b → m ≢ k → ended_by c ending b ≡ b
    stays c k ending is m b there apart =
        let ends : ends_with c ending b.client b.ending ≡ b.ending =
        elim (b.ending) as (λ o. b.ending ≡ o → ends_with c ending b.client o ≡ o) [
          | Some first ↦ λ _. refl
          | None ↦ λ none.
              let listed = kept.are_pending.listed m b there none in
              let other : c ≢ b.client = λ client. let equal = ap (slice_index pending) client in apart (omega arith) in
              rw (ne_eqb c b.client other) refl
        ] refl in
        λ i. record { client = b.client; place = b.place; call = b.call; ending = ends i }

-- the table of pending calls may be longer
pub kept-wide : (es : List Event) (starts : List (ℕ × ℕ)) (calls : List Call) (pending wide : List ℕ) (sessions events : ℕ)
    → IsKept es starts calls pending sessions events → ((d : ℕ) → slice_index wide d ≡ slice_index pending d)
    → IsKept es starts calls wide sessions events
kept-wide es starts calls pending wide sessions events kept same = record {
  allowed = kept.allowed;
  rising = kept.rising;
  starts_are = kept.starts_are;
  calls_are = kept.calls_are;
  are_pending = record {
    listed = λ k a at is_open. same a.client ∙ kept.are_pending.listed k a at is_open;
    open_still = λ client k is. kept.are_pending.open_still client k (sym (same client) ∙ is);
  };
  sessions_are = kept.sessions_are;
  count = kept.count;
  few = kept.few;
  small_starts = kept.small_starts;
  small_calls = kept.small_calls;
}
