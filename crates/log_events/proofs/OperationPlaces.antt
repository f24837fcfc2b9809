-- Where the operations of the history of a log are.
use Rattle.std.proofs.Common.{◌≡◌, ℕ, zero, suc, ◌+◌, ◌<◌, List, [], ◌∷◌, length, map, take, refl, ap, sym, ◌∙◌, inl, inr, arith, eqb-true, ⊎_elim}
use Rattle.std.specs.Prelude.{◌⊎◌, ◌==◌, Option, Some, slice_get, filter_map}
use Rattle.std.specs.List.{range_with_len}
use Rattle.std.proofs.lemmas.Option.{same_Some, slice_get_within, slice_get-get_or, get_or_from_slice_get}
use Rattle.std.proofs.lemmas.Bool.{eq-eqb}
use Rattle.std.proofs.lemmas.List.FromFn.{length-map-range_with_len, get_or-map-range_with_len}
use Rattle.model_history.specs.declared.op_id.OpId.{OpId}
use Rattle.model_history.specs.History.{session, entry}
use Rattle.order_causal.specs.Orders.{op}
use Rattle.order_causal.proofs.OrdersLaws.{session-of_history}
use Rattle.order_memory.proofs.RaiseLists.{at-left, at-right}
use Rattle.cert_check.proofs.CutSteps.{filter_stands}
use Rattle.cert_subhistories.proofs.KeptLists.{filter_place, passing_before}
use Rattle.log_events.specs.declared.event.ClientCall.{ClientCall}
use Rattle.log_events.specs.declared.event.Event.{Event}
use Rattle.log_events.specs.declared.event.Event.TheVariants.{Starts, Begins, Ends}
use Rattle.log_events.specs.Events.{IsAt, Call, run_calls, calls_of}
use Rattle.log_events.specs.Histories.{Operation, clients, operation, fork, client_session, fork_sessions, history_of}
use Rattle.log_events.proofs.ListPlaces.{filter_map-from, filter_map-to, append-cases}

module _ (es : List Event) where
  abbrev pub IsRunCall : Call → Type 0
  IsRunCall a = (k : ℕ) × (slice_get (run_calls es) k ≡ Some a)

  abbrev pub operation_of : Call → Option Operation
  operation_of a = operation es a.place a.call a.ending

  abbrev pub fork_of : Call → Option (List Operation)
  fork_of a = fork es a.place a.call a.ending

  -- the session of a client has the operations of its calls; the index of the operation of the m-th call of the run
  abbrev pub client_index : ℕ → ℕ → ℕ
  client_index c m = length (filter_map operation_of (take (passing_before (λ (a : Call). a.client == c) (run_calls es) m) (calls_of c es)))

  abbrev pub IsOfCall : ℕ → ℕ → Operation → Type 0
  IsOfCall c i e = (a : Call) × (is_call : IsRunCall a) × (a.client ≡ c) × (operation_of a ≡ Some e) × (client_index c is_call.0 ≡ i)

  pub operation-from : (c i : ℕ) (e : Operation) → slice_get (client_session es c) i ≡ Some e → IsOfCall c i e
  operation-from c i e at =
      let r = filter_map-from operation_of (calls_of c es) i e at in
      let there = filter_place (λ (a : Call). a.client == c) (run_calls es) r.0 r.1 r.2 in
      let index : client_index c there.0 ≡ i = ap (λ (n : ℕ). length (filter_map operation_of (take n (calls_of c es)))) there.4 ∙ r.4 in
      (r.1, (there.0, there.1), eqb-true r.1.client c there.2, r.3, index)

  pub operation-to : (a : Call) (e : Operation) → IsRunCall a → operation_of a ≡ Some e
      → (i : ℕ) × (slice_get (client_session es a.client) i ≡ Some e)
  operation-to a e (k, at) is =
      filter_map-to operation_of (calls_of a.client es) _ a e
      (filter_stands (λ (b : Call). b.client == a.client) (run_calls es) k a at (eq-eqb a.client a.client refl)) is

  -- the first sessions are those of the clients
  abbrev pub client_sessions : List (List Operation)
  client_sessions = map (client_session es) (range_with_len 0 (clients es))

  pub client-listed : (c : ℕ) → c < clients es → slice_get client_sessions c ≡ Some (client_session es c)
  client-listed c below =
      slice_get-get_or client_sessions c [] (let long = length-map-range_with_len (client_session es) 0 (clients es) in omega arith)
      ∙ ap Some (get_or-map-range_with_len (client_session es) 0 (clients es) c c [] below (omega arith))

  pub client-session : (s : ℕ) (l : List Operation) → slice_get client_sessions s ≡ Some l → l ≡ client_session es s
  client-session s l at =
      let within = slice_get_within client_sessions s l at in
      let long = length-map-range_with_len (client_session es) 0 (clients es) in
      let below : s < clients es = omega arith in
      same_Some _ _ (sym at ∙ client-listed s below)

  -- the other sessions are those of the forks; the session of the fork of the m-th call of the run
  abbrev pub fork_session : ℕ → ℕ
  fork_session m = length client_sessions + length (filter_map fork_of (take m (run_calls es)))

  abbrev pub IsForkOfCall : ℕ → List Operation → Type 0
  IsForkOfCall s l = (a : Call) × (is_call : IsRunCall a) × (fork_of a ≡ Some l) × (fork_session is_call.0 ≡ s)

  -- an operation is in the session of a client, or in a fork
  pub session-cases : (o : OpId) (e : Operation) → entry (history_of es) o ≡ Some e
      → (session (history_of es) o.session ≡ client_session es o.session) ⊎ IsForkOfCall o.session (session (history_of es) o.session)
  session-cases o e at =
      let l = session (history_of es) o.session in
      let listed : slice_get (history_of es).1 o.session ≡ Some l =
      slice_get-get_or (history_of es).1 o.session [] (session-of_history (history_of es) o (slice_get_within l o.index e at)) in
      ⊎_elim
      (λ (first : slice_get client_sessions o.session ≡ Some l). inl (client-session o.session l first))
      (λ (second : (j : ℕ) × (o.session ≡ length client_sessions + j) × (slice_get (fork_sessions es) j ≡ Some l)).
      let r = filter_map-from fork_of (run_calls es) second.0 l second.2 in
      let place : fork_session r.0 ≡ o.session = ap (λ (n : ℕ). length client_sessions + n) r.4 ∙ sym second.1 in
      inr (r.1, (r.0, r.2), r.3, place))
      (append-cases client_sessions (fork_sessions es) o.session l listed)

  pub history-from : (o : OpId) (e : Operation) → entry (history_of es) o ≡ Some e
      → IsOfCall o.session o.index e ⊎ IsForkOfCall o.session (session (history_of es) o.session)
  history-from o e at = ⊎_elim
      (λ (same : session (history_of es) o.session ≡ client_session es o.session).
      inl (operation-from o.session o.index e (ap (λ (l : List Operation). slice_get l o.index) (sym same) ∙ at)))
      (λ (forked : IsForkOfCall o.session (session (history_of es) o.session)). inr forked)
      (session-cases o e at)

  pub entry-listed : (s i : ℕ) (l : List Operation) (e : Operation) → slice_get (history_of es).1 s ≡ Some l → slice_get l i ≡ Some e
      → entry (history_of es) (op s i) ≡ Some e
  entry-listed s i l e at there = ap (λ (m : List Operation). slice_get m i) (get_or_from_slice_get (history_of es).1 s l [] at) ∙ there

  -- and the other way round
  pub history-client : (c i : ℕ) (e : Operation) → c < clients es → slice_get (client_session es c) i ≡ Some e
      → entry (history_of es) (op c i) ≡ Some e
  history-client c i e below =
      entry-listed c i (client_session es c) e
      (at-left client_sessions (fork_sessions es) c (client_session es c) (client-listed c below))

  pub history-call : (a : Call) (e : Operation) → a.client < clients es → IsRunCall a → operation_of a ≡ Some e
      → (i : ℕ) × (entry (history_of es) (op a.client i) ≡ Some e)
  history-call a e below is_call is = let r = operation-to a e is_call is in (r.0, history-client a.client r.0 e below r.1)

  pub history-fork : (a : Call) (l : List Operation) (i : ℕ) (e : Operation) → IsRunCall a → fork_of a ≡ Some l
      → slice_get l i ≡ Some e → (s : ℕ) × (entry (history_of es) (op s i) ≡ Some e)
  history-fork a l i e (k, at) is there =
      let r = filter_map-to fork_of (run_calls es) k a l at is in
      let s = length client_sessions + r.0 in
      (s, entry-listed s i l e (at-right client_sessions (fork_sessions es) s r.0 l refl r.1) there)

-- a client that calls has a session
pub client-below : (es : List Event) (i c : ℕ) (call : ClientCall) → IsAt es i (Begins c call) → c < clients es
client-below [] i c call at = absurd cc
client-below (Starts x v ∷ es) zero c call at = absurd cc
client-below (Starts x v ∷ es) (suc i) c call at = client-below es i c call at
client-below (Begins d other ∷ es) zero c call at = let same = same_Some _ _ at in let client : d ≡ c = cc in omega arith
client-below (Begins d other ∷ es) (suc i) c call at = let rest = client-below es i c call at in omega arith
client-below (Ends d ending ∷ es) zero c call at = absurd cc
client-below (Ends d ending ∷ es) (suc i) c call at = client-below es i c call at
