-- The calls of a history by a choice are listed as its operations are.
use Rattle.std.proofs.Common.{◌≡◌, ℕ, zero, suc, ◌+◌, ◌<◌, Bool, true, false, List, [], ◌∷◌, length, map, refl, ap, sym, ◌∙◌, inl, inr, ⊎_elim, arith, eqb-true}
use Rattle.std.specs.Prelude.{◌==◌, cond, if◌then◌else◌, Contains, Option, Some, None, filter, filter_map, option_map, slice_get, slice_index_or}
use Rattle.std.specs.List.{cons_option, range_with_len}
use Rattle.std.specs.Option.{is_some}
use Rattle.std.proofs.lemmas.List.{length-append}
use Rattle.std.proofs.lemmas.List.FromFn.{length-map-range_with_len, get_or-map-range_with_len}
use Rattle.std.proofs.lemmas.Option.{same_Some, slice_get-get_or, slice_get_within, get_or_from_slice_get}
use Rattle.model_objects.specs.declared.register.RegisterRet.TheVariants.{Value}
use Rattle.model_history.specs.declared.op_id.OpId.{OpId}
use Rattle.model_history.specs.History.{entry, session}
use Rattle.order_causal.proofs.OrdersLaws.{session-of_history}
use Rattle.order_memory.proofs.RaiseLists.{at-left, at-right}
use Rattle.log_events.specs.declared.event.ClientCall.{ClientCall}
use Rattle.log_events.specs.declared.event.ClientCall.TheVariants.{WriteTo, ReadOf, DeleteOf}
use Rattle.log_events.specs.declared.event.Ending.{Ending}
use Rattle.log_events.specs.declared.event.Ending.TheVariants.{Answered, Got, GotNothing, Failed, Lost}
use Rattle.log_events.specs.declared.event.Event.{Event}
use Rattle.log_events.specs.Events.{Call, calls_of, run_calls}
use Rattle.log_events.specs.Histories.{Operation, clients, deleted, key, mark, read, write}
use Rattle.log_events.proofs.CallKindsLaws.{place-Contains}
use Rattle.log_events.proofs.CallOperations.{fork-call}
use Rattle.log_events.proofs.ListPlaces.{append-cases, slice_get-found}
use Rattle.log_choices.specs.Choices.{Choice}
use Rattle.log_choices.specs.ChosenHistories.{client_session_by, fork_by, fork_sessions_by, history_by, is_seen, operation_by}
use Rattle.log_choices.specs.ChosenOrigins.{AreOriginsBy, IsOfCall, client_origins_by, fork_origins_by, origins_by}

from_filter : {X : Type 0} (p : X → Bool) (xs : List X) (k : ℕ) (x : X) → slice_get (filter p xs) k ≡ Some x
    → (m : ℕ) × (slice_get xs m ≡ Some x) × (p x ≡ true)
from_filter p [] k x at = absurd cc
from_filter p (z ∷ zs) k x at =
    elim (p z) as (λ b. p z ≡ b → slice_get (cond b (z ∷ filter p zs) (filter p zs)) k ≡ Some x → (m : ℕ) × (slice_get (z ∷ zs) m ≡ Some x) × (p x ≡ true)) [
      | true ↦ λ yes. elim k as (λ n. slice_get (z ∷ filter p zs) n ≡ Some x → (m : ℕ) × (slice_get (z ∷ zs) m ≡ Some x) × (p x ≡ true)) [
        | zero ↦ λ here. (0, here, ap p (sym (same_Some _ _ here)) ∙ yes)
        | suc n ↦ λ there. let r = from_filter p zs n x there in (suc r.0, r.1, r.2)
      ]
      | false ↦ λ _ there. let r = from_filter p zs k x there in (suc r.0, r.1, r.2)
    ] refl at

module _ {X Y : Type 0} (f : X → Option Y) where
  -- what a filter map gives at a place comes from the element at that place of those that give something
  origin-of : (xs : List X) (i : ℕ) (y : Y) → slice_get (filter_map f xs) i ≡ Some y
      → (x : X) × (slice_get (filter (λ z. is_some (f z)) xs) i ≡ Some x) × (f x ≡ Some y)
  origin-of [] i y at = absurd cc
  origin-of (z ∷ zs) i y at =
      elim (f z) as (λ o. f z ≡ o → slice_get (cons_option o (filter_map f zs)) i ≡ Some y
      → (x : X) × (slice_get (cond (is_some o) (z ∷ filter (λ z. is_some (f z)) zs) (filter (λ z. is_some (f z)) zs)) i ≡ Some x) × (f x ≡ Some y)) [
        | None ↦ λ _ there. origin-of zs i y there
        | Some t ↦ λ some. elim i as (λ n. slice_get (t ∷ filter_map f zs) n ≡ Some y
            → (x : X) × (slice_get (z ∷ filter (λ z. is_some (f z)) zs) n ≡ Some x) × (f x ≡ Some y)) [
              | zero ↦ λ here. (z, refl, some ∙ here)
              | suc n ↦ λ there. origin-of zs n y there
            ]
      ] refl at

  module _ {Z : Type 0} (row : X → Z) where
    -- the same with a row for each of these elements
    row-of : (xs : List X) (j : ℕ) (y : Y) → slice_get (filter_map f xs) j ≡ Some y
        → (x : X) × (k : ℕ) × (slice_get xs k ≡ Some x) × (slice_get (filter_map (λ z. option_map (λ (t : Y). row z) (f z)) xs) j ≡ Some (row x)) × (f x ≡ Some y)
    row-of [] j y at = absurd cc
    row-of (z ∷ zs) j y at =
        elim (f z) as (λ o. f z ≡ o → slice_get (cons_option o (filter_map f zs)) j ≡ Some y
        → (x : X) × (k : ℕ) × (slice_get (z ∷ zs) k ≡ Some x)
        × (slice_get (cons_option (option_map (λ (t : Y). row z) o) (filter_map (λ z. option_map (λ (t : Y). row z) (f z)) zs)) j ≡ Some (row x)) × (f x ≡ Some y)) [
          | None ↦ λ _ there. let r = row-of zs j y there in (r.0, suc r.1, r.2, r.3, r.4)
          | Some t ↦ λ some. elim j as (λ n. slice_get (t ∷ filter_map f zs) n ≡ Some y
              → (x : X) × (k : ℕ) × (slice_get (z ∷ zs) k ≡ Some x)
              × (slice_get (row z ∷ filter_map (λ z. option_map (λ (t : Y). row z) (f z)) zs) n ≡ Some (row x)) × (f x ≡ Some y)) [
                | zero ↦ λ here. (z, 0, refl, refl, some ∙ here)
                | suc n ↦ λ there. let r = row-of zs n y there in (r.0, suc r.1, r.2, r.3, r.4)
              ]
        ] refl at

    length-rows : (xs : List X) → length (filter_map (λ z. option_map (λ (t : Y). row z) (f z)) xs) ≡ length (filter_map f xs)
    length-rows [] = refl
    length-rows (z ∷ zs) =
        let rest = length-rows zs in
        elim (f z) as (λ o. length (cons_option (option_map (λ (t : Y). row z) o) (filter_map (λ z. option_map (λ (t : Y). row z) (f z)) zs))
        ≡ length (cons_option o (filter_map f zs))) [
          | None ↦ rest
          | Some t ↦ ap suc rest
        ]

two_places : (a : Call) (i : ℕ) → i < 2 → slice_get (a ∷ a ∷ []) i ≡ Some a
two_places a zero below = refl
two_places a (suc zero) below = refl
two_places a (suc (suc i)) below = absurd (omega arith)

module _ (es : List Event) (f : Choice) where
  abbrev operation_of : Call → Option Operation
  operation_of a = operation_by es f a.place a.call a.ending

  abbrev fork_of : Call → Option (List Operation)
  fork_of a = fork_by es f a.place a.call a.ending

  abbrev pair_of : Call → List Call
  pair_of a = a ∷ a ∷ []

  abbrev sessions : List (List Operation)
  sessions = map (client_session_by es f) (range_with_len 0 (clients es))

  abbrev rows : List (List Call)
  rows = map (client_origins_by es f) (range_with_len 0 (clients es))

  abbrev HasOrigin : OpId → Type 0
  HasOrigin o = (a : Call) × (slice_get (slice_index_or (origins_by es f) o.session []) o.index ≡ Some a) × Contains (run_calls es) a × IsOfCall es f o a

  -- a fork has two operations
  fork-two : (place : ℕ) (call : ClientCall) (ending : Option Ending) (l : List Operation) → fork_by es f place call ending ≡ Some l → length l ≡ 2
  fork-two place (WriteTo x v) ending l is = let r = fork-call es place (WriteTo x v) ending l is in ap length r.5
  fork-two place (ReadOf x) ending l is = absurd cc
  fork-two place (DeleteOf x) None l is = absurd cc
  fork-two place (DeleteOf x) (Some Answered) l is = absurd cc
  fork-two place (DeleteOf x) (Some (Got v)) l is = absurd cc
  fork-two place (DeleteOf x) (Some GotNothing) l is = absurd cc
  fork-two place (DeleteOf x) (Some Failed) l is = absurd cc
  fork-two place (DeleteOf x) (Some Lost) l is =
      elim (is_seen es f x place) as (λ b. (if b then Some (read (mark place) (Some (Value 1)) ∷ write (key x) (deleted place) None ∷ []) else None) ≡ Some l
      → length l ≡ 2) [
        | true ↦ λ same. sym (ap length (same_Some _ _ same))
        | false ↦ λ none. absurd cc
      ] is

  row-at : (c : ℕ) → c < clients es → slice_index_or (origins_by es f) c [] ≡ client_origins_by es f c
  row-at c below =
      let long = length-map-range_with_len (client_origins_by es f) 0 (clients es) in
      let at : slice_get rows c ≡ Some (client_origins_by es f c) =
      slice_get-get_or rows c [] (omega arith)
      ∙ ap Some (get_or-map-range_with_len (client_origins_by es f) 0 (clients es) c c [] below (omega arith)) in
      get_or_from_slice_get (origins_by es f) c (client_origins_by es f c) [] (at-left rows (fork_origins_by es f) c (client_origins_by es f c) at)

  session-at : (c : ℕ) (l : List Operation) → slice_get sessions c ≡ Some l → (c < clients es) × (l ≡ client_session_by es f c)
  session-at c l at =
      let long = length-map-range_with_len (client_session_by es f) 0 (clients es) in
      let within = slice_get_within sessions c l at in
      let below : c < clients es = omega arith in
      (below, sym (get_or_from_slice_get sessions c l [] at) ∙ get_or-map-range_with_len (client_session_by es f) 0 (clients es) c c [] below (omega arith))

  of_client : (o : OpId) (e : Operation) → entry (history_by es f) o ≡ Some e
      → slice_get sessions o.session ≡ Some (session (history_by es f) o.session) → HasOrigin o
  of_client o e at first =
      let s = o.session in
      let (below, same) = session-at s (session (history_by es f) s) first in
      let r = origin-of operation_of (calls_of s es) o.index e (ap (λ (l : List Operation). slice_get l o.index) (sym same) ∙ at) in
      let own = from_filter (λ (a : Call). is_some (operation_of a)) (calls_of s es) o.index r.0 r.1 in
      let there = from_filter (λ (a : Call). a.client == s) (run_calls es) own.0 r.0 own.1 in (
        r.0,
        ap (λ (l : List Call). slice_get l o.index) (row-at s below) ∙ r.1,
        place-Contains (run_calls es) there.0 r.0 there.1,
        inl (sym (eqb-true r.0.client s there.2), at ∙ sym r.2),
      )

  of_fork : (o : OpId) (e : Operation) (j : ℕ) → entry (history_by es f) o ≡ Some e → o.session ≡ length sessions + j
      → slice_get (fork_sessions_by es f) j ≡ Some (session (history_by es f) o.session) → HasOrigin o
  of_fork o e j at place second =
      let l = session (history_by es f) o.session in
      let r = row-of fork_of pair_of (run_calls es) j l second in
      let a = r.0 in
      let long = length-map-range_with_len (client_session_by es f) 0 (clients es) in
      let many = length-map-range_with_len (client_origins_by es f) 0 (clients es) in
      let row = at-right rows (fork_origins_by es f) o.session j (pair_of a) (omega arith) r.3 in
      let two = fork-two a.place a.call a.ending l r.4 in
      let within = slice_get_within l o.index e at in (
        a,
        ap (λ (m : List Call). slice_get m o.index) (get_or_from_slice_get (origins_by es f) o.session (pair_of a) [] row) ∙ two_places a o.index (omega arith),
        place-Contains (run_calls es) r.1 a r.2,
        inr (l, r.4, refl),
      )

  pub origins-listed : AreOriginsBy es f (origins_by es f)
  origins-listed = record {
    sessions =
        let one = length-append rows (fork_origins_by es f) in
        let two = length-append sessions (fork_sessions_by es f) in
        let long = length-map-range_with_len (client_session_by es f) 0 (clients es) in
        let many = length-map-range_with_len (client_origins_by es f) 0 (clients es) in
        let forks = length-rows fork_of pair_of (run_calls es) in
        omega arith;
    each = λ o is_op.
        let l = session (history_by es f) o.session in
        let found = slice_get-found l o.index is_op in
        let listed = slice_get-get_or (history_by es f).1 o.session [] (session-of_history (history_by es f) o is_op) in
        ⊎_elim
        (λ (first : slice_get sessions o.session ≡ Some l). of_client o found.0 found.1 first)
        (λ (second : (j : ℕ) × (o.session ≡ length sessions + j) × (slice_get (fork_sessions_by es f) j ≡ Some l)).
        of_fork o found.0 second.0 found.1 second.1 second.2)
        (append-cases sessions (fork_sessions_by es f) o.session l listed);
  }
