-- The history of a log by a choice has the shape of a history, small keys and distinct values, where the log's has.
use Rattle.std.proofs.Common.{◌≡◌, ℕ, ◌+◌, ◌*◌, ◌<◌, ◌≤◌, true, false, Bool, List, [], ◌∷◌, ◌++◌, length, refl, ap, sym, subst, ◌∙◌, inl, inr, ⊎_elim, arith}
use Rattle.std.specs.Prelude.{◌⊎◌, ◌^◌, ◌==◌, ◌&&◌, ◌||◌, if◌then◌else◌, Option, Some, None, option_map, filter_map}
use Rattle.std.specs.List.{list_any, range_with_len}
use Rattle.std.proofs.lemmas.Option.{same_Some}
use Rattle.model_objects.specs.declared.register.RegisterRet.TheVariants.{Done, Value}
use Rattle.order_memory.specs.Memory.{IsDifferentiated}
use Rattle.order_memory.specs.SourceOrder.{LacksSource}
use Rattle.log_events.specs.declared.event.ClientCall.{ClientCall}
use Rattle.log_events.specs.declared.event.ClientCall.TheVariants.{WriteTo, ReadOf, DeleteOf}
use Rattle.log_events.specs.declared.event.Ending.{Ending}
use Rattle.log_events.specs.declared.event.Ending.TheVariants.{Answered, Got, GotNothing, Failed, Lost}
use Rattle.log_events.specs.declared.event.Event.{Event}
use Rattle.log_events.specs.declared.event.Event.TheVariants.{Starts, Begins}
use Rattle.log_events.specs.Events.{IsAt, IsEnded, IsAllowed, Call, run_calls, calls_of}
use Rattle.log_events.specs.Histories.{key, mark, nothing, deleted, write, read, clients, start_entry, is_deleted, operation, fork, client_session, fork_sessions, history_of}
use Rattle.log_events.specs.Cuts.{IsBegunBefore, ReturnsWhatWasBegun}
use Rattle.log_events.specs.Shapes.{HasSmallKeys, IsShaped, NamesSmallKeys}
use Rattle.log_events.specs.Values.{HasDistinctValues}
use Rattle.log_events.proofs.CallPlaces.{call_at, calls-to, ended-from}
use Rattle.log_events.proofs.DistinctValues.{values-distinct}
use Rattle.log_events.proofs.HistoryKeys.{keys-small}
use Rattle.log_events.proofs.HistoryShape.{history-shaped}
use Rattle.log_events.proofs.ListPlaces.{filter_map-same}
use Rattle.log_events.proofs.ReadSources.{delete-names, sources-found}
use Rattle.log_choices.specs.Choices.{Choice, BeginsKeptDelete, IsChoice, IsNullRead, leaves_out}
use Rattle.log_choices.specs.ChosenHistories.{seen_value, is_of_delete, saw, sees, operation_by, fork_by, client_session_by, fork_sessions_by, history_by}
use Rattle.log_choices.proofs.RenamedHistories.{shaped-renamed, keys-renamed, distinct-renamed, lacks-renamed}
use Rattle.log_choices.proofs.ResolvedEvents.{starts-at, at-starts, begins-at, resolved-ended, resolved-allowed, resolved-small, resolved-length}
use Rattle.log_choices.proofs.ResolvedHistories.{spread, spread-once, resolved, map-same, history-resolved}
use Rattle.log_choices.proofs.ResolvedLogs.{resolved_call, resolved_miss, resolved_ending}
use Rattle.log_choices.proofs.ResolvedValues.{resolved-distinct, got-from, missed-from}

module _ (es : List Event) (f : Choice) (allowed : IsAllowed es) where
  pub chosen-shaped : IsShaped (history_by es f)
  chosen-shaped =
      shaped-renamed spread (history_by es f) refl
      (subst IsShaped (history-resolved es f allowed) (history-shaped (resolved es f) (resolved-allowed es f allowed)))

  pub chosen-keys : length es ≤ 2 ^ 31 → NamesSmallKeys es → HasSmallKeys (history_by es f)
  chosen-keys few small =
      keys-renamed spread (history_by es f)
      (subst HasSmallKeys (history-resolved es f allowed)
      (keys-small (resolved es f) (let same = resolved-length es f in omega arith) (resolved-small es f small)))

  pub chosen-distinct : HasDistinctValues es → IsDifferentiated (history_by es f)
  chosen-distinct distinct =
      distinct-renamed spread (history_by es f) refl
      (subst IsDifferentiated (history-resolved es f allowed) (values-distinct (resolved es f) (resolved-distinct es f allowed distinct)))

  -- a call of the resolved log failed where the call of the log did
  failed-from : (begun : ℕ × ClientCall) (ending : Ending) → Failed ≡ resolved_ending es f begun ending → ending ≡ Failed
  failed-from (i, WriteTo x v) Answered is = absurd cc
  failed-from (i, WriteTo x v) (Got u) is = absurd cc
  failed-from (i, WriteTo x v) GotNothing is = absurd cc
  failed-from (i, WriteTo x v) Failed is = refl
  failed-from (i, WriteTo x v) Lost is = absurd cc
  failed-from (i, DeleteOf x) Answered is = absurd cc
  failed-from (i, DeleteOf x) (Got u) is = absurd cc
  failed-from (i, DeleteOf x) GotNothing is = absurd cc
  failed-from (i, DeleteOf x) Failed is = refl
  failed-from (i, DeleteOf x) Lost is = absurd cc
  failed-from (i, ReadOf x) Answered is = absurd cc
  failed-from (i, ReadOf x) (Got u) is = absurd cc
  failed-from (i, ReadOf x) GotNothing is = missed (saw es f i x) is
    where
      missed : (o : Option (Option ℕ)) → Failed ≡ resolved_miss o → GotNothing ≡ Failed
      missed None is = absurd cc
      missed (Some None) is = absurd cc
      missed (Some (Some p)) is = absurd cc
  failed-from (i, ReadOf x) Failed is = refl
  failed-from (i, ReadOf x) Lost is = absurd cc

  pub stays-resolved : (client i : ℕ) (call : ClientCall) → IsAt es i (Begins client call) → ((k : ℕ) → ¬ IsEnded es client call i k Failed)
      → (k : ℕ) → ¬ IsEnded (resolved es f) client (resolved_call i call) i k Failed
  stays-resolved client i call at stays k end =
      let (other, ending, was, same, is) = resolved-ended es f allowed client (resolved_call i call) i k Failed end in
      let events : Begins client other ≡ Begins client call = same_Some _ _ (sym was.was_open.begun ∙ at) in
      let calls : other ≡ call = cc in
      let failed = failed-from (i, other) ending is in
      stays k (subst (λ (d : ClientCall). IsEnded es client d i k Failed) calls (subst (IsEnded es client other i k) failed was))

  begun-before : (j i x u : ℕ) (call : ClientCall) → resolved_call i call ≡ WriteTo x u → i < j → (client : ℕ) → IsAt es i (Begins client call)
      → ((k : ℕ) → ¬ IsEnded es client call i k Failed) → IsBegunBefore (resolved es f) j (WriteTo x u)
  begun-before j i x u call same below client at stays = (
    client,
    i,
    below,
    subst (λ (d : ClientCall). IsAt (resolved es f) i (Begins client d)) same (begins-at es f i client call at),
    subst (λ (d : ClientCall). (k : ℕ) → ¬ IsEnded (resolved es f) client d i k Failed) same (stays-resolved client i call at stays),
  )

  pub write-before : (j x v : ℕ) → IsBegunBefore es j (WriteTo x v) → IsBegunBefore (resolved es f) j (WriteTo x (2 * v))
  write-before j x v (client, i, below, at, stays) = begun-before j i x (2 * v) (WriteTo x v) refl below client at stays

  pub delete-before : (j x p : ℕ) → p < j → BeginsKeptDelete es x p → IsBegunBefore (resolved es f) j (WriteTo x (2 * p + 1))
  delete-before j x p below (client, at, stays) = begun-before j p x (2 * p + 1) (DeleteOf x) refl below client at stays

  -- a key that some delete of the log names that was begun
  named-by : (j x : ℕ) → IsBegunBefore es j (DeleteOf x) → is_deleted es x ≡ true
  named-by j x (client, i, below, at, stays) =
      let r = calls-to 0 es i client (DeleteOf x) at in
      delete-names es (call_at 0 i es client (DeleteOf x)) x r refl (λ failed.
      let end = ended-from es i (call_at 0 i es client (DeleteOf x)) Failed (record { begun = at; ended = refl }) failed in stays end.0 end.1)

  pub resolved-returns : ReturnsWhatWasBegun es → IsChoice true es f → ReturnsWhatWasBegun (resolved es f)
  resolved-returns returns choice = record { value = value; nothing = missed }
    where
      value : (client x u i j : ℕ) → IsEnded (resolved es f) client (ReadOf x) i j (Got u)
          → ((k : ℕ) × (k < j) × IsAt (resolved es f) k (Starts x u)) ⊎ IsBegunBefore (resolved es f) j (WriteTo x u)
      value client x u i j end = by_got (got-from es f allowed client x i j u end)
        where
          by_got : ((v : ℕ) × IsEnded es client (ReadOf x) i j (Got v) × (u ≡ 2 * v))
              ⊎ ((p : ℕ) × IsNullRead es client x i j × (f i ≡ Some (Some p)) × (u ≡ 2 * p + 1))
              → ((k : ℕ) × (k < j) × IsAt (resolved es f) k (Starts x u)) ⊎ IsBegunBefore (resolved es f) j (WriteTo x u)
          by_got (inl (v, was, same)) = ⊎_elim
              {C = ((k : ℕ) × (k < j) × IsAt (resolved es f) k (Starts x u)) ⊎ IsBegunBefore (resolved es f) j (WriteTo x u)}
              (λ (start : (k : ℕ) × (k < j) × IsAt es k (Starts x v)).
              inl (start.0, start.1, subst (λ (n : ℕ). IsAt (resolved es f) start.0 (Starts x n)) (sym same) (starts-at es f start.0 x v start.2)))
              (λ (begun : IsBegunBefore es j (WriteTo x v)).
              inr (subst (λ (n : ℕ). IsBegunBefore (resolved es f) j (WriteTo x n)) (sym same) (write-before j x v begun)))
              (returns.value client x v i j was)
          by_got (inr (p, null, saw_it, same)) =
              let (kept, early) = choice client x i j (Some p) null saw_it in
              inr (subst (λ (n : ℕ). IsBegunBefore (resolved es f) j (WriteTo x n)) (sym same) (delete-before j x p (early refl) kept))

      unstarted : (x : ℕ) → ((k v : ℕ) → ¬ IsAt es k (Starts x v)) → (k v : ℕ) → ¬ IsAt (resolved es f) k (Starts x v)
      unstarted x none k v at = let r = at-starts es f k x v at in none k r.0 r.1

      missed : (client x i j : ℕ) → IsEnded (resolved es f) client (ReadOf x) i j GotNothing
          → ((k v : ℕ) → ¬ IsAt (resolved es f) k (Starts x v)) ⊎ IsBegunBefore (resolved es f) j (DeleteOf x)
      missed client x i j end = by_miss (missed-from es f allowed client x i j end)
        where
          by_miss : (IsEnded es client (ReadOf x) i j GotNothing × (is_deleted es x ≡ false)) ⊎ (IsNullRead es client x i j × (f i ≡ Some None))
              → ((k v : ℕ) → ¬ IsAt (resolved es f) k (Starts x v)) ⊎ IsBegunBefore (resolved es f) j (DeleteOf x)
          by_miss (inl (was, undeleted)) = ⊎_elim
              (λ (none : (k v : ℕ) → ¬ IsAt es k (Starts x v)). inl (unstarted x none))
              (λ (begun : IsBegunBefore es j (DeleteOf x)). let named = named-by j x begun in absurd cc)
              (returns.nothing client x i j was)
          by_miss (inr (null, saw_it)) = inl (unstarted x (choice client x i j None null saw_it))

  pub chosen-sources : ReturnsWhatWasBegun es → IsChoice true es f → ¬ LacksSource (history_by es f)
  chosen-sources returns choice lacks =
      sources-found (resolved es f) (resolved-allowed es f allowed) (resolved-returns returns choice)
      (subst LacksSource (sym (history-resolved es f allowed)) (lacks-renamed spread (history_by es f) refl spread-once lacks))

-- the choice that leaves all null reads out gives the history of the log
module _ (es : List Event) where
  sees-nothing : (x p place : ℕ) (call : ClientCall) (ending : Option Ending) → sees es leaves_out x p place call ending ≡ false
  sees-nothing x p place (WriteTo y v) ending = refl
  sees-nothing x p place (DeleteOf y) ending = refl
  sees-nothing x p place (ReadOf y) None = refl
  sees-nothing x p place (ReadOf y) (Some Answered) = refl
  sees-nothing x p place (ReadOf y) (Some (Got v)) = refl
  sees-nothing x p place (ReadOf y) (Some GotNothing) = tested (y == x) (is_deleted es y)
    where
      tested : (b d : Bool) → (b && is_of_delete p (if d then None else Some None)) ≡ false
      tested true true = refl
      tested true false = refl
      tested false d = refl
  sees-nothing x p place (ReadOf y) (Some Failed) = refl
  sees-nothing x p place (ReadOf y) (Some Lost) = refl

  unseen : (x p : ℕ) (xs : List Call) → list_any (λ (a : Call). sees es leaves_out x p a.place a.call a.ending) xs ≡ false
  unseen x p [] = refl
  unseen x p (a ∷ xs) = λ i. sees-nothing x p a.place a.call a.ending i || unseen x p xs i

  operation-left_out : (place : ℕ) (call : ClientCall) (ending : Option Ending) → operation es place call ending ≡ operation_by es leaves_out place call ending
  operation-left_out place (WriteTo y v) ending = refl
  operation-left_out place (DeleteOf y) None = refl
  operation-left_out place (DeleteOf y) (Some Answered) = refl
  operation-left_out place (DeleteOf y) (Some (Got v)) = refl
  operation-left_out place (DeleteOf y) (Some GotNothing) = refl
  operation-left_out place (DeleteOf y) (Some Failed) = refl
  operation-left_out place (DeleteOf y) (Some Lost) =
      ap (λ (b : Bool). if b then Some (write (mark place) 1 (Some Done)) else None) (sym (unseen y place (run_calls es)))
  operation-left_out place (ReadOf y) None = refl
  operation-left_out place (ReadOf y) (Some Answered) = refl
  operation-left_out place (ReadOf y) (Some (Got v)) = refl
  operation-left_out place (ReadOf y) (Some GotNothing) = missed (is_deleted es y)
    where
      missed : (b : Bool) → (if b then None else Some (read (key y) (Some (Value nothing))))
          ≡ option_map (λ c. read (key y) (Some (Value (seen_value c)))) (if b then None else Some None)
      missed true = refl
      missed false = refl
  operation-left_out place (ReadOf y) (Some Failed) = refl
  operation-left_out place (ReadOf y) (Some Lost) = refl

  fork-left_out : (place : ℕ) (call : ClientCall) (ending : Option Ending) → fork es place call ending ≡ fork_by es leaves_out place call ending
  fork-left_out place (WriteTo y v) ending = refl
  fork-left_out place (ReadOf y) ending = refl
  fork-left_out place (DeleteOf y) None = refl
  fork-left_out place (DeleteOf y) (Some Answered) = refl
  fork-left_out place (DeleteOf y) (Some (Got v)) = refl
  fork-left_out place (DeleteOf y) (Some GotNothing) = refl
  fork-left_out place (DeleteOf y) (Some Failed) = refl
  fork-left_out place (DeleteOf y) (Some Lost) =
      ap (λ (b : Bool). if b then Some (read (mark place) (Some (Value 1)) ∷ write (key y) (deleted place) None ∷ []) else None)
      (sym (unseen y place (run_calls es)))

  pub left_out-same : history_of es ≡ history_by es leaves_out
  left_out-same = λ i. (filter_map start_entry es, map-same (client_session es) (client_session_by es leaves_out) session (range_with_len 0 (clients es)) i ++ forks i)
    where
      session : (c : ℕ) → client_session es c ≡ client_session_by es leaves_out c
      session c =
          filter_map-same (λ (a : Call). operation es a.place a.call a.ending) (λ (a : Call). operation_by es leaves_out a.place a.call a.ending)
          (calls_of c es) (λ k a at. operation-left_out a.place a.call a.ending)

      forks : fork_sessions es ≡ fork_sessions_by es leaves_out
      forks =
          filter_map-same (λ (a : Call). fork es a.place a.call a.ending) (λ (a : Call). fork_by es leaves_out a.place a.call a.ending)
          (run_calls es) (λ k a at. fork-left_out a.place a.call a.ending)
