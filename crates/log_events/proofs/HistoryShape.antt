-- The history of a log has the shape of a history.
use Rattle.std.proofs.Common.{◌≡◌, ℕ, zero, suc, ◌+◌, ◌*◌, ◌<◌, ◌≤◌, true, false, List, [], ◌∷◌, ◌++◌, length, refl, ap, sym, subst, ◌∙◌, ⊎_elim, arith}
use Rattle.std.specs.Prelude.{◌≢◌, if◌then◌else◌, Option, Some, None, slice_get}
use Rattle.std.proofs.lemmas.List.Elements.{filter_map-append}
use Rattle.std.proofs.lemmas.Option.{same_Some, slice_get_within, cond_some}
use Rattle.model_objects.specs.Register.{matches}
use Rattle.model_objects.specs.declared.register.RegisterCall.TheVariants.{Write, Read}
use Rattle.model_objects.specs.declared.register.RegisterRet.{RegisterRet}
use Rattle.model_objects.specs.declared.register.RegisterRet.TheVariants.{Done, Value}
use Rattle.model_history.specs.History.{session}
use Rattle.order_causal.specs.Orders.{op}
use Rattle.order_memory.specs.Memory.{MemoryCall}
use Rattle.log_events.specs.declared.event.ClientCall.{ClientCall}
use Rattle.log_events.specs.declared.event.ClientCall.TheVariants.{WriteTo, ReadOf, DeleteOf}
use Rattle.log_events.specs.declared.event.Ending.{Ending}
use Rattle.log_events.specs.declared.event.Ending.TheVariants.{Answered, Got, GotNothing, Failed, Lost}
use Rattle.log_events.specs.declared.event.Event.{Event}
use Rattle.log_events.specs.Events.{IsAllowed}
use Rattle.log_events.specs.Histories.{key, mark, value, nothing, Operation, write, read, is_returned, is_deleted, operation, operations, client_session, history_of}
use Rattle.log_events.specs.Shapes.{IsShaped}
use Rattle.log_events.proofs.AllowedLogs.{allowed-turns}
use Rattle.log_events.proofs.CallOperations.{fork-call}
use Rattle.log_events.proofs.CutCalls.{cut-calls}
use Rattle.log_events.proofs.ListPlaces.{filter_map-from, length-filter_map}
use Rattle.log_events.proofs.OperationPlaces.{IsOfCall, IsForkOfCall, operation_of, session-cases, history-from}
use Rattle.log_events.proofs.StartTables.{start-all, start-rising}

-- the known return of an operation fits its call
abbrev FitsCall : Operation → Type 0
FitsCall e = (r : RegisterRet) → e.1 ≡ Some r → matches e.0.call r ≡ true

write-fits : (x v : ℕ) → FitsCall (write x v (Some Done))
write-fits x v r is = ap (matches (Write v)) (sym (same_Some _ _ is))

read-fits : (x v : ℕ) → FitsCall (read x (Some (Value v)))
read-fits x v r is = ap (matches Read) (sym (same_Some _ _ is))

-- and that of an ended call is known
abbrev IsOfEnding : Option Ending → Operation → Type 0
IsOfEnding ending e = FitsCall e × (ending ≢ None → e.1 ≢ None)

module _ (es : List Event) (place : ℕ) where
  open_call-fits : (call : MemoryCall) (e : Operation) → ◌≡◌ {A = Option Operation} (Some (call, None)) (Some e) → IsOfEnding None e
  open_call-fits call e is = subst (IsOfEnding None) (same_Some _ _ is) ((λ r none. absurd cc), λ known. absurd (known refl))

  ended-fits : (ending : Ending) (d e : Operation) → FitsCall d → d.1 ≢ None → d ≡ e → IsOfEnding (Some ending) e
  ended-fits ending d e fits known same = subst (IsOfEnding (Some ending)) same (fits, λ _. known)

  operation-fits : (call : ClientCall) (ending : Option Ending) (e : Operation) → operation es place call ending ≡ Some e → IsOfEnding ending e
  operation-fits (WriteTo x v) None e is = open_call-fits (write (key x) (value v) None).0 e is
  operation-fits (WriteTo x v) (Some Answered) e is =
      ended-fits Answered (write (key x) (value v) (Some Done)) e (write-fits (key x) (value v)) (λ none. absurd cc) (same_Some _ _ is)
  operation-fits (WriteTo x v) (Some (Got w)) e is = absurd cc
  operation-fits (WriteTo x v) (Some GotNothing) e is = absurd cc
  operation-fits (WriteTo x v) (Some Failed) e is = absurd cc
  operation-fits (WriteTo x v) (Some Lost) e is =
      ended-fits Lost (write (mark place) 1 (Some Done)) e (write-fits (mark place) 1) (λ none. absurd cc)
      (cond_some (is_returned es x v) (write (mark place) 1 (Some Done)) e is).1
  operation-fits (ReadOf x) None e is = open_call-fits (read (key x) None).0 e is
  operation-fits (ReadOf x) (Some Answered) e is = absurd cc
  operation-fits (ReadOf x) (Some (Got v)) e is =
      ended-fits (Got v) (read (key x) (Some (Value (value v)))) e (read-fits (key x) (value v)) (λ none. absurd cc) (same_Some _ _ is)
  operation-fits (ReadOf x) (Some GotNothing) e is =
      elim (is_deleted es x) as (λ b. (if b then None else Some (read (key x) (Some (Value nothing)))) ≡ Some e → IsOfEnding (Some GotNothing) e) [
        | true ↦ λ none. absurd cc
        | false ↦ λ same.
            ended-fits GotNothing (read (key x) (Some (Value nothing))) e (read-fits (key x) nothing) (λ none. absurd cc) (same_Some _ _ same)
      ] is
  operation-fits (ReadOf x) (Some Failed) e is = absurd cc
  operation-fits (ReadOf x) (Some Lost) e is = absurd cc
  operation-fits (DeleteOf x) None e is = open_call-fits (write (key x) (2 * place + 2) None).0 e is
  operation-fits (DeleteOf x) (Some Answered) e is =
      ended-fits Answered (write (key x) (2 * place + 2) (Some Done)) e (write-fits (key x) (2 * place + 2)) (λ none. absurd cc) (same_Some _ _ is)
  operation-fits (DeleteOf x) (Some (Got w)) e is = absurd cc
  operation-fits (DeleteOf x) (Some GotNothing) e is = absurd cc
  operation-fits (DeleteOf x) (Some Failed) e is = absurd cc
  operation-fits (DeleteOf x) (Some Lost) e is = absurd cc

-- in a list of known returns that goes on with one operation at most, nothing comes after an unknown return
known-first : (known last : List Operation) → ((k : ℕ) (e : Operation) → slice_get known k ≡ Some e → e.1 ≢ None) → length last ≤ 1
    → (j k : ℕ) (e d : Operation) → j < k → slice_get (known ++ last) j ≡ Some e → e.1 ≡ None → slice_get (known ++ last) k ≡ Some d → ⊥
known-first [] last all short j k e d below at none there = let within = slice_get_within last k d there in omega arith
known-first (a ∷ known) last all short zero k e d below at none there = all 0 e at none
known-first (a ∷ known) last all short (suc j) zero e d below at none there = omega arith
known-first (a ∷ known) last all short (suc j) (suc k) e d below at none there =
    known-first known last (λ m. all (suc m)) short j k e d (omega arith) at none there

fork-known_first : (x y v : ℕ) (j k : ℕ) (e d : Operation) → j < k → slice_get (read x (Some (Value 1)) ∷ write y v None ∷ []) j ≡ Some e → e.1 ≡ None
    → slice_get (read x (Some (Value 1)) ∷ write y v None ∷ []) k ≡ Some d → ⊥
fork-known_first x y v zero k e d below at none there = let same = ap (λ (a : Operation). a.1) (same_Some _ _ at) ∙ none in absurd cc
fork-known_first x y v (suc j) k e d below at none there =
    let within = slice_get_within (read x (Some (Value 1)) ∷ write y v None ∷ []) k d there in omega arith

fork-fits : (x y v i : ℕ) (c : MemoryCall) (r : RegisterRet) → slice_get (read x (Some (Value 1)) ∷ write y v None ∷ []) i ≡ Some (c, Some r)
    → matches c.call r ≡ true
fork-fits x y v zero c r at =
    let same = same_Some _ _ at in
    ap (matches c.call) (sym (same_Some _ _ (ap (λ (e : Operation). e.1) same))) ∙ ap (λ (e : Operation). matches e.0.call (Value 1)) (sym same)
fork-fits x y v (suc zero) c r at = let same = ap (λ (e : Operation). e.1) (same_Some _ _ at) in absurd cc
fork-fits x y v (suc (suc i)) c r at = absurd cc

module _ (es : List Event) (allowed : IsAllowed es) where
  client-known_first : (c j k : ℕ) (e d : Operation) → j < k → slice_get (client_session es c) j ≡ Some e → e.1 ≡ None
      → slice_get (client_session es c) k ≡ Some d → ⊥
  client-known_first c j k e d below at none there =
      let r = cut-calls c 0 es [] (allowed-turns es allowed c) in
      let same : client_session es c ≡ operations es r.0 ++ operations es r.1 =
      ap (operations es) r.3.in_cut ∙ filter_map-append (operation_of es) r.0 r.1 in
      known-first (operations es r.0) (operations es r.1)
      (λ m f is_at.
      let from = filter_map-from (operation_of es) r.0 m f is_at in
      let ended = r.3.has_ended from.0 from.1 from.2 in
      (operation-fits es from.1.place from.1.call from.1.ending f from.3).1 (λ unended. let wrong = sym ended.1 ∙ unended in absurd cc))
      (let few = length-filter_map (operation_of es) r.1 in let one = r.3.short in omega arith)
      j k e d below (subst (λ (l : List Operation). slice_get l j ≡ Some e) same at) none (subst (λ (l : List Operation). slice_get l k ≡ Some d) same there)

  session-known_first : (s j k : ℕ) (e d : Operation) → j < k → slice_get (session (history_of es) s) j ≡ Some e → e.1 ≡ None
      → slice_get (session (history_of es) s) k ≡ Some d → ⊥
  session-known_first s j k e d below at none there = ⊎_elim
      (λ (same : session (history_of es) s ≡ client_session es s).
      client-known_first s j k e d below (subst (λ (l : List Operation). slice_get l j ≡ Some e) same at) none
      (subst (λ (l : List Operation). slice_get l k ≡ Some d) same there))
      (λ (forked : IsForkOfCall es s (session (history_of es) s)).
      let a = forked.0 in
      let f = fork-call es a.place a.call a.ending (session (history_of es) s) forked.2 in
      fork-known_first (mark a.place) (key f.0) (value f.1) j k e d below (subst (λ (l : List Operation). slice_get l j ≡ Some e) f.5 at) none
      (subst (λ (l : List Operation). slice_get l k ≡ Some d) f.5 there))
      (session-cases es (op s j) e at)

  pub history-shaped : IsShaped (history_of es)
  history-shaped = record {
    rising = start-rising es allowed;
    not_plain = start-all (λ (held : ℕ × ℕ). held.1 ≢ 0) es (λ m x v here none. omega arith);
    fitting = λ o c r at. ⊎_elim
        (λ (client : IsOfCall es o.session o.index (c, Some r)).
        (operation-fits es client.0.place client.0.call client.0.ending (c, Some r) client.3).0 r refl)
        (λ (forked : IsForkOfCall es o.session (session (history_of es) o.session)).
        let f = fork-call es forked.0.place forked.0.call forked.0.ending (session (history_of es) o.session) forked.2 in
        fork-fits (mark forked.0.place) (key f.0) (value f.1) o.index c r (subst (λ (l : List Operation). slice_get l o.index ≡ Some (c, Some r)) f.5 at))
        (history-from es o (c, Some r) at);
    known_first = λ a b c d r before at there.
        session-known_first a.session a.index b.index (c, None) (d, Some r) before.1 at refl
        (subst (λ (t : ℕ). slice_get (session (history_of es) t) b.index ≡ Some (d, Some r)) (sym before.0) there);
  }
