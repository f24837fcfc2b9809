-- The keys of the history of a log are those of its events, and marks.
use Rattle.std.proofs.Common.{◌≡◌, ℕ, zero, suc, ◌<◌, ◌≤◌, true, false, List, [], ◌∷◌, length, ap, sym, subst, ◌∙◌, inl, inr, ⊎_elim, arith}
use Rattle.std.specs.Prelude.{◌⊎◌, ◌^◌, if◌then◌else◌, Option, Some, None, slice_get}
use Rattle.std.proofs.lemmas.Option.{same_Some, slice_get_within, cond_some}
use Rattle.model_objects.specs.declared.register.RegisterRet.TheVariants.{Done, Value}
use Rattle.model_history.specs.History.{session}
use Rattle.order_causal.specs.Orders.{op}
use Rattle.log_events.specs.declared.event.ClientCall.{ClientCall}
use Rattle.log_events.specs.declared.event.ClientCall.TheVariants.{WriteTo, ReadOf, DeleteOf}
use Rattle.log_events.specs.declared.event.Ending.{Ending}
use Rattle.log_events.specs.declared.event.Ending.TheVariants.{Answered, Got, GotNothing, Failed, Lost}
use Rattle.log_events.specs.declared.event.Event.{Event}
use Rattle.log_events.specs.declared.event.Event.TheVariants.{Begins}
use Rattle.log_events.specs.Events.{IsAt}
use Rattle.log_events.specs.Histories.{key, mark, value, nothing, Operation, write, read, is_returned, is_deleted, operation, history_of}
use Rattle.log_events.specs.Shapes.{called_key, HasSmallKeys, NamesSmallKeys}
use Rattle.log_events.proofs.CallOperations.{fork-call}
use Rattle.log_events.proofs.CallPlaces.{calls-from}
use Rattle.log_events.proofs.OperationPlaces.{IsOfCall, IsForkOfCall, history-from}
use Rattle.log_events.proofs.StartTables.{start-all}

-- an operation has the key of its call, or the mark of the place where that began
abbrev HasKeyOf : ℕ → ClientCall → ℕ → Type 0
HasKeyOf place call x = (x ≡ key (called_key call)) ⊎ (x ≡ mark place)

module _ (es : List Event) (place : ℕ) where
  key_of : (e d : Operation) → ◌≡◌ {A = Option Operation} (Some d) (Some e) → e.0.key ≡ d.0.key
  key_of e d same = ap (λ (a : Operation). a.0.key) (sym (same_Some _ _ same))

  operation-key : (call : ClientCall) (ending : Option Ending) (e : Operation) → operation es place call ending ≡ Some e → HasKeyOf place call e.0.key
  operation-key (WriteTo x v) None e is = inl (key_of e _ is)
  operation-key (WriteTo x v) (Some Answered) e is = inl (key_of e _ is)
  operation-key (WriteTo x v) (Some (Got w)) e is = absurd cc
  operation-key (WriteTo x v) (Some GotNothing) e is = absurd cc
  operation-key (WriteTo x v) (Some Failed) e is = absurd cc
  operation-key (WriteTo x v) (Some Lost) e is =
      inr (ap (λ (a : Operation). a.0.key) (sym (cond_some (is_returned es x v) (write (mark place) 1 (Some Done)) e is).1))
  operation-key (ReadOf x) None e is = inl (key_of e _ is)
  operation-key (ReadOf x) (Some Answered) e is = absurd cc
  operation-key (ReadOf x) (Some (Got v)) e is = inl (key_of e _ is)
  operation-key (ReadOf x) (Some GotNothing) e is =
      elim (is_deleted es x) as (λ b. (if b then None else Some (read (key x) (Some (Value nothing)))) ≡ Some e → HasKeyOf place (ReadOf x) e.0.key) [
        | true ↦ λ none. absurd cc
        | false ↦ λ same. inl (key_of e _ same)
      ] is
  operation-key (ReadOf x) (Some Failed) e is = absurd cc
  operation-key (ReadOf x) (Some Lost) e is = absurd cc
  operation-key (DeleteOf x) None e is = inl (key_of e _ is)
  operation-key (DeleteOf x) (Some Answered) e is = inl (key_of e _ is)
  operation-key (DeleteOf x) (Some (Got w)) e is = absurd cc
  operation-key (DeleteOf x) (Some GotNothing) e is = absurd cc
  operation-key (DeleteOf x) (Some Failed) e is = absurd cc
  operation-key (DeleteOf x) (Some Lost) e is = absurd cc

fork-key : (x y v i : ℕ) (e : Operation) → slice_get (read x (Some (Value 1)) ∷ write y v None ∷ []) i ≡ Some e → (e.0.key ≡ y) ⊎ (e.0.key ≡ x)
fork-key x y v zero e at = inr (ap (λ (a : Operation). a.0.key) (sym (same_Some _ _ at)))
fork-key x y v (suc zero) e at = inl (ap (λ (a : Operation). a.0.key) (sym (same_Some _ _ at)))
fork-key x y v (suc (suc i)) e at = absurd cc

module _ (es : List Event) where
  -- each operation has the key of a call, or the mark of its place
  pub history-key : (s i : ℕ) (e : Operation) → slice_get (session (history_of es) s) i ≡ Some e
      → (client place : ℕ) × (call : ClientCall) × IsAt es place (Begins client call) × HasKeyOf place call e.0.key
  history-key s i e at = ⊎_elim
      (λ (client : IsOfCall es s i e).
      let a = client.0 in
      let (p, place, begun) = calls-from 0 es client.1.0 a client.1.1 in
      let same : a.place ≡ p = omega arith in
      (a.client, p, a.call, begun.begun, subst (λ (n : ℕ). HasKeyOf n a.call e.0.key) same (operation-key es a.place a.call a.ending e client.3)))
      (λ (forked : IsForkOfCall es s (session (history_of es) s)).
      let a = forked.0 in
      let (p, place, begun) = calls-from 0 es forked.1.0 a forked.1.1 in
      let same : a.place ≡ p = omega arith in
      let f = fork-call es a.place a.call a.ending (session (history_of es) s) forked.2 in
      let here = fork-key (mark a.place) (key f.0) (value f.1) i e (subst (λ (l : List Operation). slice_get l i ≡ Some e) f.5 at) in (
        a.client,
        p,
        a.call,
        begun.begun,
        ⊎_elim
            (λ (own : e.0.key ≡ key f.0). inl (own ∙ ap (λ (c : ClientCall). key (called_key c)) (sym f.2)))
            (λ (marks : e.0.key ≡ mark a.place). inr (marks ∙ ap mark same))
            here,
      ))
      (history-from es (op s i) e at)

  pub keys-small : length es ≤ 2 ^ 31 → NamesSmallKeys es → HasSmallKeys (history_of es)
  keys-small short names = record {
    start = start-all (λ (held : ℕ × ℕ). held.0 < 2 ^ 32) es (λ m x v here. let small = names.starts m x v here in omega arith);
    calls = λ s i c known at.
        let (client, place, call, begun, has) = history-key s i (c, known) at in
        let small = names.calls place client call begun in
        let within = slice_get_within es place (Begins client call) begun in
        ⊎_elim
        (λ (own : c.key ≡ key (called_key call)). omega arith)
        (λ (marks : c.key ≡ mark place). omega arith)
        has;
  }
