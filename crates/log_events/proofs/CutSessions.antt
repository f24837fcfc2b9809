-- The session of a client in the history of a cut and in that of the log.
use Rattle.std.proofs.Common.{◌≡◌, ℕ, true, false, List, ◌++◌, take, drop, refl, ap, sym, subst, ◌∙◌, inl, inr, ⊎_elim, arith, take-append-drop}
use Rattle.std.specs.Prelude.{◌⊎◌, Option, Some, None, slice_get, filter}
use Rattle.std.proofs.lemmas.List.Elements.{filter_map-append}
use Rattle.order_causal.proofs.Fronts.{take-from}
use Rattle.cert_subhistories.proofs.KeptLists.{filter_place}
use Rattle.log_events.specs.declared.event.ClientCall.{ClientCall}
use Rattle.log_events.specs.declared.event.ClientCall.TheVariants.{WriteTo, ReadOf, DeleteOf}
use Rattle.log_events.specs.declared.event.Ending.{Ending}
use Rattle.log_events.specs.declared.event.Ending.TheVariants.{Answered, Got, GotNothing, Failed, Lost}
use Rattle.log_events.specs.declared.event.Event.{Event}
use Rattle.log_events.specs.declared.event.Event.TheVariants.{Begins, Ends}
use Rattle.log_events.specs.Events.{IsAllowed, Call, run_calls, calls_of}
use Rattle.log_events.specs.Histories.{Operation, gets, is_returned, is_deleted, operation, operations}
use Rattle.log_events.specs.Cuts.{IsAlike, IsCutSession, HasPlainEnds, BeginsSession}
use Rattle.order_memory.proofs.RaiseLists.{at-left}
use Rattle.log_events.proofs.ListPlaces.{filter_map-from, filter_map-same, length-filter_map, list_any-from, list_any-to}
use Rattle.log_events.proofs.AllowedLogs.{allowed-turns}
use Rattle.log_events.proofs.CallOperations.{open-same}
use Rattle.log_events.proofs.CallPlaces.{calls-from, calls-to, call_at, ended-from, ended-to}
use Rattle.log_events.proofs.CutCalls.{is_own, IsCutCalls, cut-calls}
use Rattle.log_events.proofs.CutLogs.{cut-allowed, ended-of_cut}

module _ (es : List Event) (n : ℕ) where
  abbrev cut : List Event
  cut = take n es

  -- what a read got in the cut it got in the log
  pub returned-more : (x v : ℕ) → is_returned cut x v ≡ true → is_returned es x v ≡ true
  returned-more x v returned =
      let r = list_any-from (λ (a : Call). gets x v a.call a.ending) (run_calls cut) returned in
      let a = r.1 in
      let there = calls-from 0 cut r.0 a r.2 in
      let i = there.0 in
      elim a.ending as (λ (o : Option Ending). a.ending ≡ o → gets x v a.call o ≡ true → is_returned es x v ≡ true) [
        | None ↦ λ _ wrong. absurd (none a.call wrong)
        | Some ending ↦ λ some got.
            let end = ended-from cut i a ending there.2 some in
            let stays = ended-to es a.client a.call i end.0 ending (ended-of_cut es n a.client a.call i end.0 ending end.1) in
            let b = calls-to 0 es i a.client a.call (take-from n es i (Begins a.client a.call) there.2.begun).1 in
            list_any-to (λ (a : Call). gets x v a.call a.ending) (run_calls es) b.0 (call_at 0 i es a.client a.call) b.1
            (ap (gets x v a.call) stays ∙ got)
      ] refl r.3
    where
      none : (call : ClientCall) → gets x v call None ≡ true → ⊥
      none (WriteTo y u) wrong = absurd cc
      none (ReadOf y) wrong = absurd cc
      none (DeleteOf y) wrong = absurd cc

  pub ended-alike : (place client : ℕ) (call : ClientCall) (ending : Ending)
      → IsAlike cut es (record { client = client; place = place; call = call; ending = Some ending })
  ended-alike place client (WriteTo x v) Answered = inl refl
  ended-alike place client (WriteTo x v) (Got w) = inl refl
  ended-alike place client (WriteTo x v) GotNothing = inl refl
  ended-alike place client (WriteTo x v) Failed = inl refl
  ended-alike place client (WriteTo x v) Lost =
      elim (is_returned cut x v) as (λ b. is_returned cut x v ≡ b
      → IsAlike cut es (record { client = client; place = place; call = WriteTo x v; ending = Some Lost })) [
        | true ↦ λ returned. inl (rw (returned, returned-more x v returned) refl)
        | false ↦ λ unread. inr (inl (x, v, refl, refl, rw unread refl))
      ] refl
  ended-alike place client (ReadOf x) Answered = inl refl
  ended-alike place client (ReadOf x) (Got w) = inl refl
  ended-alike place client (ReadOf x) GotNothing =
      elim (is_deleted cut x) as (λ b. is_deleted cut x ≡ b
      → IsAlike cut es (record { client = client; place = place; call = ReadOf x; ending = Some GotNothing })) [
        | true ↦ λ deleted. inr (inr (x, refl, refl, inl (rw deleted refl)))
        | false ↦ λ kept. elim (is_deleted es x) as (λ b. is_deleted es x ≡ b
            → IsAlike cut es (record { client = client; place = place; call = ReadOf x; ending = Some GotNothing })) [
              | true ↦ λ deleted. inr (inr (x, refl, refl, inr (rw deleted refl)))
              | false ↦ λ none. inl (rw (kept, none) refl)
            ] refl
      ] refl
  ended-alike place client (ReadOf x) Failed = inl refl
  ended-alike place client (ReadOf x) Lost = inl refl
  ended-alike place client (DeleteOf x) Answered = inl refl
  ended-alike place client (DeleteOf x) (Got w) = inl refl
  ended-alike place client (DeleteOf x) GotNothing = inl refl
  ended-alike place client (DeleteOf x) Failed = inl refl
  ended-alike place client (DeleteOf x) Lost = inl refl

module _ (es : List Event) (n : ℕ) (allowed : IsAllowed es) (c : ℕ) where
  abbrev front : List Event
  front = take n es

  -- the calls of the client in the cut
  pub calls-found : (ended last rest : List Call) × IsCutCalls c 0 front (drop n es) ended last rest
  calls-found = cut-calls c 0 front (drop n es) (allowed-turns front (cut-allowed es n allowed) c)

  pub session-found : (ended last rest : List Call) → IsCutCalls c 0 front (drop n es) ended last rest
      → IsCutSession front es c ended (operations front last) (operations es rest)
  session-found ended last rest cut_calls = record {
    in_cut = ap (operations front) cut_calls.in_cut ∙ filter_map-append (λ (a : Call). operation front a.place a.call a.ending) ended last;
    in_log =
        ap (λ (l : List Event). operations es (calls_of c l)) (sym (take-append-drop n es)) ∙ ap (operations es) cut_calls.in_log
        ∙ filter_map-append (λ (a : Call). operation es a.place a.call a.ending) ended rest;
    alike = λ k a at. let end = cut_calls.has_ended k a at in
        subst (λ (o : Option Ending). IsAlike front es (record { client = a.client; place = a.place; call = a.call; ending = o })) (sym end.1)
        (ended-alike es n a.place a.client a.call end.0);
    short = let few = length-filter_map (λ (a : Call). operation front a.place a.call a.ending) last in let one = cut_calls.short in omega arith;
    unknown = λ k e at.
        let m = filter_map-from (λ (a : Call). operation front a.place a.call a.ending) last k e at in
        sym (ap (λ (d : Operation). d.1) (open-same front m.1.place m.1.call m.1.ending e (cut_calls.is_open m.0 m.1 m.2) m.3));
  }

  pub cut-session : (ended : List Call) × (last rest : List Operation) × IsCutSession front es c ended last rest
  cut-session = (calls-found.0, operations front calls-found.1, operations es calls-found.2, session-found calls-found.0 calls-found.1 calls-found.2 calls-found.3)

  -- where no call is lost and no read gets nothing, an ended call has the same operation in both
  pub plain-operations : HasPlainEnds es → (ended last rest : List Call) → IsCutCalls c 0 front (drop n es) ended last rest
      → (k : ℕ) (a : Call) → slice_get ended k ≡ Some a → operation front a.place a.call a.ending ≡ operation es a.place a.call a.ending
  plain-operations plain ended last rest cut_calls k a at =
      let own : slice_get (filter (is_own c) (run_calls front)) k ≡ Some a =
      subst (λ (l : List Call). slice_get l k ≡ Some a) (sym cut_calls.in_cut) (at-left ended last k a at) in
      let there = filter_place (is_own c) (run_calls front) k a own in
      let here = calls-from 0 front there.0 a there.1 in
      ⊎_elim
      (λ (same : operation front a.place a.call a.ending ≡ operation es a.place a.call a.ending). same)
      (λ (other : ((x v : ℕ) × (a.call ≡ WriteTo x v) × (a.ending ≡ Some Lost) × (operation front a.place a.call a.ending ≡ None))
      ⊎ ((x : ℕ) × (a.call ≡ ReadOf x) × (a.ending ≡ Some GotNothing)
      × ((operation front a.place a.call a.ending ≡ None) ⊎ (operation es a.place a.call a.ending ≡ None)))).
      absurd (⊎_elim
      (λ (lost : (x v : ℕ) × (a.call ≡ WriteTo x v) × (a.ending ≡ Some Lost) × (operation front a.place a.call a.ending ≡ None)).
      let end = ended-from front here.0 a Lost here.2 lost.3 in plain.not_lost end.0 a.client (take-from n es end.0 (Ends a.client Lost) end.1.ends).1)
      (λ (none : (x : ℕ) × (a.call ≡ ReadOf x) × (a.ending ≡ Some GotNothing)
      × ((operation front a.place a.call a.ending ≡ None) ⊎ (operation es a.place a.call a.ending ≡ None))).
      let end = ended-from front here.0 a GotNothing here.2 none.2 in plain.got end.0 a.client (take-from n es end.0 (Ends a.client GotNothing) end.1.ends).1)
      other))
      ((session-found ended last rest cut_calls).alike k a at)

  pub cut-begins : HasPlainEnds es → BeginsSession front es c
  cut-begins plain =
      let session = session-found calls-found.0 calls-found.1 calls-found.2 calls-found.3 in
      let same = filter_map-same (λ (a : Call). operation front a.place a.call a.ending) (λ (a : Call). operation es a.place a.call a.ending) calls-found.0
      (plain-operations plain calls-found.0 calls-found.1 calls-found.2 calls-found.3) in (
        operations front calls-found.0,
        operations front calls-found.1,
        operations es calls-found.2,
        session.in_cut,
        session.in_log ∙ ap (λ (l : List Operation). l ++ operations es calls-found.2) (sym same),
        session.short,
        session.unknown,
      )
