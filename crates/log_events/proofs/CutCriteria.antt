-- A cut of a log in which no call is lost, fails or gets nothing meets what the log meets.
use Rattle.std.proofs.Common.{◌≡◌, ℕ, ◌+◌, ◌<◌, List, [], ◌++◌, length, take, drop, refl, ap, sym, subst, ◌∙◌, ⊎_elim, arith, take-append-drop, append-nil}
use Rattle.std.specs.Prelude.{◌≢◌, Option, Some, None, slice_get, filter, filter_map, option_map}
use Rattle.std.proofs.lemmas.Bool.{cases_eq}
use Rattle.std.proofs.lemmas.List.Elements.{filter_map-append}
use Rattle.std.proofs.lemmas.Option.{slice_get_within}
use Rattle.model_objects.specs.declared.register.RegisterRet.{RegisterRet}
use Rattle.model_history.specs.declared.op_id.OpId.{OpId}
use Rattle.model_history.specs.History.{IsOp, session, entry}
use Rattle.order_causal.proofs.Fronts.{take-from}
use Rattle.order_memory.specs.Memory.{MemoryCall, memory_answer, Reads, Writes, initial, IsDifferentiated}
use Rattle.order_memory.proofs.MemoryLaws.{entry-call, same_read, write-of_history}
use Rattle.order_memory.proofs.RaiseLists.{at-left, at-right}
use Rattle.order_memory.proofs.SourcesExist.{read-source}
use Rattle.cert_check.specs.declared.criterion.Criterion.{Criterion}
use Rattle.cert_check.specs.Criteria.{Meets}
use Rattle.cert_subhistories.proofs.KeptLists.{filter_place}
use Rattle.log_events.specs.declared.event.Ending.{Ending}
use Rattle.log_events.specs.declared.event.Ending.TheVariants.{GotNothing, Failed, Lost}
use Rattle.log_events.specs.declared.event.Event.{Event}
use Rattle.log_events.specs.declared.event.Event.TheVariants.{Ends}
use Rattle.log_events.specs.Events.{IsAt, IsAllowed, Call, run_calls}
use Rattle.log_events.specs.Histories.{Operation, start_entry, clients, operation, operations, client_session, history_of}
use Rattle.log_events.specs.Cuts.{EndsWell, HasStartsBefore, ReturnsWhatWasBegun}
use Rattle.log_events.proofs.AllowedLogs.{ended-fits}
use Rattle.log_events.proofs.CallOperations.{fork-call, memory_call, open-operation, open-same, ended-operation}
use Rattle.log_events.proofs.CallPlaces.{calls-from, ended-from}
use Rattle.log_events.proofs.CompletedFronts.{front-meets_own}
use Rattle.log_events.proofs.CutCalls.{is_own, IsCutCalls}
use Rattle.log_events.proofs.CutLogs.{cut-allowed, cut-returns}
use Rattle.log_events.proofs.CutSessions.{calls-found, session-found, plain-operations}
use Rattle.log_events.proofs.FrontHistories.{Extends, IsFront, open-extends}
use Rattle.log_events.proofs.ListPlaces.{filter_map-from, filter_map-same, filter_map-first, append-cases, slice_get-drop}
use Rattle.log_events.proofs.OperationPlaces.{IsForkOfCall, operation_of, operation-from, session-cases, history-client, client-below}
use Rattle.log_events.proofs.ReadSources.{sources-found}
use Rattle.log_events.proofs.StartValues.{no_starts}

module _ (es : List Event) (n : ℕ) (allowed : IsAllowed es) (well : EndsWell es) (starts : HasStartsBefore es n) where
  abbrev front : List Event
  front = take n es

  start-same : filter_map start_entry front ≡ filter_map start_entry es
  start-same =
      let none = no_starts (drop n es) (λ k x v at. let below = starts (n + k) x v (sym (slice_get-drop n es k) ∙ at) in omega arith) in
      sym (append-nil (filter_map start_entry front)) ∙ ap (λ (l : List (ℕ × ℕ)). filter_map start_entry front ++ l) (sym none)
      ∙ sym (filter_map-append start_entry front (drop n es)) ∙ ap (filter_map start_entry) (take-append-drop n es)

  -- the operation of a call of the log, whatever it ended with
  call-operation : (c k : ℕ) (a : Call) → slice_get (filter (is_own c) (run_calls es)) k ≡ Some a
      → (r : Option RegisterRet) × (operation_of es a ≡ Some (memory_call a.place a.call, r))
  call-operation c k a at =
      let there = filter_place (is_own c) (run_calls es) k a at in
      let here = calls-from 0 es there.0 a there.1 in
      elim a.ending as (λ (o : Option Ending). a.ending ≡ o → (r : Option RegisterRet) × (operation es a.place a.call o ≡ Some (memory_call a.place a.call, r))) [
        | None ↦ λ _. (None, open-operation es a.place a.call)
        | Some ending ↦ λ some.
            let end = ended-from es here.0 a ending here.2 some in
            let ends = λ (other : Ending) (same : ending ≡ other). subst (λ (x : Ending). IsAt es end.0 (Ends a.client x)) same end.1.ends in
            ended-operation es a.place a.call ending (ended-fits es allowed a.client a.call here.0 end.0 ending end.1)
            (λ same. well.not_failed end.0 a.client (ends Failed same))
            (λ same. well.plain.not_lost end.0 a.client (ends Lost same))
            (λ same. well.plain.got end.0 a.client (ends GotNothing same))
      ] refl

  module _ (c : ℕ) (ended last rest : List Call) (is_cut : IsCutCalls c 0 front (drop n es) ended last rest) where
    ended-same : operations front ended ≡ operations es ended
    ended-same = filter_map-same (operation_of front) (operation_of es) ended (plain-operations es n allowed c well.plain ended last rest is_cut)

    log-calls : filter (is_own c) (run_calls es) ≡ ended ++ rest
    log-calls = ap (λ (l : List Event). filter (is_own c) (run_calls l)) (sym (take-append-drop n es)) ∙ is_cut.in_log

    -- the call that did not end in the cut
    pending-extended : (a : Call) (e : Operation) → slice_get last 0 ≡ Some a → operation_of front a ≡ Some e
        → (d : Operation) × (slice_get (operations es rest) 0 ≡ Some d) × Extends e d
    pending-extended a e at is =
        let (ending, next) = is_cut.next 0 a at in
        let b : Call = record { client = a.client; place = a.place; call = a.call; ending = ending } in
        let k = length ended + 0 in
        let (known, own) = call-operation c k b (ap (λ (l : List Call). slice_get l k) log-calls ∙ at-right ended rest k 0 b refl next) in (
          (memory_call a.place a.call, known),
          filter_map-first (operation_of es) rest b (memory_call a.place a.call, known) next own,
          open-extends (memory_call a.place a.call) known e (open-same front a.place a.call a.ending e (is_cut.is_open 0 a at) is),
        )

    last-extended : (j : ℕ) (e : Operation) → slice_get (operations front last) j ≡ Some e
        → (d : Operation) × (slice_get (operations es rest) j ≡ Some d) × Extends e d
    last-extended j e at =
        let (m, a, here, is, _) = filter_map-from (operation_of front) last j e at in
        let short = is_cut.short in
        let within = slice_get_within last m a here in
        let few = (session-found es n allowed c ended last rest is_cut).short in
        let inside = slice_get_within (operations front last) j e at in
        let first : m ≡ 0 = omega arith in
        let none : 0 ≡ j = omega arith in
        subst (λ (i : ℕ). (d : Operation) × (slice_get (operations es rest) i ≡ Some d) × Extends e d) none
        (pending-extended a e (subst (λ (i : ℕ). slice_get last i ≡ Some a) first here) is)

    session-extended : (k : ℕ) (e : Operation) → slice_get (client_session front c) k ≡ Some e
        → (d : Operation) × (slice_get (client_session es c) k ≡ Some d) × Extends e d
    session-extended k e at =
        let session = session-found es n allowed c ended last rest is_cut in
        ⊎_elim
        (λ (first : slice_get (operations front ended) k ≡ Some e). (
          e,
          ap (λ (l : List Operation). slice_get l k) session.in_log
              ∙ at-left (operations es ended) (operations es rest) k e (subst (λ (l : List Operation). slice_get l k ≡ Some e) ended-same first),
          (refl, λ r is. is),
        ))
        (λ (second : (j : ℕ) × (k ≡ length (operations front ended) + j) × (slice_get (operations front last) j ≡ Some e)).
        let d = last-extended second.0 e second.2 in
        let place : k ≡ length (operations es ended) + second.0 = second.1 ∙ ap (λ (l : List Operation). length l + second.0) ended-same in (
          d.0,
          ap (λ (l : List Operation). slice_get l k) session.in_log
              ∙ at-right (operations es ended) (operations es rest) k second.0 d.0 place d.1,
          d.2,
        ))
        (append-cases (operations front ended) (operations front last) k e (ap (λ (l : List Operation). slice_get l k) (sym session.in_cut) ∙ at))

  cut-extended : (o : OpId) (e : Operation) → entry (history_of front) o ≡ Some e
      → (d : Operation) × (entry (history_of es) o ≡ Some d) × Extends e d
  cut-extended o e at =
      let s = o.session in
      ⊎_elim
      (λ (same : session (history_of front) s ≡ client_session front s).
      let here : slice_get (client_session front s) o.index ≡ Some e = subst (λ (l : List Operation). slice_get l o.index ≡ Some e) same at in
      let r = calls-found es n allowed s in
      let d = session-extended s r.0 r.1 r.2 r.3 o.index e here in
      let from = operation-from front s o.index e here in
      let begun = calls-from 0 front from.1.0 from.0 from.1.1 in
      let below : s < clients es =
      subst (λ (c : ℕ). c < clients es) from.2 (client-below es begun.0 from.0.client from.0.call (take-from n es begun.0 _ begun.2.begun).1) in
      (d.0, history-client es s o.index d.0 below d.1, d.2))
      (λ (forked : IsForkOfCall front s (session (history_of front) s)).
      let a = forked.0 in
      let f = fork-call front a.place a.call a.ending (session (history_of front) s) forked.2 in
      let begun = calls-from 0 front forked.1.0 a forked.1.1 in
      let end = ended-from front begun.0 a Lost begun.2 f.3 in
      absurd (well.plain.not_lost end.0 a.client (take-from n es end.0 (Ends a.client Lost) end.1.ends).1))
      (session-cases front o e at)

  cut-front : IsFront (history_of es) (history_of front)
  cut-front = record { start = start-same; extended = cut-extended }

  pub cut-meets : ReturnsWhatWasBegun es → IsDifferentiated (history_of es) → (criterion : Criterion)
      → Meets memory_answer (history_of es) criterion → Meets memory_answer (history_of front) criterion
  cut-meets returns distinct = front-meets_own (history_of es) (history_of front) cut-front keeps
    where
      keeps : (w r : OpId) (x v : ℕ) → Writes (history_of es) w x v → Reads (history_of front) r x v → IsOp (history_of front) w
      keeps w r x v writes reads = ⊎_elim
          (λ (same : v ≡ initial (history_of front) x).
          let start : initial (history_of front) x ≡ initial (history_of es) x = ap (λ (t : List (ℕ × ℕ)). initial (t, []) x) start-same in
          absurd (distinct.not_initial w x v writes (same ∙ start)))
          (λ (other : v ≢ initial (history_of front) x).
          let sources = sources-found front (cut-allowed es n allowed) (cut-returns es n returns) in
          let source = read-source (history_of front) sources r x v reads other in
          let from = source.1.0 in
          let same = same_read (history_of front) r from.0 from.1 x v from.3 reads in
          let wrote : Writes (history_of front) source.0 x v =
          subst (λ (u : ℕ). Writes (history_of front) source.0 x u) same.1 (subst (λ (y : ℕ). Writes (history_of front) source.0 y from.1) same.0 from.2) in
          let e = entry-call (entry (history_of front) source.0) _ wrote in
          let d = cut-extended source.0 _ e.1 in
          let there : Writes (history_of es) source.0 x v = ap (option_map (λ (c : Operation). c.0)) d.1 ∙ ap (λ (c : MemoryCall). Some c) d.2.0 in
          subst (λ (o : OpId). IsOp (history_of front) o) (distinct.once source.0 w x v there writes) (write-of_history (history_of front) source.0 x v wrote))
          (cases_eq v (initial (history_of front) x))
