-- What is forced holds in the history of a log by each whole choice by which it is causally consistent.
use Rattle.std.proofs.Common.{◌≡◌, ℕ, suc, ◌+◌, ◌-◌, ◌*◌, ◌<◌, true, false, Bool, List, drop, refl, ap, sym, subst, ◌∙◌, inl, inr, ⊎_elim, arith}
use Rattle.std.specs.Prelude.{◌≢◌, if◌then◌else◌, Option, Some, None, slice_get}
use Rattle.std.proofs.lemmas.Bool.{cases_eq}
use Rattle.std.proofs.lemmas.Option.{same_Some}
use Rattle.model_history.specs.declared.op_id.OpId.{OpId}
use Rattle.model_objects.specs.declared.register.RegisterRet.TheVariants.{Done, Value}
use Rattle.order_causal.proofs.PathsLaws.{leads-edge, leads-leads}
use Rattle.order_memory.specs.Memory.{MemoryHistory, Reads, Writes, IsDifferentiated, initial, memory_answer}
use Rattle.order_memory.specs.Relations.{AreRivalWrites, CO, IsEdge, ReadsFrom}
use Rattle.cert_check.specs.declared.criterion.Criterion.TheVariants.{Cc}
use Rattle.cert_check.specs.Criteria.{Meets}
use Rattle.pattern_check.specs.declared.kind.Kind.TheVariants.{CyclicCO, WriteCOInitRead, WriteCORead}
use Rattle.pattern_check.proofs.Exclusion.{consistency-excluded}
use Rattle.log_events.specs.declared.event.ClientCall.{ClientCall}
use Rattle.log_events.specs.declared.event.ClientCall.TheVariants.{WriteTo, ReadOf, DeleteOf}
use Rattle.log_events.specs.declared.event.Ending.{Ending}
use Rattle.log_events.specs.declared.event.Ending.TheVariants.{Answered, Got, GotNothing, Failed, Lost}
use Rattle.log_events.specs.declared.event.Event.{Event}
use Rattle.log_events.specs.declared.event.Event.TheVariants.{Begins}
use Rattle.log_events.specs.Events.{Fits, IsAt, IsEnded, IsAllowed, ending_in}
use Rattle.log_events.specs.Histories.{key, value, nothing, Operation, read, write, is_deleted, operation, history_of}
use Rattle.log_events.specs.Values.{BeginsKeptWrite, HasDistinctValues}
use Rattle.log_events.proofs.AllowedLogs.{allowed-turns, ended-fits}
use Rattle.log_events.proofs.CallPlaces.{call_at, ended-from, ended-to}
use Rattle.log_events.proofs.CallSlots.{IsMainAt}
use Rattle.log_events.proofs.CutCalls.{unended}
use Rattle.log_events.proofs.DistinctValues.{values-distinct}
use Rattle.log_events.proofs.ListPlaces.{slice_get-drop}
use Rattle.log_events.proofs.StartValues.{initial-unstarted}
use Rattle.log_choices.specs.Choices.{Choice, IsCandidate, IsChoice, IsNullRead, IsWhole}
use Rattle.log_choices.specs.Forced.{FollowsInSession, ReturnsWrite, BeginsWriteOf, Comes, IsOut, in_session, through, returned, only_left, after_read, replaced, start_replaced, LacksCandidates}
use Rattle.log_choices.proofs.CallEffects.{IsEffect, effect-once, effect-apart, main-of, session-before, effect-writes, write-effect, read-effect, miss-effect, got-returned}
use Rattle.log_choices.proofs.ChosenShapes.{stays-resolved}
use Rattle.log_choices.proofs.ResolvedEvents.{at-starts, begins-at, ended-resolved, resolved-allowed}
use Rattle.log_choices.proofs.ResolvedHistories.{resolved, undeleted}
use Rattle.log_choices.proofs.ResolvedLogs.{resolved_call, resolved_miss, resolved_ending}
use Rattle.log_choices.proofs.ResolvedValues.{resolved-distinct}

module _ (es : List Event) (f : Choice) (allowed : IsAllowed es) where
  abbrev log : List Event
  log = resolved es f

  -- a call of the log that neither failed nor was lost has an operation in its client's session, where no null read is left out
  ended-effect : IsWhole es f → (client : ℕ) (call : ClientCall) (i j : ℕ) (ending : Ending) → IsEnded es client call i j ending → ending ≢ Failed
      → ending ≢ Lost → (o : OpId) × (main : IsMainAt log i o) × (main.a.ending ≢ Some Lost)
  ended-effect whole client call i j ending end not_failed not_lost = by_call call ending end (ended-fits es allowed client call i j ending end) not_failed not_lost
    where
      stands : (call : ClientCall) (ending last : Ending) (e : Operation) → IsEnded es client call i j ending → resolved_ending es f (i, call) ending ≡ last
          → last ≢ Lost → operation log i (resolved_call i call) (Some last) ≡ Some e → (o : OpId) × (main : IsMainAt log i o) × (main.a.ending ≢ Some Lost)
      stands call ending last e end is stays gives =
          let there = ended-resolved es f allowed client call i j ending end in
          let (o, main, _, same) = main-of log client i (resolved_call i call) (Some last) e (begins-at es f i client call end.was_open.begun)
          (ended-to log client (resolved_call i call) i j (resolved_ending es f (i, call) ending) there ∙ ap (λ (t : Ending). Some t) is) gives in
          (o, main, λ lost. stays (same_Some _ _ (sym same ∙ lost)))

      missed : (x : ℕ) → IsEnded es client (ReadOf x) i j GotNothing → (b : Bool) → is_deleted es x ≡ b → (o : Option (Option ℕ)) → f i ≡ o
          → (q : OpId) × (main : IsMainAt log i q) × (main.a.ending ≢ Some Lost)
      missed x end false unnamed o is =
          stands (ReadOf x) GotNothing GotNothing (read (key x) (Some (Value nothing))) end
          (ap (λ (b : Bool). resolved_miss (if b then f i else Some None)) unnamed) (λ lost. absurd cc) (rw (undeleted es f allowed x) refl)
      missed x end true named None is = absurd (whole client x i j (record { ended = end; named = named }) is)
      missed x end true named (Some None) is =
          stands (ReadOf x) GotNothing GotNothing (read (key x) (Some (Value nothing))) end
          ((λ t. resolved_miss (if named t then is t else Some None))) (λ lost. absurd cc) (rw (undeleted es f allowed x) refl)
      missed x end true named (Some (Some p)) is =
          stands (ReadOf x) GotNothing (Got (2 * p + 1)) (read (key x) (Some (Value (value (2 * p + 1))))) end
          ((λ t. resolved_miss (if named t then is t else Some None))) (λ lost. absurd cc) refl

      by_call : (call : ClientCall) (ending : Ending) → IsEnded es client call i j ending → Fits call ending → ending ≢ Failed → ending ≢ Lost
          → (o : OpId) × (main : IsMainAt log i o) × (main.a.ending ≢ Some Lost)
      by_call (WriteTo x v) Answered end fits not_failed not_lost =
          stands (WriteTo x v) Answered Answered (write (key x) (value (2 * v)) (Some Done)) end refl (λ lost. absurd cc) refl
      by_call (WriteTo x v) (Got u) end fits not_failed not_lost = absurd fits
      by_call (WriteTo x v) GotNothing end fits not_failed not_lost = absurd fits
      by_call (DeleteOf x) Answered end fits not_failed not_lost =
          stands (DeleteOf x) Answered Answered (write (key x) (value (2 * i + 1)) (Some Done)) end refl (λ lost. absurd cc) refl
      by_call (DeleteOf x) (Got u) end fits not_failed not_lost = absurd fits
      by_call (DeleteOf x) GotNothing end fits not_failed not_lost = absurd fits
      by_call (ReadOf x) Answered end fits not_failed not_lost = absurd fits
      by_call (ReadOf x) (Got v) end fits not_failed not_lost =
          stands (ReadOf x) (Got v) (Got (2 * v)) (read (key x) (Some (Value (value (2 * v))))) end refl (λ lost. absurd cc) refl
      by_call (ReadOf x) GotNothing end fits not_failed not_lost = missed x end (is_deleted es x) refl (f i) refl
      by_call call Failed end fits not_failed not_lost = absurd (not_failed refl)
      by_call call Lost end fits not_failed not_lost = absurd (not_lost refl)

  -- a null read of the resolved log
  pub chosen-miss : (client x i j : ℕ) (c : Option ℕ) → IsNullRead es client x i j → f i ≡ Some c → IsEnded log client (ReadOf x) i j (resolved_miss (Some c))
  chosen-miss client x i j c null some =
      subst (IsEnded log client (ReadOf x) i j) (λ t. resolved_miss (if null.named t then some t else Some None))
      (ended-resolved es f allowed client (ReadOf x) i j GotNothing null.ended)

  -- a call that its client goes on after ended
  gone_on : (client a b : ℕ) (call next : ClientCall) → IsAt es a (Begins client call) → IsAt es b (Begins client next) → a < b
      → (j : ℕ) × (ending : Ending) × IsEnded es client call a j ending
  gone_on client a b call next first second below = by_ending (ending_in client (drop (suc a) es)) refl
    where
      by_ending : (o : Option Ending) → ending_in client (drop (suc a) es) ≡ o → (j : ℕ) × (ending : Ending) × IsEnded es client call a j ending
      by_ending None none =
          let (m, ending, above, under, ends) = allowed-turns es allowed client a b call next below first second in
          let same : suc a + (m - suc a) ≡ m = omega arith in
          absurd (unended client (drop (suc a) es) none (m - suc a) ending (slice_get-drop (suc a) es (m - suc a) ∙ ap (slice_get es) same ∙ ends))
      by_ending (Some ending) some =
          let (j, end) = ended-from es a (call_at 0 a es client call) ending (record { begun = first; ended = refl }) some in (j, ending, end)

  abbrev chosen : MemoryHistory
  chosen = history_of log

  module _ (in_time : Bool) (choice : IsChoice in_time es f) where
    -- a null read that saw the start returned the initial value
    pub saw-start : (client x r j : ℕ) → IsNullRead es client x r j → f r ≡ Some None
        → (q : OpId) × IsEffect log r q × Reads chosen q (key x) (initial chosen (key x))
    saw-start client x r j null some =
        let (q, effect, reads) = miss-effect log client x r j (chosen-miss client x r j None null some) (undeleted es f allowed x) in
        let none : initial chosen (key x) ≡ nothing =
        initial-unstarted log x (λ k v at. let r2 = at-starts es f k x v at in choice client x r j None null some k r2.0 r2.1) in
        (q, effect, subst (Reads chosen q (key x)) (sym none) reads)

    module _ (distinct : HasDistinctValues es) where
      differentiated : IsDifferentiated chosen
      differentiated = values-distinct log (resolved-distinct es f allowed distinct)

      -- a read comes after the write that it got
      got-from_write : (client p x u reader r j : ℕ) → IsAt log p (Begins client (WriteTo x u))
          → ((k : ℕ) → ¬ IsEnded log client (WriteTo x u) p k Failed) → IsEnded log reader (ReadOf x) r j (Got u)
          → (q : OpId) → IsEffect log r q → (o : OpId) × IsEffect log p o × ReadsFrom chosen o q
      got-from_write client p x u reader r j begun stays end q effect =
          let got = got-returned log reader x r j u end in
          let kept : BeginsKeptWrite log client p x u = record { begun = begun; not_failed = stays; returned = λ _ _. got } in
          let (o, writer) = write-effect log (resolved-allowed es f allowed) client p x u kept got in
          let writes = effect-writes log client p x u o begun writer in
          let (q2, reading, reads) = read-effect log reader x r j u end in
          let same : q2 ≡ q = effect-once log r q2 q reading effect in
          (o, writer, (key x, value u, writes, subst (λ (t : OpId). Reads chosen t (key x) (value u)) same reads, differentiated.not_initial o (key x) (value u) writes))

      -- a null read comes after the delete that it saw
      pub saw-delete : (client x r j p : ℕ) → IsNullRead es client x r j → f r ≡ Some (Some p) → (q : OpId) → IsEffect log r q
          → (o : OpId) × IsEffect log p o × ReadsFrom chosen o q
      saw-delete client x r j p null some q effect =
          let ((deleter, at, stays), _) = choice client x r j (Some p) null some in
          got-from_write deleter p x (2 * p + 1) client r j (begins-at es f p deleter (DeleteOf x) at)
          (stays-resolved es f allowed deleter p (DeleteOf x) at stays) (chosen-miss client x r j (Some p) null some) q effect

      module _ (whole : IsWhole es f) (met : Meets memory_answer (history_of (resolved es f)) Cc) where
        acyclic : (o : OpId) → ¬ CO chosen o o
        acyclic o cycle = consistency-excluded chosen differentiated CyclicCO refl (o, cycle) met

        -- each operation by which the call at b took effect comes after one by which the call at a did
        abbrev pub IsBefore : ℕ → ℕ → Type 0
        IsBefore a b = (q : OpId) → IsEffect log b q → (o : OpId) × IsEffect log a o × CO chosen o q

        null-effect : (client x r j : ℕ) → IsNullRead es client x r j → (q : OpId) × IsEffect log r q
        null-effect client x r j null =
            let (q, main, stays) = ended-effect whole client (ReadOf x) r j GotNothing null.ended (λ failed. absurd cc) (λ lost. absurd cc) in (q, inl (main, stays))

        -- a write or a delete of a key writes its variable
        writes-key : (x b : ℕ) (o : OpId) → BeginsWriteOf es x b → IsEffect log b o → (u : ℕ) × Writes chosen o (key x) u
        writes-key x b o (client, inl (v, at)) effect =
            (value (2 * v), effect-writes log client b x (2 * v) o (begins-at es f b client (WriteTo x v) at) effect)
        writes-key x b o (client, inr at) effect =
            (value (2 * b + 1), effect-writes log client b x (2 * b + 1) o (begins-at es f b client (DeleteOf x) at) effect)

        -- the steps
        session-step : (a b : ℕ) → FollowsInSession es a b → IsBefore a b
        session-step a b follows q effect =
            let (j, ending, end) = gone_on follows.client a b follows.call follows.next follows.first follows.second follows.earlier in
            let (o, main, stays) = ended-effect whole follows.client follows.call a j ending end
            (λ failed. follows.not_failed j (subst (IsEnded es follows.client follows.call a j) failed end))
            (λ lost. follows.not_lost j (subst (IsEnded es follows.client follows.call a j) lost end)) in (
              o,
              inl (main, stays),
              session-before log follows.client a b (resolved_call a follows.call) (resolved_call b follows.next) o q
                  (begins-at es f a follows.client follows.call follows.first) (begins-at es f b follows.client follows.next follows.second)
                  follows.earlier main effect,
            )

        returned-step : (p r : ℕ) → ReturnsWrite es p r → IsBefore p r
        returned-step p r is q effect =
            let (o, writer, edge) = got-from_write is.client p is.x (2 * is.v) is.reader r is.j (begins-at es f p is.client (WriteTo is.x is.v) is.write.begun)
            (stays-resolved es f allowed is.client p (WriteTo is.x is.v) is.write.begun is.write.not_failed)
            (ended-resolved es f allowed is.reader (ReadOf is.x) r is.j (Got is.v) is.read) q effect in
            (o, writer, leads-edge (IsEdge chosen) o q (inr edge))

        after-step : (client x r j p : ℕ) → IsNullRead es client x r j → IsBefore r p → f r ≢ Some (Some p)
        after-step client x r j p null before some =
            let (q, effect) = null-effect client x r j null in
            let (o, writer, edge) = saw-delete client x r j p null some q effect in
            let (q2, effect2, less) = before o writer in
            let same : q2 ≡ q = effect-once log r q2 q effect2 effect in
            acyclic o (leads-leads (IsEdge chosen) o q o (leads-edge (IsEdge chosen) o q (inr edge)) (subst (λ (t : OpId). CO chosen t o) same less))

        replaced-step : (client x r j p b : ℕ) → IsNullRead es client x r j → BeginsWriteOf es x b → b ≢ p → IsBefore p b → IsBefore b r
            → f r ≢ Some (Some p)
        replaced-step client x r j p b null writes apart first second some =
            let (q, effect) = null-effect client x r j null in
            let (o, writer, edge) = saw-delete client x r j p null some q effect in
            let (m, between, late) = second q effect in
            let (o2, writer2, early) = first m between in
            let same : o2 ≡ o = effect-once log p o2 o writer2 writer in
            let (y, v, wrote, reads, other) = edge in
            let ((deleter, at, _), _) = choice client x r j (Some p) null some in
            let (u, rival) = writes-key x b m writes between in
            let (t, own) = writes-key x p o (deleter, inr at) writer in
            let rivals : AreRivalWrites chosen o m =
            ((λ is. apart (effect-apart log b p m between (subst (IsEffect log p) is writer))), (key x, t, u, own, rival)) in
            consistency-excluded chosen differentiated WriteCORead refl
            (o, m, q, edge, rivals, subst (λ (k : OpId). CO chosen k m) same early, late) met

        start-step : (client x r j b : ℕ) → IsNullRead es client x r j → BeginsWriteOf es x b → IsBefore b r → f r ≢ Some None
        start-step client x r j b null writes before some =
            let (q, effect, reads) = saw-start client x r j null some in
            let (m, writer, less) = before q effect in
            let (u, wrote) = writes-key x b m writes writer in
            consistency-excluded chosen differentiated WriteCOInitRead refl (m, q, key x, u, wrote, reads, less) met

        only_left-step : (client x r j p : ℕ) → IsNullRead es client x r j → ((c : Option ℕ) → IsCandidate in_time es x j c → c ≢ Some p → f r ≢ Some c)
            → IsBefore p r
        only_left-step client x r j p null others q effect = by_choice (f r) refl
          where
            by_choice : (o : Option (Option ℕ)) → f r ≡ o → (w : OpId) × IsEffect log p w × CO chosen w q
            by_choice None none = absurd (whole client x r j null none)
            by_choice (Some None) some = absurd (others None (choice client x r j None null some) (λ same. absurd cc) some)
            by_choice (Some (Some s)) some = ⊎_elim
                (λ (same : s ≡ p).
                let (o, writer, edge) = saw-delete client x r j p null (some ∙ ap (λ (n : ℕ). Some (Some n)) same) q effect in
                (o, writer, leads-edge (IsEdge chosen) o q (inr edge)))
                (λ (apart : s ≢ p). absurd (others (Some s) (choice client x r j (Some s) null some) (λ same. apart (same_Some _ _ same)) some))
                (cases_eq s p)

        -- what is forced holds
        mutual
          pub comes-before : {a b : ℕ} → Comes in_time es a b → IsBefore a b
          comes-before (in_session follows) = session-step _ _ follows
          comes-before (through first second) = λ q effect.
              let (m, between, late) = comes-before second q effect in
              let (o, there, early) = comes-before first m between in
              (o, there, leads-leads (IsEdge chosen) o m q early late)
          comes-before (returned is) = returned-step _ _ is
          comes-before (only_left client x j null others) =
              only_left-step client x _ j _ null (λ c candidate apart. out-unseen (others c candidate apart))

          pub out-unseen : {r : ℕ} {c : Option ℕ} → IsOut in_time es r c → f r ≢ Some c
          out-unseen (after_read client x j null comes) = after-step client x _ j _ null (comes-before comes)
          out-unseen (replaced client x j b null writes apart first second) =
              replaced-step client x _ j _ b null writes apart (comes-before first) (comes-before second)
          out-unseen (start_replaced client x j b null writes comes) = start-step client x _ j b null writes (comes-before comes)

        -- so no null read is left without a candidate, and no call that took effect comes before itself
        pub candidates-left : (r : ℕ) → ¬ LacksCandidates in_time es r
        candidates-left r (client, x, j, null, outs) = by_choice (f r) refl
          where
            by_choice : (o : Option (Option ℕ)) → f r ≡ o → ⊥
            by_choice None none = whole client x r j null none
            by_choice (Some c) some = out-unseen (outs c (choice client x r j c null some)) some

        pub comes-acyclic : (client i j : ℕ) (call : ClientCall) (ending : Ending) → IsEnded es client call i j ending → ending ≢ Failed → ending ≢ Lost
            → ¬ Comes in_time es i i
        comes-acyclic client i j call ending end not_failed not_lost comes =
            let (o, main, stays) = ended-effect whole client call i j ending end not_failed not_lost in
            let (o2, effect, less) = comes-before comes o (inl (main, stays)) in
            let same : o2 ≡ o = effect-once log i o2 o effect (inl (main, stays)) in
            acyclic o (subst (λ (t : OpId). CO chosen t o) same less)
