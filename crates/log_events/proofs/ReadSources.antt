-- Where each read of a log returns what was begun before, each read of its history has a source.
use Rattle.std.proofs.Common.{◌≡◌, ℕ, ◌<◌, true, false, List, [], ◌∷◌, refl, ap, sym, subst, ◌∙◌, ⊎_elim}
use Rattle.std.specs.Prelude.{◌≢◌, ◌==◌, Option, Some, None, slice_get, option_map}
use Rattle.std.proofs.lemmas.Bool.{eq-eqb, and_from}
use Rattle.model_objects.specs.declared.register.RegisterRet.{RegisterRet}
use Rattle.model_objects.specs.declared.register.RegisterRet.TheVariants.{Done, Value}
use Rattle.model_history.specs.declared.op_id.OpId.{OpId}
use Rattle.model_history.specs.History.{session, entry}
use Rattle.order_causal.specs.Orders.{op}
use Rattle.order_memory.specs.Memory.{MemoryHistory, Writes, initial}
use Rattle.order_memory.specs.SourceOrder.{LacksSource}
use Rattle.log_events.specs.declared.event.ClientCall.{ClientCall}
use Rattle.log_events.specs.declared.event.ClientCall.TheVariants.{WriteTo, ReadOf, DeleteOf}
use Rattle.log_events.specs.declared.event.Ending.{Ending}
use Rattle.log_events.specs.declared.event.Ending.TheVariants.{Answered, Got, GotNothing, Failed, Lost}
use Rattle.log_events.specs.declared.event.Event.{Event}
use Rattle.log_events.specs.declared.event.Event.TheVariants.{Starts, Begins}
use Rattle.log_events.specs.Events.{IsAt, IsEnded, Fits, IsAllowed, Call, run_calls}
use Rattle.log_events.specs.Histories.{key, mark, value, nothing, Operation, write, read, gets, deletes, is_returned, is_deleted, operation, fork, history_of}
use Rattle.log_events.specs.Cuts.{IsBegunBefore, ReturnsWhatWasBegun}
use Rattle.log_events.proofs.AllowedLogs.{ended-fits, first-start}
use Rattle.log_events.proofs.ListPlaces.{list_any-to}
use Rattle.log_events.proofs.CallPlaces.{IsCallAt, calls-from, calls-to, call_at, ended-from}
use Rattle.log_events.proofs.OperationPlaces.{IsRunCall, IsOfCall, IsForkOfCall, history-from, history-call, history-fork, client-below}
use Rattle.log_events.proofs.StartValues.{initial-started, initial-unstarted}
use Rattle.log_events.proofs.CallOperations.{read-call, IsOfRead, fork-call, fork-read}

module _ (es : List Event) where
  writes-of : (o : OpId) (x v : ℕ) (r : Option RegisterRet) → entry (history_of es) o ≡ Some (write x v r) → Writes (history_of es) o x v
  writes-of o x v r at = ap (option_map (λ (e : Operation). e.0)) at

  -- the operation of a call that is a write is a write of the history
  call-writes : (a : Call) (i y v x u : ℕ) (r : Option RegisterRet) → IsRunCall es a → IsCallAt es i a → a.call ≡ WriteTo y v
      → operation es a.place (WriteTo y v) a.ending ≡ Some (write x u r) → (o : OpId) × Writes (history_of es) o x u
  call-writes a i y v x u r is_call here called is =
      let w = history-call es a (write x u r) (client-below es i a.client a.call here.begun) is_call
      (ap (λ (d : ClientCall). operation es a.place d a.ending) called ∙ is) in
      (op a.client w.0, writes-of (op a.client w.0) x u r w.1)

  -- a write that does not fail and whose value was returned is in the history
  write-found : (a : Call) (i x v : ℕ) → IsRunCall es a → IsCallAt es i a → a.call ≡ WriteTo x v → is_returned es x v ≡ true
      → ((ending : Ending) → a.ending ≡ Some ending → Fits (WriteTo x v) ending) → a.ending ≢ Some Failed
      → (o : OpId) × Writes (history_of es) o (key x) (value v)
  write-found a i x v is_call here is returned fits stays =
      elim a.ending as (λ (e : Option Ending). a.ending ≡ e → (o : OpId) × Writes (history_of es) o (key x) (value v)) [
        | None ↦ λ same. call-writes a i x v (key x) (value v) None is_call here is (ap (operation es a.place (WriteTo x v)) same)
        | Some ending ↦ λ same. ended ending same (fits ending same)
      ] refl
    where
      ended : (ending : Ending) → a.ending ≡ Some ending → Fits (WriteTo x v) ending → (o : OpId) × Writes (history_of es) o (key x) (value v)
      ended Answered same fit = call-writes a i x v (key x) (value v) (Some Done) is_call here is (ap (operation es a.place (WriteTo x v)) same)
      ended (Got w) same fit = absurd fit
      ended GotNothing same fit = absurd fit
      ended Failed same fit = absurd (stays same)
      ended Lost same fit =
          let forks : fork es a.place (WriteTo x v) (Some Lost) ≡ Some (read (mark a.place) (Some (Value 1)) ∷ write (key x) (value v) None ∷ []) = rw returned refl in
          let r = history-fork es a (read (mark a.place) (Some (Value 1)) ∷ write (key x) (value v) None ∷ []) 1 (write (key x) (value v) None) is_call
          ((λ j. fork es a.place (is j) (same j)) ∙ forks) refl in
          (op r.0 1, writes-of (op r.0 1) (key x) (value v) None r.1)

  -- a delete that does not fail names its key
  pub delete-names : (a : Call) (x : ℕ) → IsRunCall es a → a.call ≡ DeleteOf x → a.ending ≢ Some Failed → is_deleted es x ≡ true
  delete-names a x (k, at) is stays =
      list_any-to (λ (b : Call). deletes x b.call b.ending) (run_calls es) k a at
      (ap (λ (d : ClientCall). deletes x d a.ending) is ∙ named a.ending stays)
    where
      named : (ending : Option Ending) → ending ≢ Some Failed → deletes x (DeleteOf x) ending ≡ true
      named None other = eq-eqb x x refl
      named (Some Answered) other = eq-eqb x x refl
      named (Some (Got v)) other = eq-eqb x x refl
      named (Some GotNothing) other = eq-eqb x x refl
      named (Some Lost) other = eq-eqb x x refl
      named (Some Failed) other = absurd (other refl)

  read-returned : (a : Call) (x v : ℕ) → IsRunCall es a → a.call ≡ ReadOf x → a.ending ≡ Some (Got v) → is_returned es x v ≡ true
  read-returned a x v (k, at) is got =
      list_any-to (λ (b : Call). gets x v b.call b.ending) (run_calls es) k a at
      (ap (λ (d : ClientCall). gets x v d a.ending) is ∙ ap (gets x v (ReadOf x)) got ∙ and_from (x == x) (v == v) (eq-eqb x x refl) (eq-eqb v v refl))

module _ (es : List Event) (allowed : IsAllowed es) (returns : ReturnsWhatWasBegun es) where
  abbrev h : MemoryHistory
  h = history_of es

  -- what was begun and does not fail is a call of the run
  begun-call : (c i : ℕ) (call : ClientCall) → IsAt es i (Begins c call) → ((k : ℕ) → ¬ IsEnded es c call i k Failed)
      → (a : Call) × IsRunCall es a × IsCallAt es i a × (a.call ≡ call) × (a.ending ≢ Some Failed)
      × ((ending : Ending) → a.ending ≡ Some ending → Fits call ending)
  begun-call c i call at stays =
      let r = calls-to 0 es i c call at in
      let here : IsCallAt es i (call_at 0 i es c call) = record { begun = at; ended = refl } in (
        call_at 0 i es c call,
        r,
        here,
        refl,
        λ failed. let end = ended-from es i (call_at 0 i es c call) Failed here failed in stays end.0 end.1,
        λ ending is. let end = ended-from es i (call_at 0 i es c call) ending here is in ended-fits es allowed c call i end.0 ending end.1,
      )

  client-read : (r : OpId) (x u : ℕ) → u ≢ initial h x → (a : Call) → IsRunCall es a → IsOfRead es a.place x u a.call a.ending
      → (w : OpId) × Writes h w x u
  client-read r x u other a (k, at) is_read =
      let (i, place, here) = calls-from 0 es k a at in
      ⊎_elim
      (λ (got : (y v : ℕ) × (a.call ≡ ReadOf y) × (a.ending ≡ Some (Got v)) × (x ≡ key y) × (u ≡ value v)).
      let (y, v, called, ended, same_key, same_value) = got in
      let (j, end) = ended-from es i a (Got v) here ended in
      let found = returns.value a.client y v i j (subst (λ (d : ClientCall). IsEnded es a.client d i j (Got v)) called end) in
      ⊎_elim
      (λ (start : (m : ℕ) × (m < j) × IsAt es m (Starts y v)).
      absurd (other (same_value ∙ sym (initial-started es start.0 y v start.2 (first-start es allowed start.0 y v start.2)) ∙ ap (initial h) (sym same_key))))
      (λ (begun : IsBegunBefore es j (WriteTo y v)).
      let (c, m, earlier, began, stays) = begun in
      let (b, is_call, there, is, not_failed, fits) = begun-call c m (WriteTo y v) began stays in
      let w = write-found es b m y v is_call there is (read-returned es a y v (k, at) called ended) fits not_failed in
      (w.0, subst (λ (z : ℕ). Writes h w.0 z u) (sym same_key) (subst (Writes h w.0 (key y)) (sym same_value) w.1)))
      found)
      (λ (none : (y : ℕ) × (a.call ≡ ReadOf y) × (a.ending ≡ Some GotNothing) × (is_deleted es y ≡ false) × (x ≡ key y) × (u ≡ nothing)).
      let (y, called, ended, kept, same_key, same_value) = none in
      let (j, end) = ended-from es i a GotNothing here ended in
      let found = returns.nothing a.client y i j (subst (λ (d : ClientCall). IsEnded es a.client d i j GotNothing) called end) in
      ⊎_elim
      (λ (unstarted : (m v : ℕ) → ¬ IsAt es m (Starts y v)).
      absurd (other (same_value ∙ sym (initial-unstarted es y unstarted) ∙ ap (initial h) (sym same_key))))
      (λ (begun : IsBegunBefore es j (DeleteOf y)).
      let (c, m, earlier, began, stays) = begun in
      let (b, is_call, there, is, not_failed, fits) = begun-call c m (DeleteOf y) began stays in
      let names = delete-names es b y is_call is not_failed in
      absurd cc)
      found)
      is_read

  -- the mark that a fork reads is written
  mark-written : (a : Call) (y v : ℕ) → IsRunCall es a → a.call ≡ WriteTo y v → a.ending ≡ Some Lost → is_returned es y v ≡ true
      → (w : OpId) × Writes h w (mark a.place) 1
  mark-written a y v (k, at) called ended returned =
      let (i, place, here) = calls-from 0 es k a at in
      let marks : operation es a.place (WriteTo y v) (Some Lost) ≡ Some (write (mark a.place) 1 (Some Done)) = rw returned refl in
      call-writes es a i y v (mark a.place) 1 (Some Done) (k, at) here called (ap (operation es a.place (WriteTo y v)) ended ∙ marks)

  pub sources-found : ¬ LacksSource h
  sources-found (r, x, u, reads, other, none) = ⊎_elim
      (λ (client : IsOfCall es r.session r.index (read x (Some (Value u)))).
      let (a, is_call, mine, is, _) = client in
      let w = client-read r x u other a is_call (read-call es a.place x u a.call a.ending is) in
      none w.0 w.1)
      (λ (forked : IsForkOfCall es r.session (session h r.session)).
      let (a, is_call, is, _) = forked in
      let (y, v, called, ended, returned, same) = fork-call es a.place a.call a.ending (session h r.session) is in
      let w = mark-written a y v is_call called ended returned in
      let (mark_same, one_same) = fork-read (mark a.place) (key y) (value v) x u r.index
      (subst (λ (l : List Operation). slice_get l r.index ≡ Some (read x (Some (Value u)))) same reads) in
      none w.0 (subst (Writes h w.0 x) one_same (subst (λ (z : ℕ). Writes h w.0 z 1) mark_same w.1)))
      (history-from es r (read x (Some (Value u))) reads)
