-- The history of a cut has operations of that of the log, with their returns, their order and what they read.
use Rattle.std.proofs.Common.{◌≡◌, ℕ, zero, suc, ◌+◌, ◌-◌, ◌<◌, true, false, List, [], ◌∷◌, length, take, drop, refl, ap, sym, subst, ◌∙◌, inr, ⊎_elim, arith}
use Rattle.std.specs.Prelude.{◌≢◌, ◌⊎◌, ◌&&◌, if◌then◌else◌, IsTrue, Option, Some, None, slice_get}
use Rattle.std.proofs.lemmas.Bool.{and_parts}
use Rattle.std.proofs.lemmas.Option.{same_Some}
use Rattle.model_objects.specs.declared.register.RegisterRet.{RegisterRet}
use Rattle.model_objects.specs.declared.register.RegisterRet.TheVariants.{Done, Value}
use Rattle.model_history.specs.declared.op_id.OpId.{OpId}
use Rattle.model_history.specs.History.{IsOp, Precedes, session, entry}
use Rattle.order_causal.specs.Orders.{op}
use Rattle.order_causal.proofs.Fronts.{take-from}
use Rattle.order_memory.specs.Memory.{MemoryCall}
use Rattle.log_events.specs.declared.event.ClientCall.{ClientCall}
use Rattle.log_events.specs.declared.event.ClientCall.TheVariants.{WriteTo, ReadOf, DeleteOf}
use Rattle.log_events.specs.declared.event.Ending.{Ending}
use Rattle.log_events.specs.declared.event.Ending.TheVariants.{Answered, Got, GotNothing, Failed, Lost}
use Rattle.log_events.specs.declared.event.Event.{Event}
use Rattle.log_events.specs.declared.event.Event.TheVariants.{Begins, Ends}
use Rattle.log_events.specs.Events.{IsAt, IsEnded, IsAllowed, Call, ending_in, run_calls}
use Rattle.log_events.specs.Histories.{Operation, key, mark, value, nothing, write, read, is_returned, is_deleted, operation, fork, history_of}
use Rattle.log_events.specs.Cuts.{IsClosedCut}
use Rattle.log_events.proofs.AllowedLogs.{allowed-turns}
use Rattle.log_events.proofs.CallOperations.{fork-call, memory_call, open-same}
use Rattle.log_events.proofs.CallPlaces.{calls-from, calls-to, call_at, calls-rise, ended-from}
use Rattle.log_events.proofs.CallSlots.{IsMainAt, IsForkedAt, IsSlot, main-entry, fork-entry, slot-of, apart, main-order}
use Rattle.log_events.proofs.CutCalls.{unended}
use Rattle.log_events.proofs.CutImages.{is_open, is_lost, operation-call, linked, moves, moves-is, IsImage}
use Rattle.log_events.proofs.CutLogs.{cut-allowed, ended-of_cut}
use Rattle.log_events.proofs.CutSessions.{returned-more, ended-alike}
use Rattle.log_events.proofs.FrontHistories.{Extends, open-extends}
use Rattle.log_events.proofs.ListPlaces.{slice_get-drop, slice_get-found}
use Rattle.log_events.proofs.OperationPlaces.{operation_of, fork_of, client_index, fork_session}
use Rattle.log_events.proofs.Shadows.{has_return, is_known}

pub return-from : (o : Option Operation) → has_return o ≡ true → (call : MemoryCall) × (r : RegisterRet) × (o ≡ Some (call, Some r))
return-from None holds = absurd cc
return-from (Some (call, None)) holds = absurd cc
return-from (Some (call, Some r)) holds = (call, r, refl)

-- a call that ended has a known return
ended-return : (es : List Event) (place : ℕ) (call : ClientCall) (ending : Ending) (e : Operation) → operation es place call (Some ending) ≡ Some e
    → has_return (Some e) ≡ true
ended-return es place (WriteTo x v) Answered e is = ap has_return (sym is)
ended-return es place (WriteTo x v) (Got w) e is = absurd cc
ended-return es place (WriteTo x v) GotNothing e is = absurd cc
ended-return es place (WriteTo x v) Failed e is = absurd cc
ended-return es place (WriteTo x v) Lost e is =
    elim (is_returned es x v) as (λ b. (if b then Some (write (mark place) 1 (Some Done)) else None) ≡ Some e → has_return (Some e) ≡ true) [
      | true ↦ λ same. ap has_return (sym same)
      | false ↦ λ none. absurd cc
    ] is
ended-return es place (ReadOf x) Answered e is = absurd cc
ended-return es place (ReadOf x) (Got w) e is = ap has_return (sym is)
ended-return es place (ReadOf x) GotNothing e is =
    elim (is_deleted es x) as (λ b. (if b then None else Some (read (key x) (Some (Value nothing)))) ≡ Some e → has_return (Some e) ≡ true) [
      | true ↦ λ none. absurd cc
      | false ↦ λ same. ap has_return (sym same)
    ] is
ended-return es place (ReadOf x) Failed e is = absurd cc
ended-return es place (ReadOf x) Lost e is = absurd cc
ended-return es place (DeleteOf x) Answered e is = ap has_return (sym is)
ended-return es place (DeleteOf x) (Got w) e is = absurd cc
ended-return es place (DeleteOf x) GotNothing e is = absurd cc
ended-return es place (DeleteOf x) Failed e is = absurd cc
ended-return es place (DeleteOf x) Lost e is = absurd cc

-- a read that got nothing is left out where some delete names its key
left-out_from : (es : List Event) (place x : ℕ) → operation es place (ReadOf x) (Some GotNothing) ≡ None → is_deleted es x ≡ true
left-out_from es place x is =
    elim (is_deleted es x) as (λ b. (if b then None else Some (read (key x) (Some (Value nothing)))) ≡ None → b ≡ true) [
      | true ↦ λ _. refl
      | false ↦ λ some. absurd cc
    ] is

left-out_to : (es : List Event) (place x : ℕ) → is_deleted es x ≡ true → operation es place (ReadOf x) (Some GotNothing) ≡ None
left-out_to es place x deleted = rw deleted refl

pub some-none : {A : Type 0} (o : Option A) (x : A) → o ≡ Some x → o ≡ None → ⊥
some-none o x some none = let wrong : Some x ≡ None = sym some ∙ none in absurd cc

module _ (es : List Event) (n : ℕ) (allowed : IsAllowed es) (holds : IsClosedCut es n) where
  abbrev cut : List Event
  cut = take n es

  -- a call of the cut is one of the log
  log-call : (a : Call) (k : ℕ) → slice_get (run_calls cut) k ≡ Some a
      → (b : Call) × (m : ℕ) × (slice_get (run_calls es) m ≡ Some b) × (a.place ≡ b.place)
  log-call a k at =
      let (i, place, here) = calls-from 0 cut k a at in
      let r = calls-to 0 es i a.client a.call (take-from n es i (Begins a.client a.call) here.begun).1 in
      (call_at 0 i es a.client a.call, r.0, r.1, omega arith)

  -- a call that ended in the cut has in the log the operation that it has in the cut
  ended-kept : (a : Call) (k : ℕ) (ending : Ending) (e : Operation) → slice_get (run_calls cut) k ≡ Some a → a.ending ≡ Some ending
      → operation cut a.place a.call (Some ending) ≡ Some e → operation es a.place a.call (Some ending) ≡ Some e
  ended-kept a k ending e at ended is = ⊎_elim
      (λ (same : operation cut a.place a.call (Some ending) ≡ operation es a.place a.call (Some ending)). sym same ∙ is)
      (λ (other : ((x v : ℕ) × (a.call ≡ WriteTo x v) × (◌≡◌ {A = Option Ending} (Some ending) (Some Lost)) × (operation cut a.place a.call (Some ending) ≡ None))
      ⊎ ((x : ℕ) × (a.call ≡ ReadOf x) × (◌≡◌ {A = Option Ending} (Some ending) (Some GotNothing))
      × ((operation cut a.place a.call (Some ending) ≡ None) ⊎ (operation es a.place a.call (Some ending) ≡ None)))).
      absurd (⊎_elim
      (λ (lost : (x v : ℕ) × (a.call ≡ WriteTo x v) × (◌≡◌ {A = Option Ending} (Some ending) (Some Lost)) × (operation cut a.place a.call (Some ending) ≡ None)).
      some-none _ e is lost.4)
      (λ (none : (x : ℕ) × (a.call ≡ ReadOf x) × (◌≡◌ {A = Option Ending} (Some ending) (Some GotNothing))
      × ((operation cut a.place a.call (Some ending) ≡ None) ⊎ (operation es a.place a.call (Some ending) ≡ None))). ⊎_elim
      (λ (in_cut : operation cut a.place a.call (Some ending) ≡ None). some-none _ e is in_cut)
      (λ (in_log : operation es a.place a.call (Some ending) ≡ None).
      let (x, called, got, _) = none in
      let (i, place, here) = calls-from 0 cut k a at in
      let (j, end) = ended-from cut i a GotNothing here (ended ∙ got) in
      let there = ended-of_cut es n a.client (ReadOf x) i j GotNothing (subst (λ (d : ClientCall). IsEnded cut a.client d i j GotNothing) called end) in
      let deleted = left-out_from es a.place x (sym (λ t. operation es a.place (called t) (got t)) ∙ in_log) in
      let again = holds.deletes a.client x i j there (take-from n es j (Ends a.client GotNothing) end.ends).0 deleted in
      some-none _ e (sym (λ t. operation cut a.place (called t) (got t)) ∙ is) (left-out_to cut a.place x again))
      none.3)
      other))
      (ended-alike es n a.place a.client a.call ending)

  pub stays : (p : ℕ) (a b : Call) (k m : ℕ) (ending : Ending) → slice_get (run_calls cut) k ≡ Some a → slice_get (run_calls es) m ≡ Some b
      → a.place ≡ p → b.place ≡ p → a.ending ≡ Some ending → moves es n p ≡ false
  stays p a b k m ending first second place1 place2 ended =
      moves-is es n p a b k m first second place1 place2 ∙ ap (λ (o : Option Ending). is_open o && is_lost b.ending) ended

  -- a call that ended in the cut: its operation in its client's session is in the log
  pub main-image : (p : ℕ) (o : OpId) (main : IsMainAt cut p o) (ending : Ending) → main.a.ending ≡ Some ending → (q : OpId) × IsImage es n o q
  main-image p o main ending ended =
      let a = main.a in
      let (b, m, at, places) = log-call a main.k main.at in
      let link = linked es n a b main.k m main.at at places in
      let kept = ended-kept a main.k ending main.e main.at ended (sym (ap (operation cut a.place a.call) ended) ∙ main.gives) in
      let gives : operation_of es b ≡ Some main.e =
      (λ i. operation es (sym places i) (sym link.call i) (link.ended ending ended i)) ∙ kept in (
        op b.client (client_index es b.client m),
        record {
          p = p;
          kind = zero;
          other = zero;
          in_cut = main;
          in_log = record { a = b; k = m; at = at; place = sym places ∙ main.place; e = main.e; gives = gives; same = refl };
          shifts = inr (stays p a b main.k m ending main.at at main.place (sym places ∙ main.place) ended, refl);
        },
      )

  pub fork-image : (p i : ℕ) (o : OpId) → IsForkedAt cut p i o → (q : OpId) × IsImage es n o q
  fork-image p i o forked =
      let a = forked.a in
      let (b, m, at, places) = log-call a forked.k forked.at in
      let link = linked es n a b forked.k m forked.at at places in
      let (y, v, called, ended, returned, same) = fork-call cut a.place a.call a.ending forked.l forked.gives in
      let more = returned-more es n y v returned in
      let forks : fork es b.place (WriteTo y v) (Some Lost) ≡ Some (read (mark b.place) (Some (Value 1)) ∷ write (key y) (value v) None ∷ []) = rw more refl in
      let b_call : b.call ≡ WriteTo y v = sym link.call ∙ called in
      let gives : fork_of es b ≡ Some (read (mark b.place) (Some (Value 1)) ∷ write (key y) (value v) None ∷ []) =
      (λ t. fork es b.place (b_call t) (link.ended Lost ended t)) ∙ forks in (
        op (fork_session es m) i,
        record {
          p = p;
          kind = suc i;
          other = suc i;
          in_cut = forked;
          in_log = record {
            a = b;
            k = m;
            at = at;
            place = sym places ∙ forked.place;
            l = read (mark b.place) (Some (Value 1)) ∷ write (key y) (value v) None ∷ [];
            gives = gives;
            inside = forked.inside;
            same = refl;
          };
          shifts = inr (stays p a b forked.k m Lost forked.at at forked.place (sym places ∙ forked.place) ended, refl);
        },
      )

  -- the return of an open call is unknown
  pub open-unknown : (p : ℕ) (o : OpId) (main : IsMainAt cut p o) → main.a.ending ≡ None → is_known (history_of cut) o ≡ false
  open-unknown p o main none =
      let plain = open-same cut main.a.place main.a.call main.a.ending main.e none main.gives in
      ap has_return (main-entry cut p o main ∙ ap (λ (e : Operation). Some e) (sym plain))

  pub known-image : (o : OpId) → IsTrue (is_known (history_of cut) o) → (q : OpId) × IsImage es n o q
  known-image o known =
      let (call, r, at) = return-from (entry (history_of cut) o) known in
      let (p, kind, slot) = slot-of cut o (call, Some r) at in
      of_slot p kind slot
    where
      of_slot : (p kind : ℕ) → IsSlot cut p kind o → (q : OpId) × IsImage es n o q
      of_slot p zero main =
          elim main.a.ending as (λ (e : Option Ending). main.a.ending ≡ e → (q : OpId) × IsImage es n o q) [
            | None ↦ λ none. let wrong : true ≡ false = sym known ∙ open-unknown p o main none in absurd cc
            | Some ending ↦ λ some. main-image p o main ending some
          ] refl
      of_slot p (suc i) forked = fork-image p i o forked

  -- all but the last operation of a session have known returns
  pub first-known : (o r : OpId) → IsOp (history_of cut) r → Precedes o r → IsTrue (is_known (history_of cut) o)
  first-known o r is_op (sessions, below) =
      let inside : IsOp (history_of cut) o =
      subst (λ (s : ℕ). o.index < length (session (history_of cut) s)) (sym sessions) (omega arith) in
      let e = slice_get-found (session (history_of cut) o.session) o.index inside in
      let d = slice_get-found (session (history_of cut) r.session) r.index is_op in
      let (p, kind, slot) = slot-of cut o e.0 e.1 in
      let (q, other, slot2) = slot-of cut r d.0 d.1 in
      of_slots p q kind other slot slot2
    where
      of_slots : (p q kind other : ℕ) → IsSlot cut p kind o → IsSlot cut q other r → IsTrue (is_known (history_of cut) o)
      of_slots p q zero zero first second =
          let order = main-order cut p q o r first second sessions below in
          elim first.a.ending as (λ (e : Option Ending). first.a.ending ≡ e → IsTrue (is_known (history_of cut) o)) [
            | None ↦ λ none.
                let (i, place, here) = calls-from 0 cut first.k first.a first.at in
                let (j, place2, there) = calls-from 0 cut second.k second.a second.at in
                let rises = calls-rise 0 cut first.k second.k first.a second.a order.1 first.at second.at in
                let later : IsAt cut j (Begins first.a.client second.a.call) = there.begun ∙ ap (λ (c : ℕ). Some (Begins c second.a.call)) (sym order.0) in
                let (m, ending, above, under, ends) =
                allowed-turns cut (cut-allowed es n allowed) first.a.client i j first.a.call second.a.call (omega arith) here.begun later in
                absurd (no-end i m ending first.a.client above (sym here.ended ∙ none) ends)
            | Some ending ↦ λ some.
                ap has_return (main-entry cut p o first)
                ∙ ended-return cut first.a.place first.a.call ending first.e (sym (ap (operation cut first.a.place first.a.call) some) ∙ first.gives)
          ] refl
        where
          no-end : (i m : ℕ) (ending : Ending) (c : ℕ) → i < m → ending_in c (drop (suc i) cut) ≡ None → IsAt cut m (Ends c ending) → ⊥
          no-end i m ending c above none ends =
              let same : suc i + (m - suc i) ≡ m = omega arith in
              unended c (drop (suc i) cut) none (m - suc i) ending (slice_get-drop (suc i) cut (m - suc i) ∙ ap (slice_get cut) same ∙ ends)
      of_slots p q zero (suc j) first second = absurd (apart cut p q j o r first second sessions)
      of_slots p q (suc i) zero first second = absurd (apart cut q p i r o second first (sym sessions))
      of_slots p q (suc i) (suc j) first second =
          let (y, v, called, ended, returned, same) = fork-call cut first.a.place first.a.call first.a.ending first.l first.gives in
          let index1 : o.index ≡ i = ap (λ (t : OpId). t.index) first.same in
          let index2 : r.index ≡ j = ap (λ (t : OpId). t.index) second.same in
          let few = second.inside in
          let none : 0 ≡ i = omega arith in
          let at : slice_get first.l i ≡ Some (read (mark first.a.place) (Some (Value 1))) =
          ap (λ (l : List Operation). slice_get l i) same
          ∙ ap (λ (k : ℕ). slice_get (read (mark first.a.place) (Some (Value 1)) ∷ write (key y) (value v) None ∷ []) k) (sym none) in
          ap has_return (fork-entry cut p i o first _ at)

  -- what is an operation of the log has its call there, and its return if that is known
  pub extended-image : (o r : OpId) (e : Operation) → IsImage es n o r → entry (history_of cut) o ≡ Some e
      → (d : Operation) × (entry (history_of es) r ≡ Some d) × Extends e d
  extended-image o r e im at = ⊎_elim
      (λ (shift : (moves es n im.p ≡ true) × (im.kind ≡ 0) × (im.other ≡ 2)).
      moved im.p (subst (λ (k : ℕ). IsSlot cut im.p k o) shift.1 im.in_cut) (subst (λ (k : ℕ). IsSlot es im.p k r) shift.2 im.in_log) shift.0)
      (λ (stay : (moves es n im.p ≡ false) × (im.kind ≡ im.other)).
      stayed im.p im.kind im.in_cut (subst (λ (k : ℕ). IsSlot es im.p k r) (sym stay.1) im.in_log) stay.0)
      im.shifts
    where
      moved : (p : ℕ) → IsMainAt cut p o → IsForkedAt es p 1 r → moves es n p ≡ true → (d : Operation) × (entry (history_of es) r ≡ Some d) × Extends e d
      moved p main forked moving =
          let a = main.a in
          let b = forked.a in
          let places : a.place ≡ b.place = main.place ∙ sym forked.place in
          let link = linked es n a b main.k forked.k main.at forked.at places in
          let both = and_parts (is_open a.ending) (is_lost b.ending)
          (sym (moves-is es n p a b main.k forked.k main.at forked.at main.place forked.place) ∙ moving) in
          let (y, v, called, ended, returned, same) = fork-call es b.place b.call b.ending forked.l forked.gives in
          let plain = open-same cut a.place a.call a.ending main.e (open-is a.ending both.0) main.gives in
          let call : a.call ≡ WriteTo y v = link.call ∙ called in
          let e_is : main.e ≡ e = same_Some _ _ (sym (main-entry cut p o main) ∙ at) in (
            write (key y) (value v) None,
            fork-entry es p 1 r forked (write (key y) (value v) None) (ap (λ (l : List Operation). slice_get l 1) same),
            open-extends (memory_call a.place (WriteTo y v)) None e ((λ i. (memory_call a.place (sym call i), None)) ∙ plain ∙ e_is),
          )
        where
          open-is : (o : Option Ending) → is_open o ≡ true → o ≡ None
          open-is None _ = refl
          open-is (Some ending) wrong = absurd cc

      stayed : (p kind : ℕ) → IsSlot cut p kind o → IsSlot es p kind r → moves es n p ≡ false
          → (d : Operation) × (entry (history_of es) r ≡ Some d) × Extends e d
      stayed p zero main log_main still =
          let a = main.a in
          let b = log_main.a in
          let places : a.place ≡ b.place = main.place ∙ sym log_main.place in
          let link = linked es n a b main.k log_main.k main.at log_main.at places in
          let e_is : main.e ≡ e = same_Some _ _ (sym (main-entry cut p o main) ∙ at) in
          let moving = moves-is es n p a b main.k log_main.k main.at log_main.at main.place log_main.place in (
            log_main.e,
            main-entry es p r log_main,
            elim a.ending as (λ (s : Option Ending). a.ending ≡ s → Extends e log_main.e) [
              | None ↦ λ none.
                  let kept : b.ending ≢ Some Lost = λ lost.
                  let wrong : true ≡ false =
                  sym (λ i. is_open (none i) && is_lost (lost i)) ∙ sym moving ∙ still in absurd cc in
                  let call = operation-call es b.place b.call b.ending log_main.e log_main.gives kept in
                  let plain = open-same cut a.place a.call a.ending main.e none main.gives in
                  let whole : (memory_call b.place b.call, None) ≡ e = (λ i. (memory_call (sym places i) (sym link.call i), None)) ∙ plain ∙ e_is in (
                    call ∙ ap (λ (d : Operation). d.0) whole,
                    λ s is. let wrong : None ≡ Some s = ap (λ (d : Operation). d.1) whole ∙ is in absurd cc,
                  )
              | Some ending ↦ λ some.
                  let kept = ended-kept a main.k ending main.e main.at some (sym (ap (operation cut a.place a.call) some) ∙ main.gives) in
                  let there : operation_of es b ≡ Some main.e = (λ i. operation es (sym places i) (sym link.call i) (link.ended ending some i)) ∙ kept in
                  let same : log_main.e ≡ e = same_Some _ _ (sym log_main.gives ∙ there) ∙ e_is in
                  (ap (λ (d : Operation). d.0) same, λ s is. ap (λ (d : Operation). d.1) same ∙ is)
            ] refl,
          )
      stayed p (suc i) forked log_forked still =
          let a = forked.a in
          let b = log_forked.a in
          let places : a.place ≡ b.place = forked.place ∙ sym log_forked.place in
          let link = linked es n a b forked.k log_forked.k forked.at log_forked.at places in
          let (y, v, called, ended, returned, same) = fork-call cut a.place a.call a.ending forked.l forked.gives in
          let (z, w, called2, ended2, returned2, same2) = fork-call es b.place b.call b.ending log_forked.l log_forked.gives in
          let one : WriteTo y v ≡ WriteTo z w = sym called ∙ link.call ∙ called2 in
          let keys : y ≡ z = cc in
          let values : v ≡ w = cc in
          let lists : forked.l ≡ log_forked.l =
          same ∙ (λ t. read (mark (places t)) (Some (Value 1)) ∷ write (key (keys t)) (value (values t)) None ∷ []) ∙ sym same2 in
          let two = ap length same in
          let few = forked.inside in
          let found = slice_get-found forked.l i (omega arith) in
          let e_is : found.0 ≡ e = same_Some _ _ (sym (fork-entry cut p i o forked found.0 found.1) ∙ at) in (
            e,
            fork-entry es p i r log_forked e (ap (λ (l : List Operation). slice_get l i) (sym lists) ∙ found.1 ∙ ap (λ (d : Operation). Some d) e_is),
            (refl, λ s is. is),
          )
