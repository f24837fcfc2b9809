-- Where a log writes distinct values, the values of its history are distinct.
use Rattle.std.proofs.Common.{◌≡◌, ℕ, zero, suc, true, false, List, [], ◌∷◌, refl, ap, sym, subst, ◌∙◌, inl, inr, ⊎_elim, arith}
use Rattle.std.specs.Prelude.{◌≢◌, ◌⊎◌, if◌then◌else◌, Option, Some, None, slice_get}
use Rattle.std.proofs.lemmas.Option.{same_Some, cond_some}
use Rattle.model_objects.specs.declared.register.RegisterCall.TheVariants.{Write}
use Rattle.model_objects.specs.declared.register.RegisterRet.{RegisterRet}
use Rattle.model_objects.specs.declared.register.RegisterRet.TheVariants.{Done, Value}
use Rattle.model_history.specs.declared.op_id.OpId.{OpId}
use Rattle.model_history.specs.History.{session, entry}
use Rattle.order_causal.proofs.OrdersLaws.{same_op}
use Rattle.order_memory.specs.Memory.{initial, IsDifferentiated, Writes}
use Rattle.order_memory.proofs.MemoryLaws.{entry-call}
use Rattle.log_events.specs.declared.event.ClientCall.{ClientCall}
use Rattle.log_events.specs.declared.event.ClientCall.TheVariants.{WriteTo, ReadOf, DeleteOf}
use Rattle.log_events.specs.declared.event.Ending.{Ending}
use Rattle.log_events.specs.declared.event.Ending.TheVariants.{Answered, Got, GotNothing, Failed, Lost}
use Rattle.log_events.specs.declared.event.Event.{Event}
use Rattle.log_events.specs.declared.event.Event.TheVariants.{Starts, Begins}
use Rattle.log_events.specs.Events.{IsAt, Call, run_calls}
use Rattle.log_events.specs.Histories.{key, mark, value, deleted, nothing, Operation, write, read, is_returned, is_deleted, operation, history_of}
use Rattle.log_events.specs.Values.{BeginsKeptWrite, HasDistinctValues}
use Rattle.log_events.proofs.CallOperations.{fork-call, write-not_read}
use Rattle.log_events.proofs.CallPlaces.{calls-from, calls-once, ended-to}
use Rattle.log_events.proofs.OperationPlaces.{IsRunCall, IsOfCall, IsForkOfCall, client_index, fork_session, history-from}
use Rattle.log_events.proofs.StartValues.{start-cases, mark-unstarted}

write-same : (x y v u : ℕ) (r s : Option RegisterRet) → write x v r ≡ write y u s → (x ≡ y) × (v ≡ u)
write-same x y v u r s same =
    let call : Write v ≡ Write u = ap (λ (e : Operation). e.0.call) same in
    let written : v ≡ u = cc in
    (ap (λ (e : Operation). e.0.key) same, written)

-- a write in a client's session is that of a write that was not lost, the mark of one that was, or that of a delete
module _ (es : List Event) (place x u : ℕ) where
  abbrev pub IsOfWrite : ClientCall → Option Ending → Type 0
  IsOfWrite call ending =
      ((y v : ℕ) × (call ≡ WriteTo y v) × (ending ≢ Some Failed) × (ending ≢ Some Lost) × (x ≡ key y) × (u ≡ value v))
      ⊎ (((x ≡ mark place) × (u ≡ 1)) ⊎ ((y : ℕ) × (x ≡ key y) × (u ≡ deleted place)))

  pub write-call : (call : ClientCall) (ending : Option Ending) (r : Option RegisterRet) → operation es place call ending ≡ Some (write x u r)
      → IsOfWrite call ending
  write-call (WriteTo y v) None r is =
      let same = write-same _ _ _ _ _ _ (same_Some _ _ is) in
      inl (y, v, refl, (λ none. absurd cc), (λ none. absurd cc), sym same.0, sym same.1)
  write-call (WriteTo y v) (Some Answered) r is =
      let same = write-same _ _ _ _ _ _ (same_Some _ _ is) in
      inl (y, v, refl, (λ none. absurd cc), (λ none. absurd cc), sym same.0, sym same.1)
  write-call (WriteTo y v) (Some (Got w)) r is = absurd cc
  write-call (WriteTo y v) (Some GotNothing) r is = absurd cc
  write-call (WriteTo y v) (Some Failed) r is = absurd cc
  write-call (WriteTo y v) (Some Lost) r is =
      let same = write-same _ _ _ _ _ _ (cond_some (is_returned es y v) (write (mark place) 1 (Some Done)) (write x u r) is).1 in
      inr (inl (sym same.0, sym same.1))
  write-call (ReadOf y) None r is = absurd (write-not_read _ _ _ _ _ (sym (same_Some _ _ is)))
  write-call (ReadOf y) (Some Answered) r is = absurd cc
  write-call (ReadOf y) (Some (Got w)) r is = absurd (write-not_read _ _ _ _ _ (sym (same_Some _ _ is)))
  write-call (ReadOf y) (Some GotNothing) r is =
      elim (is_deleted es y) as (λ b. (if b then None else Some (read (key y) (Some (Value nothing)))) ≡ Some (write x u r)
      → IsOfWrite (ReadOf y) (Some GotNothing)) [
        | true ↦ λ none. absurd cc
        | false ↦ λ same. absurd (write-not_read _ _ _ _ _ (sym (same_Some _ _ same)))
      ] is
  write-call (ReadOf y) (Some Failed) r is = absurd cc
  write-call (ReadOf y) (Some Lost) r is = absurd cc
  write-call (DeleteOf y) None r is =
      let same = write-same _ _ _ _ _ _ (same_Some _ _ is) in inr (inr (y, sym same.0, sym same.1))
  write-call (DeleteOf y) (Some Answered) r is =
      let same = write-same _ _ _ _ _ _ (same_Some _ _ is) in inr (inr (y, sym same.0, sym same.1))
  write-call (DeleteOf y) (Some (Got w)) r is = absurd cc
  write-call (DeleteOf y) (Some GotNothing) r is = absurd cc
  write-call (DeleteOf y) (Some Failed) r is = absurd cc
  write-call (DeleteOf y) (Some Lost) r is = absurd cc

-- the write of a fork is its second operation
pub fork-write : (m y v x u i : ℕ) (r : Option RegisterRet) → slice_get (read m (Some (Value 1)) ∷ write y v None ∷ []) i ≡ Some (write x u r)
    → (i ≡ 1) × (x ≡ y) × (u ≡ v)
fork-write m y v x u zero r at = absurd (write-not_read _ _ _ _ _ (sym (same_Some _ _ at)))
fork-write m y v x u (suc zero) r at = let same = write-same _ _ _ _ _ _ (same_Some _ _ at) in (refl, sym same.0, sym same.1)
fork-write m y v x u (suc (suc i)) r at = absurd cc

module _ (es : List Event) where
  -- a call of the run that is a write of the history
  kept-write : (a : Call) (y v : ℕ) → IsRunCall es a → a.call ≡ WriteTo y v → a.ending ≢ Some Failed
      → (a.ending ≡ Some Lost → is_returned es y v ≡ true) → BeginsKeptWrite es a.client a.place y v
  kept-write a y v (k, at) called stays returned =
      let (i, place, here) = calls-from 0 es k a at in
      let same : i ≡ a.place = omega arith in
      subst (λ (n : ℕ). BeginsKeptWrite es a.client n y v) same (record {
        begun = here.begun ∙ ap (λ (c : ClientCall). Some (Begins a.client c)) called;
        not_failed = λ j end. stays (here.ended ∙ ended-to es a.client (WriteTo y v) i j Failed end);
        returned = λ j end. returned (here.ended ∙ ended-to es a.client (WriteTo y v) i j Lost end);
      })

  -- where a write of the history comes from, and the place of the call
  record IsWriteAt (o : OpId) (x u : ℕ) (a : Call) : Type 0 where
    pub is_call : IsRunCall es a
    pub in_session : a.client ≡ o.session
    pub in_index : client_index es o.session is_call.0 ≡ o.index
    pub is_write : IsOfWrite es a.place x u a.call a.ending

  record IsForkAt (o : OpId) (x u : ℕ) (a : Call) (y v : ℕ) : Type 0 where
    pub is_call : IsRunCall es a
    pub in_session : fork_session es is_call.0 ≡ o.session
    pub second : o.index ≡ 1
    pub called : a.call ≡ WriteTo y v
    pub ended : a.ending ≡ Some Lost
    pub returned : is_returned es y v ≡ true
    pub key_same : x ≡ key y
    pub value_same : u ≡ value v

  written-from : (o : OpId) (x u : ℕ) → Writes (history_of es) o x u
      → ((a : Call) × IsWriteAt o x u a) ⊎ ((a : Call) × (y v : ℕ) × IsForkAt o x u a y v)
  written-from o x u writes =
      let (r, at) = entry-call (entry (history_of es) o) _ writes in
      ⊎_elim
      (λ (client : IsOfCall es o.session o.index (write x u r)).
      let (a, is_call, mine, is, index) = client in
      inl (a, record { is_call = is_call; in_session = mine; in_index = index; is_write = write-call es a.place x u a.call a.ending r is }))
      (λ (forked : IsForkOfCall es o.session (session (history_of es) o.session)).
      let (a, is_call, is, place) = forked in
      let (y, v, called, ended, returned, same) = fork-call es a.place a.call a.ending (session (history_of es) o.session) is in
      let w = fork-write (mark a.place) (key y) (value v) x u o.index r
      (subst (λ (l : List Operation). slice_get l o.index ≡ Some (write x u r)) same at) in
      inr (
        a,
        y,
        v,
        record {
          is_call = is_call;
          in_session = place;
          second = w.0;
          called = called;
          ended = ended;
          returned = returned;
          key_same = w.1;
          value_same = w.2;
        },
      ))
      (history-from es o (write x u r) at)

  fork-kept : (o : OpId) (x u : ℕ) (a : Call) (y v : ℕ) → IsForkAt o x u a y v → BeginsKeptWrite es a.client a.place y v
  fork-kept o x u a y v forked = kept-write a y v forked.is_call forked.called
      (λ failed. let wrong = sym forked.ended ∙ failed in absurd cc) (λ _. forked.returned)

  -- calls at one place are one
  same-call : (a b : Call) (first : IsRunCall es a) (second : IsRunCall es b) → a.place ≡ b.place → (first.0 ≡ second.0) × (a ≡ b)
  same-call a b first second same =
      let place = calls-once es first.0 second.0 a b first.1 second.1 same in
      (place, same_Some a b (sym first.1 ∙ ap (slice_get (run_calls es)) place ∙ second.1))

  module _ (distinct : HasDistinctValues es) where
    kept-once : (a b : Call) (y v z w x u : ℕ) → BeginsKeptWrite es a.client a.place y v → BeginsKeptWrite es b.client b.place z w
        → x ≡ key y → u ≡ value v → x ≡ key z → u ≡ value w → a.place ≡ b.place
    kept-once a b y v z w x u first second key1 value1 key2 value2 =
        let keys : z ≡ y = omega arith in
        let values : w ≡ v = omega arith in
        distinct.once a.client b.client a.place b.place y v first
        (subst (λ (t : ℕ). BeginsKeptWrite es b.client b.place y t) values (subst (λ (t : ℕ). BeginsKeptWrite es b.client b.place t w) keys second))

    -- in clients' sessions
    written-once : (a b : Call) (x u : ℕ) → IsRunCall es a → IsRunCall es b → IsOfWrite es a.place x u a.call a.ending
        → IsOfWrite es b.place x u b.call b.ending → a.place ≡ b.place
    written-once a b x u is_call other (inl (y, v, called, stays, held, key1, value1)) (inl (z, w, called2, stays2, held2, key2, value2)) =
        kept-once a b y v z w x u (kept-write a y v is_call called stays (λ lost. absurd (held lost)))
        (kept-write b z w other called2 stays2 (λ lost. absurd (held2 lost))) key1 value1 key2 value2
    written-once a b x u is_call other (inl (y, v, _, _, _, key1, value1)) (inr (inl (key2, value2))) = absurd (omega arith)
    written-once a b x u is_call other (inl (y, v, _, _, _, key1, value1)) (inr (inr (z, key2, value2))) = absurd (omega arith)
    written-once a b x u is_call other (inr (inl (key1, value1))) (inl (z, w, _, _, _, key2, value2)) = absurd (omega arith)
    written-once a b x u is_call other (inr (inl (key1, value1))) (inr (inl (key2, value2))) = omega arith
    written-once a b x u is_call other (inr (inl (key1, value1))) (inr (inr (z, key2, value2))) = absurd (omega arith)
    written-once a b x u is_call other (inr (inr (y, key1, value1))) (inl (z, w, _, _, _, key2, value2)) = absurd (omega arith)
    written-once a b x u is_call other (inr (inr (y, key1, value1))) (inr (inl (key2, value2))) = absurd (omega arith)
    written-once a b x u is_call other (inr (inr (y, key1, value1))) (inr (inr (z, key2, value2))) = omega arith

    -- in a client's session and in a fork
    written-apart : (a b : Call) (o : OpId) (x u z w : ℕ) → IsRunCall es a → IsOfWrite es a.place x u a.call a.ending → ¬ IsForkAt o x u b z w
    written-apart a b o x u z w is_call (inl (y, v, called, stays, held, key1, value1)) forked =
        let same = kept-once a b y v z w x u (kept-write a y v is_call called stays (λ lost. absurd (held lost))) (fork-kept o x u b z w forked)
        key1 value1 forked.key_same forked.value_same in
        let one = (same-call a b is_call forked.is_call same).1 in
        held (ap (λ (c : Call). c.ending) one ∙ forked.ended)
    written-apart a b o x u z w is_call (inr (inl (key1, value1))) forked =
        let key2 = forked.key_same in let value2 = forked.value_same in omega arith
    written-apart a b o x u z w is_call (inr (inr (y, key1, value1))) forked =
        let key2 = forked.key_same in let value2 = forked.value_same in omega arith

    write-once : (a b : OpId) (x u : ℕ) → Writes (history_of es) a x u → Writes (history_of es) b x u → a ≡ b
    write-once a b x u first second = ⊎_elim
        (λ (one : (c : Call) × IsWriteAt a x u c). ⊎_elim
        (λ (two : (d : Call) × IsWriteAt b x u d).
        let p = one.1 in
        let q = two.1 in
        let same = same-call one.0 two.0 p.is_call q.is_call (written-once one.0 two.0 x u p.is_call q.is_call p.is_write q.is_write) in
        let sessions : a.session ≡ b.session = sym p.in_session ∙ ap (λ (c : Call). c.client) same.1 ∙ q.in_session in
        same_op a b sessions (sym p.in_index ∙ (λ i. client_index es (sessions i) (same.0 i)) ∙ q.in_index))
        (λ (two : (d : Call) × (y v : ℕ) × IsForkAt b x u d y v).
        absurd (written-apart one.0 two.0 b x u two.1 two.2 one.1.is_call one.1.is_write two.3))
        (written-from b x u second))
        (λ (one : (c : Call) × (y v : ℕ) × IsForkAt a x u c y v). ⊎_elim
        (λ (two : (d : Call) × IsWriteAt b x u d).
        absurd (written-apart two.0 one.0 a x u one.1 one.2 two.1.is_call two.1.is_write one.3))
        (λ (two : (d : Call) × (y v : ℕ) × IsForkAt b x u d y v).
        let p = one.3 in
        let q = two.3 in
        let places = kept-once one.0 two.0 one.1 one.2 two.1 two.2 x u (fork-kept a x u one.0 one.1 one.2 p) (fork-kept b x u two.0 two.1 two.2 q)
        p.key_same p.value_same q.key_same q.value_same in
        let same = same-call one.0 two.0 p.is_call q.is_call places in
        same_op a b (sym p.in_session ∙ ap (fork_session es) same.0 ∙ q.in_session) (p.second ∙ sym q.second))
        (written-from b x u second))
        (written-from a x u first)

    -- a write writes another value than its key starts with
    kept-unstarted : (a : Call) (y v : ℕ) → BeginsKeptWrite es a.client a.place y v → initial (history_of es) (key y) ≢ value v
    kept-unstarted a y v kept starts = ⊎_elim
        (λ (none : initial (history_of es) (key y) ≡ 0). omega arith)
        (λ (some : (k t : ℕ) × IsAt es k (Starts y t) × (initial (history_of es) (key y) ≡ value t)).
        let was = some.3 in
        let same : some.1 ≡ v = omega arith in
        distinct.not_started a.client a.place y v some.0 kept (subst (λ (t : ℕ). IsAt es some.0 (Starts y t)) same some.2))
        (start-cases es y)

    write-not_initial : (a : OpId) (x u : ℕ) → Writes (history_of es) a x u → u ≢ initial (history_of es) x
    write-not_initial a x u writes starts = ⊎_elim
        (λ (one : (c : Call) × IsWriteAt a x u c). client one.0 one.1.is_call one.1.is_write)
        (λ (one : (c : Call) × (y v : ℕ) × IsForkAt a x u c y v).
        plain one.0 one.1 one.2 (fork-kept a x u one.0 one.1 one.2 one.3) one.3.key_same one.3.value_same)
        (written-from a x u writes)
      where
        plain : (c : Call) (y v : ℕ) → BeginsKeptWrite es c.client c.place y v → x ≡ key y → u ≡ value v → ⊥
        plain c y v kept key_same value_same =
            kept-unstarted c y v kept (ap (initial (history_of es)) (sym key_same) ∙ sym starts ∙ value_same)

        client : (c : Call) → IsRunCall es c → IsOfWrite es c.place x u c.call c.ending → ⊥
        client c is_call (inl (y, v, called, stays, held, key_same, value_same)) =
            plain c y v (kept-write c y v is_call called stays (λ lost. absurd (held lost))) key_same value_same
        client c is_call (inr (inl (key_same, value_same))) =
            let none : initial (history_of es) x ≡ 0 = ap (initial (history_of es)) key_same ∙ mark-unstarted es c.place in omega arith
        client c is_call (inr (inr (y, key_same, value_same))) =
            let here : initial (history_of es) (key y) ≡ u = ap (initial (history_of es)) (sym key_same) ∙ sym starts in
            ⊎_elim
            (λ (none : initial (history_of es) (key y) ≡ 0). omega arith)
            (λ (some : (k t : ℕ) × IsAt es k (Starts y t) × (initial (history_of es) (key y) ≡ value t)). let was = some.3 in omega arith)
            (start-cases es y)

    pub values-distinct : IsDifferentiated (history_of es)
    values-distinct = record { once = write-once; not_initial = write-not_initial }
