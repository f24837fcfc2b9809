-- A log without deletes in which some reads of another one are lost, and all else is the same, meets what the other one meets.
use Rattle.std.proofs.Common.{◌≡◌, ℕ, zero, suc, true, false, Bool, List, [], ◌∷◌, length, refl, ap, sym, subst, ◌∙◌, inl, inr, ⊎_elim, arith}
use Rattle.std.specs.Prelude.{◌≢◌, ◌⊎◌, ◌==◌, IsTrue, if◌then◌else◌, Option, Some, None, slice_get, filter_map}
use Rattle.std.proofs.Math.Seq.{take-length}
use Rattle.std.proofs.lemmas.Bool.{and_from, eq-eqb}
use Rattle.std.proofs.lemmas.Option.{slice_get_within}
use Rattle.model_objects.specs.declared.register.RegisterRet.{RegisterRet}
use Rattle.model_objects.specs.declared.register.RegisterRet.TheVariants.{Done, Value}
use Rattle.model_history.specs.declared.op_id.OpId.{OpId}
use Rattle.model_history.specs.History.{IsOp, Precedes, session, entry}
use Rattle.order_causal.specs.Orders.{op}
use Rattle.order_memory.specs.Memory.{Reads, Writes, memory_answer}
use Rattle.order_memory.proofs.MemoryLaws.{entry-call}
use Rattle.cert_check.specs.declared.criterion.Criterion.{Criterion}
use Rattle.cert_check.specs.Criteria.{Meets}
use Rattle.log_events.specs.declared.event.ClientCall.{ClientCall}
use Rattle.log_events.specs.declared.event.ClientCall.TheVariants.{WriteTo, ReadOf, DeleteOf}
use Rattle.log_events.specs.declared.event.Ending.{Ending}
use Rattle.log_events.specs.declared.event.Ending.TheVariants.{Answered, Got, GotNothing, Failed, Lost}
use Rattle.log_events.specs.declared.event.Event.{Event}
use Rattle.log_events.specs.declared.event.Event.TheVariants.{Begins}
use Rattle.log_events.specs.Events.{IsAllowed, Call, run_calls}
use Rattle.log_events.specs.Histories.{key, mark, value, nothing, Operation, write, read, gets, start_entry, is_returned, is_deleted, operation, fork, history_of}
use Rattle.log_events.specs.Cuts.{IsClosedCut}
use Rattle.log_events.proofs.CallOperations.{IsOfRead, fork-call, fork-read, read-call}
use Rattle.log_events.proofs.CallSlots.{IsMainAt, IsForkedAt, IsSlot, same-call, index-rises, main-entry, fork-entry, slot-op, slot-of, slot-once, slot-one, apart, main-order, fork-order, at-slot}
use Rattle.log_events.proofs.CutImages.{chosen, chosen-from, chosen-to}
use Rattle.log_events.proofs.CutShadows.{first-known}
use Rattle.log_events.proofs.DistinctValues.{IsOfWrite, write-call, fork-write}
use Rattle.log_events.proofs.ListPlaces.{list_any-from, list_any-to, slice_get-found}
use Rattle.log_events.proofs.OperationPlaces.{IsOfCall, IsForkOfCall, client_index, fork_session, history-from}
use Rattle.log_events.proofs.Shadows.{is_known, has_return, IsShadow}
use Rattle.log_events.proofs.ShadowConvergence.{shadow-meets}

-- two calls are one, but for how a read ended that is lost in the first
pub record IsAlike (a b : Call) : Type 0 where
  pub client : a.client ≡ b.client
  pub place : a.place ≡ b.place
  pub call : a.call ≡ b.call
  pub ending : (a.ending ≡ b.ending) ⊎ ((x : ℕ) × (a.call ≡ ReadOf x) × (a.ending ≡ Some Lost))

-- a log without deletes is another one, but for reads that are lost
pub record IsThinner (thin whole : List Event) : Type 0 where
  pub starts : filter_map start_entry thin ≡ filter_map start_entry whole
  pub forth : (k : ℕ) (a : Call) → slice_get (run_calls thin) k ≡ Some a → (b : Call) × (slice_get (run_calls whole) k ≡ Some b) × IsAlike a b
  pub back : (k : ℕ) (b : Call) → slice_get (run_calls whole) k ≡ Some b → (a : Call) × (slice_get (run_calls thin) k ≡ Some a) × IsAlike a b
  pub thin_undeleted : (x : ℕ) → is_deleted thin x ≡ false
  pub whole_undeleted : (x : ℕ) → is_deleted whole x ≡ false

-- what a known read of a history returned: a value that was got, nothing, or the mark of a lost write whose value was returned
module _ (es : List Event) where
  abbrev IsOfKnown : ℕ → ℕ → Type 0
  IsOfKnown x v =
      ((y u : ℕ) × (is_returned es y u ≡ true) × (x ≡ key y) × (v ≡ value u))
      ⊎ (((y : ℕ) × (x ≡ key y) × (v ≡ nothing))
      ⊎ ((c : Call) × (k y u : ℕ) × (slice_get (run_calls es) k ≡ Some c) × (c.call ≡ WriteTo y u) × (c.ending ≡ Some Lost) × (is_returned es y u ≡ true) × (x ≡ mark c.place)))

  read-returned : (c : Call) (k y u : ℕ) → slice_get (run_calls es) k ≡ Some c → c.call ≡ ReadOf y → c.ending ≡ Some (Got u) → is_returned es y u ≡ true
  read-returned c k y u at called ended =
      list_any-to (λ (d : Call). gets y u d.call d.ending) (run_calls es) k c at
      ((λ i. gets y u (called i) (ended i)) ∙ and_from (y == y) (u == u) (eq-eqb y y refl) (eq-eqb u u refl))

  pub known-from : (r : OpId) (x v : ℕ) → Reads (history_of es) r x v → IsOfKnown x v
  known-from r x v reads = ⊎_elim
      (λ (client : IsOfCall es r.session r.index (read x (Some (Value v)))).
      let (c, (k, at), mine, is, _) = client in of_read c k at (read-call es c.place x v c.call c.ending is))
      (λ (forked : IsForkOfCall es r.session (session (history_of es) r.session)).
      let (c, (k, at), is, _) = forked in
      let (y, u, called, ended, returned, same) = fork-call es c.place c.call c.ending (session (history_of es) r.session) is in
      let (marks, _) = fork-read (mark c.place) (key y) (value u) x v r.index
      (subst (λ (l : List Operation). slice_get l r.index ≡ Some (read x (Some (Value v)))) same reads) in
      inr (inr (c, k, y, u, at, called, ended, returned, sym marks)))
      (history-from es r (read x (Some (Value v))) reads)
    where
      of_read : (c : Call) (k : ℕ) → slice_get (run_calls es) k ≡ Some c → IsOfRead es c.place x v c.call c.ending → IsOfKnown x v
      of_read c k at (inl (y, u, called, ended, keys, values)) = inl (y, u, read-returned c k y u at called ended, keys, values)
      of_read c k at (inr (y, called, ended, undeleted, keys, values)) = inr (inl (y, keys, values))

module _ (thin whole : List Event) (thinner : IsThinner thin whole) where
  returned-more : (x v : ℕ) → is_returned thin x v ≡ true → is_returned whole x v ≡ true
  returned-more x v returned =
      let (k, a, at, got) = list_any-from (λ (c : Call). gets x v c.call c.ending) (run_calls thin) returned in
      let (b, there, alike) = thinner.forth k a at in
      list_any-to (λ (c : Call). gets x v c.call c.ending) (run_calls whole) k b there (⊎_elim
      (λ (same : a.ending ≡ b.ending). sym (λ i. gets x v (alike.call i) (same i)) ∙ got)
      (λ (lost : (y : ℕ) × (a.call ≡ ReadOf y) × (a.ending ≡ Some Lost)).
      let wrong : false ≡ true = sym (λ i. gets x v (lost.1 i) (lost.2 i)) ∙ got in absurd cc)
      alike.ending)

  -- what an operation or a fork is in the thinner log it is in the other
  operation-more : (place : ℕ) (call : ClientCall) (ending : Option Ending) (e : Operation) → operation thin place call ending ≡ Some e
      → operation whole place call ending ≡ Some e
  operation-more place (WriteTo x v) None e is = is
  operation-more place (WriteTo x v) (Some Answered) e is = is
  operation-more place (WriteTo x v) (Some (Got u)) e is = is
  operation-more place (WriteTo x v) (Some GotNothing) e is = is
  operation-more place (WriteTo x v) (Some Failed) e is = is
  operation-more place (WriteTo x v) (Some Lost) e is = by_test (is_returned thin x v) refl is
    where
      by_test : (b : Bool) → is_returned thin x v ≡ b → (if b then Some (write (mark place) 1 (Some Done)) else None) ≡ Some e
          → operation whole place (WriteTo x v) (Some Lost) ≡ Some e
      by_test true returned same =
          ap (λ (b : Bool). if b then Some (write (mark place) 1 (Some Done)) else None) (returned-more x v returned) ∙ same
      by_test false unread none = absurd cc
  operation-more place (ReadOf x) None e is = is
  operation-more place (ReadOf x) (Some Answered) e is = is
  operation-more place (ReadOf x) (Some (Got u)) e is = is
  operation-more place (ReadOf x) (Some GotNothing) e is =
      ap (λ (b : Bool). if b then None else Some (read (key x) (Some (Value nothing)))) (thinner.whole_undeleted x ∙ sym (thinner.thin_undeleted x)) ∙ is
  operation-more place (ReadOf x) (Some Failed) e is = is
  operation-more place (ReadOf x) (Some Lost) e is = is
  operation-more place (DeleteOf x) ending e is = deleted ending is
    where
      deleted : (ending : Option Ending) → operation thin place (DeleteOf x) ending ≡ Some e → operation whole place (DeleteOf x) ending ≡ Some e
      deleted None is = is
      deleted (Some Answered) is = is
      deleted (Some (Got u)) is = is
      deleted (Some GotNothing) is = is
      deleted (Some Failed) is = is
      deleted (Some Lost) is = is

  fork-more : (place : ℕ) (call : ClientCall) (ending : Option Ending) (l : List Operation) → fork thin place call ending ≡ Some l
      → fork whole place call ending ≡ Some l
  fork-more place call ending l is =
      let (y, v, called, ended, returned, same) = fork-call thin place call ending l is in
      let forks : fork whole place (WriteTo y v) (Some Lost) ≡ Some (read (mark place) (Some (Value 1)) ∷ write (key y) (value v) None ∷ []) =
      rw (returned-more y v returned) refl in
      (λ i. fork whole place (called i) (ended i)) ∙ forks ∙ ap (λ (m : List Operation). Some m) (sym same)

  -- a call with an operation did not change
  ended-alike : (a b : Call) → IsAlike a b → (e : Operation) → operation thin a.place a.call a.ending ≡ Some e → a.ending ≡ b.ending
  ended-alike a b alike e is = ⊎_elim
      (λ (same : a.ending ≡ b.ending). same)
      (λ (lost : (x : ℕ) × (a.call ≡ ReadOf x) × (a.ending ≡ Some Lost)).
      let wrong : ◌≡◌ {A = Option Operation} None (Some e) = sym (λ i. operation thin a.place (lost.1 i) (lost.2 i)) ∙ is in absurd cc)
      alike.ending

  written-alike : (a b : Call) → IsAlike a b → (y v : ℕ) → b.call ≡ WriteTo y v → a.ending ≡ b.ending
  written-alike a b alike y v called = ⊎_elim
      (λ (same : a.ending ≡ b.ending). same)
      (λ (lost : (x : ℕ) × (a.call ≡ ReadOf x) × (a.ending ≡ Some Lost)).
      let wrong : ReadOf lost.0 ≡ WriteTo y v = sym lost.1 ∙ alike.call ∙ called in absurd cc)
      alike.ending

  -- each slot of the thinner log is one of the other, at the same call
  main-more : (p : ℕ) (o : OpId) (main : IsMainAt thin p o)
      → (q : OpId) × (there : IsMainAt whole p q) × (there.k ≡ main.k) × (there.a.client ≡ main.a.client) × (there.e ≡ main.e)
  main-more p o main =
      let (b, at, alike) = thinner.forth main.k main.a main.at in
      let ended = ended-alike main.a b alike main.e main.gives in
      let gives : operation whole b.place b.call b.ending ≡ Some main.e =
      sym (λ i. operation whole (alike.place i) (alike.call i) (ended i)) ∙ operation-more main.a.place main.a.call main.a.ending main.e main.gives in (
        op b.client (client_index whole b.client main.k),
        record { a = b; k = main.k; at = at; place = sym alike.place ∙ main.place; e = main.e; gives = gives; same = refl },
        refl,
        sym alike.client,
        refl,
      )

  fork-whole : (p i : ℕ) (o : OpId) (forked : IsForkedAt thin p i o) → (q : OpId) × (there : IsForkedAt whole p i q) × (there.k ≡ forked.k) × (there.l ≡ forked.l)
  fork-whole p i o forked =
      let (b, at, alike) = thinner.forth forked.k forked.a forked.at in
      let (y, v, called, _, _, _) = fork-call thin forked.a.place forked.a.call forked.a.ending forked.l forked.gives in
      let ended = written-alike forked.a b alike y v (sym alike.call ∙ called) in
      let gives : fork whole b.place b.call b.ending ≡ Some forked.l =
      sym (λ i. fork whole (alike.place i) (alike.call i) (ended i)) ∙ fork-more forked.a.place forked.a.call forked.a.ending forked.l forked.gives in (
        op (fork_session whole forked.k) i,
        record { a = b; k = forked.k; at = at; place = sym alike.place ∙ forked.place; l = forked.l; gives = gives; inside = forked.inside; same = refl },
        refl,
        refl,
      )

  slot-more : (p kind : ℕ) (o : OpId) → IsSlot thin p kind o
      → (q : OpId) × IsSlot whole p kind q × ((e : Operation) → entry (history_of thin) o ≡ Some e → entry (history_of whole) q ≡ Some e)
  slot-more p zero o main =
      let (q, there, _, _, same) = main-more p o main in
      (q, there, λ e at. main-entry whole p q there ∙ ap (λ (d : Operation). Some d) same ∙ sym (main-entry thin p o main) ∙ at)
  slot-more p (suc i) o forked =
      let (q, there, _, same) = fork-whole p i o forked in
      let two = ap length (fork-call thin forked.a.place forked.a.call forked.a.ending forked.l forked.gives).5 in
      let below = forked.inside in
      let found = slice_get-found forked.l i (omega arith) in (
        q,
        there,
        λ e at. fork-entry whole p i q there found.0 (ap (λ (l : List Operation). slice_get l i) same ∙ found.1) ∙ sym (fork-entry thin p i o forked found.0 found.1) ∙ at,
      )

  -- which operation of the other history an operation is
  record IsImage (a b : OpId) : Type 0 where
    p : ℕ
    kind : ℕ
    in_thin : IsSlot thin p kind a
    in_whole : IsSlot whole p kind b

  image-right : (a b d : OpId) → IsImage a b → IsImage a d → b ≡ d
  image-right a b d first second =
      let (places, kinds) = slot-one thin first.p second.p first.kind second.kind a first.in_thin second.in_thin in
      slot-once whole first.p first.kind b d first.in_whole
      (subst (λ (k : ℕ). IsSlot whole first.p k d) (sym kinds) (subst (λ (p : ℕ). IsSlot whole p second.kind d) (sym places) second.in_whole))

  image-left : (a d b : OpId) → IsImage a b → IsImage d b → a ≡ d
  image-left a d b first second =
      let (places, kinds) = slot-one whole first.p second.p first.kind second.kind b first.in_whole second.in_whole in
      slot-once thin first.p first.kind a d first.in_thin
      (subst (λ (k : ℕ). IsSlot thin first.p k d) (sym kinds) (subst (λ (p : ℕ). IsSlot thin p second.kind d) (sym places) second.in_thin))

  found-of : (es : List Event) (o : OpId) → ((p kind : ℕ) × IsSlot es p kind o) ⊎ ((p kind : ℕ) → ¬ IsSlot es p kind o)
  found-of es o = by_entry (entry (history_of es) o) refl
    where
      by_entry : (e : Option Operation) → entry (history_of es) o ≡ e → ((p kind : ℕ) × IsSlot es p kind o) ⊎ ((p kind : ℕ) → ¬ IsSlot es p kind o)
      by_entry None none = inr (λ p kind slot.
          let e = slice_get-found (session (history_of es) o.session) o.index (slot-op es p kind o slot) in
          let wrong : Some e.0 ≡ None = sym e.1 ∙ none in absurd cc)
      by_entry (Some e) some = inl (slot-of es o e some)

  image-found : (a : OpId) → ((b : OpId) × IsImage a b) ⊎ ((b : OpId) → ¬ IsImage a b)
  image-found a = by_slot (found-of thin a)
    where
      by_slot : ((p kind : ℕ) × IsSlot thin p kind a) ⊎ ((p kind : ℕ) → ¬ IsSlot thin p kind a) → ((b : OpId) × IsImage a b) ⊎ ((b : OpId) → ¬ IsImage a b)
      by_slot (inl (p, kind, slot)) =
          let (q, there, _) = slot-more p kind a slot in inl (q, record { p = p; kind = kind; in_thin = slot; in_whole = there })
      by_slot (inr none) = inr (λ b im. none im.p im.kind im.in_thin)

  origin-found : (b : OpId) → ((a : OpId) × IsImage a b) ⊎ ((a : OpId) → ¬ IsImage a b)
  origin-found b = by_slot (found-of whole b)
    where
      by_slot : ((p kind : ℕ) × IsSlot whole p kind b) ⊎ ((p kind : ℕ) → ¬ IsSlot whole p kind b) → ((a : OpId) × IsImage a b) ⊎ ((a : OpId) → ¬ IsImage a b)
      by_slot (inl (p, kind, slot)) = ⊎_elim
          (λ (found : (a : OpId) × IsSlot thin p kind a). inl (found.0, record { p = p; kind = kind; in_thin = found.1; in_whole = slot }))
          (λ (none : (a : OpId) → ¬ IsSlot thin p kind a). inr (λ a im.
          let (places, kinds) = slot-one whole p im.p kind im.kind b slot im.in_whole in
          none a (subst (λ (k : ℕ). IsSlot thin p k a) (sym kinds) (subst (λ (q : ℕ). IsSlot thin q im.kind a) (sym places) im.in_thin))))
          (at-slot thin p kind)
      by_slot (inr none) = inr (λ a im. none im.p im.kind im.in_whole)

  image : OpId → Option OpId
  image a = chosen (IsImage a) (image-found a)

  origin : OpId → Option OpId
  origin b = chosen (λ (a : OpId). IsImage a b) (origin-found b)

  image-from : (a b : OpId) → image a ≡ Some b → IsImage a b
  unfolding image
  image-from a b is = chosen-from (IsImage a) (image-found a) b is

  image-to : (a b : OpId) → IsImage a b → image a ≡ Some b
  unfolding image
  image-to a b is = chosen-to (IsImage a) (image-found a) b is (image-right a)

  origin-from : (a b : OpId) → origin b ≡ Some a → IsImage a b
  unfolding origin
  origin-from a b is = chosen-from (λ (d : OpId). IsImage d b) (origin-found b) a is

  origin-to : (a b : OpId) → IsImage a b → origin b ≡ Some a
  unfolding origin
  origin-to a b is = chosen-to (λ (d : OpId). IsImage d b) (origin-found b) a is (λ d e. image-left d e b)

  -- images are in the order of what they are images of
  main-once : (p : ℕ) (o q : OpId) (main : IsMainAt thin p o) (there : IsMainAt whole p q) → (there.k ≡ main.k) × (there.a.client ≡ main.a.client)
  main-once p o q main there =
      let (b, at, alike) = thinner.forth main.k main.a main.at in
      let (even, one) = same-call whole there.a b there.k main.k there.at at (there.place ∙ sym main.place ∙ alike.place) in
      (even, ap (λ (c : Call). c.client) one ∙ sym alike.client)

  fork-once : (p i : ℕ) (o q : OpId) (forked : IsForkedAt thin p i o) (there : IsForkedAt whole p i q) → there.k ≡ forked.k
  fork-once p i o q forked there =
      let (b, at, alike) = thinner.forth forked.k forked.a forked.at in
      (same-call whole there.a b there.k forked.k there.at at (there.place ∙ sym forked.place ∙ alike.place)).0

  in_order : (p q kind other : ℕ) (a b c d : OpId) → Precedes a b → IsSlot thin p kind a → IsSlot thin q other b → IsSlot whole p kind c → IsSlot whole q other d
      → Precedes c d
  in_order p q zero zero a b c d (sessions, below) first second there there2 =
      let (clients_same, less) = main-order thin p q a b first second sessions below in
      let (k1, client1) = main-once p a c first there in
      let (k2, client2) = main-once q b d second there2 in
      let clients2 : there.a.client ≡ there2.a.client = client1 ∙ clients_same ∙ sym client2 in
      let rises = index-rises whole there.a there2.a there.k there2.k there.e there.at there2.at clients2 there.gives (omega arith) in
      let session1 : c.session ≡ there.a.client = ap (λ (t : OpId). t.session) there.same in
      let session2 : d.session ≡ there2.a.client = ap (λ (t : OpId). t.session) there2.same in
      let index1 : c.index ≡ client_index whole there.a.client there.k = ap (λ (t : OpId). t.index) there.same in
      let index2 : d.index ≡ client_index whole there2.a.client there2.k = ap (λ (t : OpId). t.index) there2.same in
      (session1 ∙ clients2 ∙ sym session2, omega arith)
  in_order p q zero (suc j) a b c d (sessions, below) first second there there2 = absurd (apart thin p q j a b first second sessions)
  in_order p q (suc i) zero a b c d (sessions, below) first second there there2 = absurd (apart thin q p i b a second first (sym sessions))
  in_order p q (suc i) (suc j) a b c d (sessions, below) first second there there2 =
      let even = fork-order thin p q i j a b first second sessions in
      let k1 = fork-once p i a c first there in
      let k2 = fork-once q j b d second there2 in
      let session1 : c.session ≡ fork_session whole there.k = ap (λ (t : OpId). t.session) there.same in
      let session2 : d.session ≡ fork_session whole there2.k = ap (λ (t : OpId). t.session) there2.same in
      let index1 : a.index ≡ i = ap (λ (t : OpId). t.index) first.same in
      let index2 : b.index ≡ j = ap (λ (t : OpId). t.index) second.same in
      let index3 : c.index ≡ i = ap (λ (t : OpId). t.index) there.same in
      let index4 : d.index ≡ j = ap (λ (t : OpId). t.index) there2.same in
      (session1 ∙ ap (fork_session whole) (k1 ∙ even ∙ sym k2) ∙ sym session2, omega arith)

  -- a write whose value was read in the thinner history is there
  module _ (x v : ℕ) (known : IsOfKnown thin x v) where
    at_main : (p : ℕ) (a : Call) (k : ℕ) (e : Operation) → slice_get (run_calls thin) k ≡ Some a → a.place ≡ p → operation thin a.place a.call a.ending ≡ Some e
        → (o : OpId) × IsSlot thin p 0 o
    at_main p a k e at place gives =
        (op a.client (client_index thin a.client k), record { a = a; k = k; at = at; place = place; e = e; gives = gives; same = refl })

    unlost : (place y u : ℕ) (ending : Option Ending) (e : Operation) → ending ≢ Some Lost → operation whole place (WriteTo y u) ending ≡ Some e
        → operation thin place (WriteTo y u) ending ≡ Some e
    unlost place y u None e stays is = is
    unlost place y u (Some Answered) e stays is = is
    unlost place y u (Some (Got w)) e stays is = is
    unlost place y u (Some GotNothing) e stays is = is
    unlost place y u (Some Failed) e stays is = is
    unlost place y u (Some Lost) e stays is = absurd (stays refl)

    main-source : (p : ℕ) (w : OpId) (main : IsMainAt whole p w) → IsOfWrite whole main.a.place x v main.a.call main.a.ending → (o : OpId) × IsSlot thin p 0 o
    main-source p w main (inl (y, u, called, _, stays, _, _)) =
        let (a, at, alike) = thinner.back main.k main.a main.at in
        let ended = written-alike a main.a alike y u called in
        let gives : operation whole a.place (WriteTo y u) a.ending ≡ Some main.e =
        (λ i. operation whole (alike.place i) (sym called i) (ended i)) ∙ main.gives in
        let lost_not : a.ending ≢ Some Lost = λ lost. stays (sym ended ∙ lost) in
        at_main p a main.k main.e at (alike.place ∙ main.place)
        (ap (λ (c : ClientCall). operation thin a.place c a.ending) (alike.call ∙ called) ∙ unlost a.place y u a.ending main.e lost_not gives)
    main-source p w main (inr (inl (marks, one))) = by_known known
      where
        by_known : IsOfKnown thin x v → (o : OpId) × IsSlot thin p 0 o
        by_known (inl (y, u, _, keys, _)) = absurd (omega arith)
        by_known (inr (inl (y, keys, _))) = absurd (omega arith)
        by_known (inr (inr (c, k, y, u, at, called, ended, returned, marks2))) =
            let places : c.place ≡ main.a.place = omega arith in
            let gives : operation thin c.place (WriteTo y u) (Some Lost) ≡ Some (write (mark c.place) 1 (Some Done)) = rw returned refl in
            at_main p c k (write (mark c.place) 1 (Some Done)) at (places ∙ main.place) ((λ i. operation thin c.place (called i) (ended i)) ∙ gives)
    main-source p w main (inr (inr (y, keys, values))) = by_known known
      where
        by_known : IsOfKnown thin x v → (o : OpId) × IsSlot thin p 0 o
        by_known (inl (z, u, _, _, values2)) = absurd (omega arith)
        by_known (inr (inl (z, _, values2))) = absurd (omega arith)
        by_known (inr (inr (c, k, z, u, _, _, _, _, marks))) = absurd (omega arith)

    fork-source : (p i : ℕ) (w : OpId) (forked : IsForkedAt whole p i w) (y u : ℕ) → forked.a.call ≡ WriteTo y u → forked.a.ending ≡ Some Lost → x ≡ key y
        → v ≡ value u → (o : OpId) × IsSlot thin p 2 o
    fork-source p i w forked y u called ended keys values = by_known known
      where
        by_known : IsOfKnown thin x v → (o : OpId) × IsSlot thin p 2 o
        by_known (inr (inl (z, _, values2))) = absurd (omega arith)
        by_known (inr (inr (c, k, z, t, _, _, _, _, marks))) = absurd (omega arith)
        by_known (inl (z, t, returned, keys2, values2)) =
            let (a, at, alike) = thinner.back forked.k forked.a forked.at in
            let same = written-alike a forked.a alike y u called in
            let one : z ≡ y = omega arith in
            let two : t ≡ u = omega arith in
            let returned_here : is_returned thin y u ≡ true = sym (λ i. is_returned thin (one i) (two i)) ∙ returned in
            let gives : fork thin a.place (WriteTo y u) (Some Lost) ≡ Some (read (mark a.place) (Some (Value 1)) ∷ write (key y) (value u) None ∷ []) =
            rw returned_here refl in (
              op (fork_session thin forked.k) 1,
              record {
                a = a;
                k = forked.k;
                at = at;
                place = alike.place ∙ forked.place;
                l = read (mark a.place) (Some (Value 1)) ∷ write (key y) (value u) None ∷ [];
                gives = (λ i. fork thin a.place ((alike.call ∙ called) i) ((same ∙ ended) i)) ∙ gives;
                inside = omega arith;
                same = refl;
              },
            )

    source-there : (w : OpId) → Writes (history_of whole) w x v → (b : OpId) × IsImage b w
    source-there w writes =
        let (r, at) = entry-call (entry (history_of whole) w) _ writes in
        let (p, kind, slot) = slot-of whole w (write x v r) at in
        by_slot p kind r at slot
      where
        made : (p kind : ℕ) → IsSlot whole p kind w → (o : OpId) × IsSlot thin p kind o → (b : OpId) × IsImage b w
        made p kind slot (o, there) = (o, record { p = p; kind = kind; in_thin = there; in_whole = slot })

        by_slot : (p kind : ℕ) (r : Option RegisterRet) → entry (history_of whole) w ≡ Some (write x v r) → IsSlot whole p kind w → (b : OpId) × IsImage b w
        by_slot p zero r at main =
            let gives = main.gives ∙ sym (main-entry whole p w main) ∙ at in
            made p 0 main (main-source p w main (write-call whole main.a.place x v main.a.call main.a.ending r gives))
        by_slot p (suc i) r at forked =
            let (y, u, called, ended, returned, same) = fork-call whole forked.a.place forked.a.call forked.a.ending forked.l forked.gives in
            let two : length forked.l ≡ 2 = ap length same in
            let below = forked.inside in
            let found = slice_get-found forked.l i (omega arith) in
            let there : slice_get forked.l i ≡ Some (write x v r) = found.1 ∙ sym (fork-entry whole p i w forked found.0 found.1) ∙ at in
            let (second, keys, values) = fork-write (mark forked.a.place) (key y) (value u) x v i r
            (subst (λ (l : List Operation). slice_get l i ≡ Some (write x v r)) same there) in
            let moved : IsForkedAt whole p 1 w = subst (λ (n : ℕ). IsForkedAt whole p n w) second forked in
            made p 2 moved (fork-source p i w forked y u called ended keys values)

  -- the whole log is a closed cut of itself, so the known returns of its sessions come first
  all-closed : IsClosedCut thin (length thin)
  all-closed = record {
    writes = λ reader client x v i j k end below at stays. slice_get_within thin k (Begins client (WriteTo x v)) at;
    deletes = λ reader x i j end below named. subst (λ (l : List Event). IsTrue (is_deleted l x)) (sym (take-length thin)) named;
  }

  module _ (allowed : IsAllowed thin) where
    known-first : (a b : OpId) → IsOp (history_of thin) b → Precedes a b → IsTrue (is_known (history_of thin) a)
    known-first =
        subst (λ (l : List Event). (a b : OpId) → IsOp (history_of l) b → Precedes a b → IsTrue (is_known (history_of l) a)) (take-length thin)
        (first-known thin (length thin) allowed all-closed)

    known-entry : (e : Option Operation) → IsTrue (has_return e) → (d : Operation) × (e ≡ Some d)
    known-entry None holds = let wrong : false ≡ true = holds in absurd cc
    known-entry (Some d) holds = (d, refl)

    thin-shadow : IsShadow (history_of whole) (history_of thin) image origin
    thin-shadow = record {
      start = thinner.starts;
      forth = λ a b is.
          let im = image-from a b is in
          (slot-op thin im.p im.kind a im.in_thin, slot-op whole im.p im.kind b im.in_whole, origin-to a b im);
      back = λ a b is. image-to a b (origin-from a b is);
      extended = λ a b e is at.
          let im = image-from a b is in
          let (q, there, same) = slot-more im.p im.kind a im.in_thin in
          let one : q ≡ b = slot-once whole im.p im.kind q b there im.in_whole in
          (e, subst (λ (t : OpId). entry (history_of whole) t ≡ Some e) one (same e at), (refl, λ r returns. returns));
      known = λ a is.
          let (e, at) = known-entry (entry (history_of thin) a) is in
          let (p, kind, slot) = slot-of thin a e at in
          let (q, there, _) = slot-more p kind a slot in
          (q, image-to a q (record { p = p; kind = kind; in_thin = slot; in_whole = there }));
      first = known-first;
      in_order = λ a b p q known precedes early late.
          let im1 = image-from a p early in
          let im2 = image-from b q late in
          in_order im1.p im2.p im1.kind im2.kind a b p q precedes im1.in_thin im2.in_thin im1.in_whole im2.in_whole;
      forced = λ co causal after a b p q precedes early late.
          let im1 = image-from a p early in
          let im2 = image-from b q late in
          causal.program_order p q (slot-op whole im2.p im2.kind q im2.in_whole)
          (in_order im1.p im2.p im1.kind im2.kind a b p q precedes im1.in_thin im2.in_thin im1.in_whole im2.in_whole);
      sources = λ a r w x v reads _ writes.
          let (b, im) = source-there x v (known-from thin a x v reads) w writes in (b, origin-to b w im);
    }

    pub thinner-meets : (criterion : Criterion) → Meets memory_answer (history_of whole) criterion → Meets memory_answer (history_of thin) criterion
    thinner-meets = shadow-meets (history_of whole) (history_of thin) image origin thin-shadow
