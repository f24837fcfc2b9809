-- What the reads of a cut returned was written there, where it was written in the log; and the order of its operations in the log.
use Rattle.std.proofs.Common.{◌≡◌, ℕ, zero, suc, ◌<◌, ◌≤◌, Bool, true, false, List, [], ◌∷◌, length, take, refl, ap, sym, subst, ◌∙◌, inl, inr, ⊎_elim, arith}
use Rattle.std.specs.Prelude.{◌≢◌, ◌⊎◌, ◌&&◌, ◌==◌, IsTrue, Option, Some, None, slice_get}
use Rattle.std.proofs.lemmas.Bool.{and_from, cases_Bool, cases_lt, eq-eqb}
use Rattle.std.proofs.lemmas.Option.{same_Some}
use Rattle.model_objects.specs.declared.register.RegisterRet.{RegisterRet}
use Rattle.model_objects.specs.declared.register.RegisterRet.TheVariants.{Done, Value}
use Rattle.model_history.specs.declared.op_id.OpId.{OpId}
use Rattle.model_history.specs.History.{Precedes, entry}
use Rattle.order_causal.specs.Orders.{Order, op}
use Rattle.order_causal.proofs.Fronts.{take-from, take-stands}
use Rattle.order_memory.specs.Memory.{Reads, Writes}
use Rattle.order_memory.proofs.MemoryLaws.{entry-call}
use Rattle.cert_check.specs.Criteria.{IsCausalOrder}
use Rattle.log_events.specs.declared.event.ClientCall.{ClientCall}
use Rattle.log_events.specs.declared.event.ClientCall.TheVariants.{WriteTo, ReadOf}
use Rattle.log_events.specs.declared.event.Ending.{Ending}
use Rattle.log_events.specs.declared.event.Ending.TheVariants.{Got, GotNothing, Failed, Lost}
use Rattle.log_events.specs.declared.event.Event.{Event}
use Rattle.log_events.specs.declared.event.Event.TheVariants.{Begins, Ends}
use Rattle.log_events.specs.Events.{IsEnded, IsAllowed, Call, run_calls}
use Rattle.log_events.specs.Histories.{Operation, key, mark, value, nothing, write, read, gets, is_returned, is_deleted, operation, fork, history_of}
use Rattle.log_events.specs.Cuts.{IsClosedCut}
use Rattle.log_events.proofs.CallOperations.{fork-call, fork-read, memory_call, open-operation, read-call}
use Rattle.log_events.proofs.CallPlaces.{calls-from, calls-to, call_at, calls-rise, ended-from, ended-to}
use Rattle.log_events.proofs.CallSlots.{IsMainAt, IsForkedAt, IsSlot, same-call, main-entry, fork-entry, slot-op, slot-of, slot-once, index-rises, apart, main-order, fork-order}
use Rattle.log_events.proofs.CutImages.{is_open, is_lost, lost-is, linked, moves, moves-is, IsImage, origin, origin-to}
use Rattle.log_events.proofs.CutLogs.{ended-of_cut}
use Rattle.log_events.proofs.CutSessions.{ended-alike}
use Rattle.log_events.proofs.CutShadows.{open-unknown, first-known, stays}
use Rattle.log_events.proofs.DistinctValues.{IsOfWrite, write-call, fork-write}
use Rattle.log_events.proofs.ListPlaces.{list_any-to, slice_get-found}
use Rattle.log_events.proofs.OperationPlaces.{operation_of, client_index, fork_session}
use Rattle.log_events.proofs.Shadows.{is_known, AreReadsAfter}
use Rattle.log_events.proofs.StartValues.{mark-unstarted}

-- what stands in a slot of a fork
fork-at : (es : List Event) (p i : ℕ) (o : OpId) (forked : IsForkedAt es p i o) (e : Operation) → entry (history_of es) o ≡ Some e
    → slice_get forked.l i ≡ Some e
fork-at es p i o forked e at =
    let two = ap length (fork-call es forked.a.place forked.a.call forked.a.ending forked.l forked.gives).5 in
    let below = forked.inside in
    let found = slice_get-found forked.l i (omega arith) in
    found.1 ∙ sym (fork-entry es p i o forked found.0 found.1) ∙ at

module _ (es : List Event) where
  -- a write of the history is that of a call in its client's session, or that of a fork
  record IsForkWrite (o : OpId) (z t : ℕ) : Type 0 where
    p : ℕ
    i : ℕ
    forked : IsForkedAt es p i o
    y : ℕ
    v : ℕ
    called : forked.a.call ≡ WriteTo y v
    ended : forked.a.ending ≡ Some Lost
    second : i ≡ 1
    key_same : z ≡ key y
    value_same : t ≡ value v

  abbrev IsMainWrite : OpId → ℕ → ℕ → Type 0
  IsMainWrite o z t = (p : ℕ) × (main : IsMainAt es p o) × IsOfWrite es main.a.place z t main.a.call main.a.ending

  writer-from : (o : OpId) (z t : ℕ) → Writes (history_of es) o z t → IsMainWrite o z t ⊎ IsForkWrite o z t
  writer-from o z t writes =
      let (r, at) = entry-call (entry (history_of es) o) _ writes in
      let (p, kind, slot) = slot-of es o (write z t r) at in
      of_slot p kind r at slot
    where
      of_slot : (p kind : ℕ) (r : Option RegisterRet) → entry (history_of es) o ≡ Some (write z t r) → IsSlot es p kind o
          → IsMainWrite o z t ⊎ IsForkWrite o z t
      of_slot p zero r at main =
          let same = main.gives ∙ sym (main-entry es p o main) ∙ at in
          inl (p, main, write-call es main.a.place z t main.a.call main.a.ending r same)
      of_slot p (suc i) r at forked =
          let (y, v, called, ended, returned, same) = fork-call es forked.a.place forked.a.call forked.a.ending forked.l forked.gives in
          let found = fork-at es p i o forked (write z t r) at in
          let w = fork-write (mark forked.a.place) (key y) (value v) z t i r (subst (λ (l : List Operation). slice_get l i ≡ Some (write z t r)) same found) in
          inr (record { p = p; i = i; forked = forked; y = y; v = v; called = called; ended = ended; second = w.0; key_same = w.1; value_same = w.2 })

  -- a mark is written by the lost write that it represents
  mark-writer : (p : ℕ) (o : OpId) → Writes (history_of es) o (mark p) 1 → IsMainAt es p o
  mark-writer p o writes = of_writer (writer-from o (mark p) 1 writes)
    where
      of_writer : IsMainWrite o (mark p) 1 ⊎ IsForkWrite o (mark p) 1 → IsMainAt es p o
      of_writer (inl (q, main, inl (y, v, _, _, _, key_same, _))) = absurd (omega arith)
      of_writer (inl (q, main, inr (inl (mark_same, _)))) =
          let place = main.place in
          let same : q ≡ p = omega arith in
          subst (λ (k : ℕ). IsMainAt es k o) same main
      of_writer (inl (q, main, inr (inr (y, key_same, _)))) = absurd (omega arith)
      of_writer (inr forked) = let key_same = forked.key_same in absurd (omega arith)

  -- the mark and the first operation of a fork
  pub fork-mark : (p i : ℕ) (o : OpId) (forked : IsForkedAt es p i o)
      → IsMainAt es p (op forked.a.client (client_index es forked.a.client forked.k))
  fork-mark p i o forked =
      let a = forked.a in
      let (y, v, called, ended, returned, same) = fork-call es a.place a.call a.ending forked.l forked.gives in
      let marks : operation es a.place (WriteTo y v) (Some Lost) ≡ Some (write (mark a.place) 1 (Some Done)) = rw returned refl in
      record {
        a = a;
        k = forked.k;
        at = forked.at;
        place = forked.place;
        e = write (mark a.place) 1 (Some Done);
        gives = (λ t. operation es a.place (called t) (ended t)) ∙ marks;
        same = refl;
      }

  -- in an order in which reads come after what they read, the mark of a fork comes before its read
  mark-before : (co : Order) → AreReadsAfter (history_of es) co → (p i : ℕ) (o : OpId) (forked : IsForkedAt es p i o)
      → IsTrue (co (op forked.a.client (client_index es forked.a.client forked.k)) (op (fork_session es forked.k) 0))
  mark-before co after p i o forked =
      let a = forked.a in
      let (y, v, called, ended, returned, same) = fork-call es a.place a.call a.ending forked.l forked.gives in
      let f = op (fork_session es forked.k) 0 in
      let first : IsForkedAt es p 0 f =
      record { a = a; k = forked.k; at = forked.at; place = forked.place; l = forked.l; gives = forked.gives; inside = omega arith; same = refl } in
      let reads : Reads (history_of es) f (mark a.place) 1 =
      fork-entry es p 0 f first (read (mark a.place) (Some (Value 1))) (ap (λ (l : List Operation). slice_get l 0) same) in
      let none = mark-unstarted es a.place in
      let (w, writes, before) = after f (mark a.place) 1 reads (λ is. omega arith) in
      let there = mark-writer a.place w writes in
      let here = subst (λ (q : ℕ). IsMainAt es q (op a.client (client_index es a.client forked.k))) (sym forked.place) (fork-mark p i o forked) in
      subst (λ (t : OpId). IsTrue (co t f)) (slot-once es a.place 0 w (op a.client (client_index es a.client forked.k)) there here) before

module _ (es : List Event) (n : ℕ) (allowed : IsAllowed es) (holds : IsClosedCut es n) where
  abbrev cut : List Event
  cut = take n es

  abbrev StaysIn : (a b : OpId) → IsImage es n a b → Type 0
  StaysIn a b im = (moves es n im.p ≡ false) × (im.kind ≡ im.other)

  -- what has a known return stays in its slot
  known-stays : (a b : OpId) (im : IsImage es n a b) → IsTrue (is_known (history_of cut) a) → StaysIn a b im
  known-stays a b im known = ⊎_elim
      (λ (shift : (moves es n im.p ≡ true) × (im.kind ≡ 0) × (im.other ≡ 2)).
      absurd (moved im.p (subst (λ (k : ℕ). IsSlot cut im.p k a) shift.1 im.in_cut) (subst (λ (k : ℕ). IsSlot es im.p k b) shift.2 im.in_log) shift.0))
      (λ (stay : StaysIn a b im). stay)
      im.shifts
    where
      moved : (p : ℕ) → IsMainAt cut p a → IsForkedAt es p 1 b → moves es n p ≡ true → ⊥
      moved p main forked moving =
          elim main.a.ending as (λ (e : Option Ending). main.a.ending ≡ e → ⊥) [
            | None ↦ λ none. let wrong : true ≡ false = sym known ∙ open-unknown es n allowed holds p a main none in absurd cc
            | Some ending ↦ λ some.
                let still = stays es n allowed holds p main.a forked.a main.k forked.k ending main.at forked.at main.place forked.place some in
                let wrong : true ≡ false = sym moving ∙ still in absurd cc
          ] refl

  main-in_order : (p q : ℕ) (a b u w : OpId) → IsMainAt cut p a → IsMainAt cut q b → Precedes a b → IsMainAt es p u → IsMainAt es q w → Precedes u w
  main-in_order p q a b u w first second (sessions, below) early late =
      let order = main-order cut p q a b first second sessions below in
      let rises = calls-rise 0 cut first.k second.k first.a second.a order.1 first.at second.at in
      let place1 = first.place in
      let place2 = second.place in
      let place3 = early.place in
      let place4 = late.place in
      let less : early.k < late.k = ⊎_elim
      (λ (less : early.k < late.k). less)
      (λ (up_to : late.k ≤ early.k). ⊎_elim
      (λ (more : late.k < early.k). let back = calls-rise 0 es late.k early.k late.a early.a more late.at early.at in absurd (omega arith))
      (λ (over : early.k ≤ late.k).
      let even : early.k ≡ late.k = omega arith in
      let one : early.a ≡ late.a = same_Some _ _ (sym early.at ∙ ap (slice_get (run_calls es)) even ∙ late.at) in
      let same : early.a.place ≡ late.a.place = ap (λ (c : Call). c.place) one in absurd (omega arith))
      (cases_lt late.k early.k))
      (cases_lt early.k late.k) in
      let link1 = linked es n first.a early.a first.k early.k first.at early.at (place1 ∙ sym place3) in
      let link2 = linked es n second.a late.a second.k late.k second.at late.at (place2 ∙ sym place4) in
      let clients_same : early.a.client ≡ late.a.client = sym link1.client ∙ order.0 ∙ link2.client in
      let index = index-rises es early.a late.a early.k late.k early.e early.at late.at clients_same early.gives less in
      let index1 : u.index ≡ client_index es early.a.client early.k = ap (λ (t : OpId). t.index) early.same in
      let index2 : w.index ≡ client_index es late.a.client late.k = ap (λ (t : OpId). t.index) late.same in
      (ap (λ (t : OpId). t.session) early.same ∙ clients_same ∙ sym (ap (λ (t : OpId). t.session) late.same), omega arith)

  fork-in_order : (p q i j : ℕ) (a b u w : OpId) → IsForkedAt cut p i a → IsForkedAt cut q j b → Precedes a b → IsForkedAt es p i u
      → IsForkedAt es q j w → Precedes u w
  fork-in_order p q i j a b u w first second (sessions, below) early late =
      let even = fork-order cut p q i j a b first second sessions in
      let one : first.a ≡ second.a = same_Some _ _ (sym first.at ∙ ap (slice_get (run_calls cut)) even ∙ second.at) in
      let places : early.a.place ≡ late.a.place =
      early.place ∙ sym first.place ∙ ap (λ (c : Call). c.place) one ∙ second.place ∙ sym late.place in
      let same = (same-call es early.a late.a early.k late.k early.at late.at places).0 in
      let index1 : a.index ≡ i = ap (λ (t : OpId). t.index) first.same in
      let index2 : b.index ≡ j = ap (λ (t : OpId). t.index) second.same in
      let index3 : u.index ≡ i = ap (λ (t : OpId). t.index) early.same in
      let index4 : w.index ≡ j = ap (λ (t : OpId). t.index) late.same in
      (ap (λ (t : OpId). t.session) early.same ∙ ap (fork_session es) same ∙ sym (ap (λ (t : OpId). t.session) late.same), omega arith)

  slots-in_order : (p q kind other : ℕ) (a b u w : OpId) → IsSlot cut p kind a → IsSlot cut q other b → Precedes a b → IsSlot es p kind u
      → IsSlot es q other w → Precedes u w
  slots-in_order p q zero zero a b u w first second precedes early late = main-in_order p q a b u w first second precedes early late
  slots-in_order p q zero (suc j) a b u w first second precedes early late = absurd (apart cut p q j a b first second precedes.0)
  slots-in_order p q (suc i) zero a b u w first second precedes early late = absurd (apart cut q p i b a second first (sym precedes.0))
  slots-in_order p q (suc i) (suc j) a b u w first second precedes early late = fork-in_order p q i j a b u w first second precedes early late

  stayed-in_order : (a b u w : OpId) (early : IsImage es n a u) (late : IsImage es n b w) → StaysIn a u early → StaysIn b w late → Precedes a b
      → Precedes u w
  stayed-in_order a b u w early late (_, same1) (_, same2) precedes =
      slots-in_order early.p late.p early.kind late.kind a b u w early.in_cut late.in_cut precedes
      (subst (λ (k : ℕ). IsSlot es early.p k u) (sym same1) early.in_log) (subst (λ (k : ℕ). IsSlot es late.p k w) (sym same2) late.in_log)

  before-known : (a b w : OpId) → IsImage es n b w → Precedes a b → IsTrue (is_known (history_of cut) a)
  before-known a b w im precedes = first-known es n allowed holds a b (slot-op cut im.p im.kind b im.in_cut) precedes

  pub images-in_order : (a b u w : OpId) → IsTrue (is_known (history_of cut) b) → Precedes a b → IsImage es n a u → IsImage es n b w → Precedes u w
  images-in_order a b u w known precedes early late =
      stayed-in_order a b u w early late (known-stays a u early (before-known a b w late precedes)) (known-stays b w late known) precedes

  -- an operation comes before those after it in its session, also before one that is in a fork in the log
  pub images-forced : (co : Order) → IsCausalOrder (history_of es) co → AreReadsAfter (history_of es) co → (a b u w : OpId) → Precedes a b
      → IsImage es n a u → IsImage es n b w → IsTrue (co u w)
  images-forced co causal after a b u w precedes early late =
      let stay = known-stays a u early (before-known a b w late precedes) in
      ⊎_elim
      (λ (shift : (moves es n late.p ≡ true) × (late.kind ≡ 0) × (late.other ≡ 2)).
      let main : IsMainAt cut late.p b = subst (λ (k : ℕ). IsSlot cut late.p k b) shift.1 late.in_cut in
      let forked : IsForkedAt es late.p 1 w = subst (λ (k : ℕ). IsSlot es late.p k w) shift.2 late.in_log in
      let m = op forked.a.client (client_index es forked.a.client forked.k) in
      let f = op (fork_session es forked.k) 0 in
      let marks = fork-mark es late.p 1 w forked in
      let first : IsTrue (co u m) = causal.program_order u m (slot-op es late.p 0 m marks)
      (slots-in_order early.p late.p early.kind 0 a b u m early.in_cut main precedes
      (subst (λ (k : ℕ). IsSlot es early.p k u) (sym stay.1) early.in_log) marks) in
      let second = mark-before es co after late.p 1 w forked in
      let sessions : f.session ≡ w.session = sym (ap (λ (t : OpId). t.session) forked.same) in
      let index : w.index ≡ 1 = ap (λ (t : OpId). t.index) forked.same in
      let third : IsTrue (co f w) = causal.program_order f w (slot-op es late.p 2 w forked) (sessions, omega arith) in
      causal.transitive u m w first (causal.transitive m f w second third))
      (λ (still : StaysIn b w late).
      causal.program_order u w (slot-op es late.p late.other w late.in_log) (stayed-in_order a b u w early late stay still precedes))
      late.shifts

  -- a call of the log that begins in the cut is one of the cut
  cut-call : (b : Call) (m : ℕ) → slice_get (run_calls es) m ≡ Some b → b.place < n
      → (a : Call) × (k : ℕ) × (slice_get (run_calls cut) k ≡ Some a) × (a.place ≡ b.place)
  cut-call b m at below =
      let (i, place, here) = calls-from 0 es m b at in
      let r = calls-to 0 cut i b.client b.call (take-stands n es i (Begins b.client b.call) (omega arith) here.begun) in
      (call_at 0 i cut b.client b.call, r.0, r.1, omega arith)

  not_lost : (o : Option Ending) → o ≢ Some Lost → is_lost o ≡ false
  not_lost o other = ⊎_elim
      (λ (lost : is_lost o ≡ true). absurd (other (lost-is o lost)))
      (λ (kept : is_lost o ≡ false). kept)
      (cases_Bool (is_lost o))

  and-false : (x y : Bool) → y ≡ false → (x && y) ≡ false
  and-false true y is = is
  and-false false y is = refl

  -- a write of the log in its client's session that begins in the cut is in the cut
  main-origin : (p : ℕ) (w : OpId) (main : IsMainAt es p w) (y v : ℕ) → main.a.call ≡ WriteTo y v → main.a.ending ≢ Some Lost → main.a.place < n
      → (b : OpId) × IsImage es n b w
  main-origin p w main y v called kept below =
      let b = main.a in
      let (a, k, at, places) = cut-call b main.k main.at below in
      let link = linked es n a b k main.k at main.at places in
      let still = moves-is es n p a b k main.k at main.at (places ∙ main.place) main.place
      ∙ and-false (is_open a.ending) (is_lost b.ending) (not_lost b.ending kept) in
      let there : (e : Operation) × (operation_of cut a ≡ Some e) =
      elim a.ending as (λ (o : Option Ending). a.ending ≡ o → (e : Operation) × (operation cut a.place a.call o ≡ Some e)) [
        | None ↦ λ _. ((memory_call a.place a.call, None), open-operation cut a.place a.call)
        | Some ending ↦ λ some. ⊎_elim
            (λ (same : operation cut a.place a.call (Some ending) ≡ operation es a.place a.call (Some ending)).
            (main.e, same ∙ (λ i. operation es (places i) (link.call i) (sym (link.ended ending some) i)) ∙ main.gives))
            (λ (other : ((x u : ℕ) × (a.call ≡ WriteTo x u) × (◌≡◌ {A = Option Ending} (Some ending) (Some Lost)) × (operation cut a.place a.call (Some ending) ≡ None))
            ⊎ ((x : ℕ) × (a.call ≡ ReadOf x) × (◌≡◌ {A = Option Ending} (Some ending) (Some GotNothing))
            × ((operation cut a.place a.call (Some ending) ≡ None) ⊎ (operation es a.place a.call (Some ending) ≡ None)))). absurd (⊎_elim
            (λ (lost : (x u : ℕ) × (a.call ≡ WriteTo x u) × (◌≡◌ {A = Option Ending} (Some ending) (Some Lost)) × (operation cut a.place a.call (Some ending) ≡ None)).
            kept (link.ended ending some ∙ lost.3))
            (λ (none : (x : ℕ) × (a.call ≡ ReadOf x) × (◌≡◌ {A = Option Ending} (Some ending) (Some GotNothing))
            × ((operation cut a.place a.call (Some ending) ≡ None) ⊎ (operation es a.place a.call (Some ending) ≡ None))).
            let wrong : WriteTo y v ≡ ReadOf none.0 = sym called ∙ sym link.call ∙ none.1 in absurd cc)
            other))
            (ended-alike es n a.place a.client a.call ending)
      ] refl in (
        op a.client (client_index cut a.client k),
        record {
          p = p;
          kind = 0;
          other = 0;
          in_cut = record { a = a; k = k; at = at; place = places ∙ main.place; e = there.0; gives = there.1; same = refl };
          in_log = main;
          shifts = inr (still, refl);
        },
      )

  -- and so is a lost write, where its value was returned in the cut
  fork-origin : (p i : ℕ) (w : OpId) (forked : IsForkedAt es p i w) (y v : ℕ) → forked.a.call ≡ WriteTo y v → forked.a.ending ≡ Some Lost → i ≡ 1
      → forked.a.place < n → is_returned cut y v ≡ true → (b : OpId) × IsImage es n b w
  fork-origin p i w forked y v called lost second below returned =
      let b = forked.a in
      let (a, k, at, places) = cut-call b forked.k forked.at below in
      let link = linked es n a b k forked.k at forked.at places in
      let moving = moves-is es n p a b k forked.k at forked.at (places ∙ forked.place) forked.place in
      elim a.ending as (λ (o : Option Ending). a.ending ≡ o → (b : OpId) × IsImage es n b w) [
        | None ↦ λ none. (
          op a.client (client_index cut a.client k),
          record {
            p = p;
            kind = 0;
            other = suc i;
            in_cut = record {
              a = a;
              k = k;
              at = at;
              place = places ∙ forked.place;
              e = (memory_call a.place a.call, None);
              gives = ap (operation cut a.place a.call) none ∙ open-operation cut a.place a.call;
              same = refl;
            };
            in_log = forked;
            shifts = inl (moving ∙ (λ t. is_open (none t) && is_lost (lost t)), refl, ap suc second);
          },
        )
        | Some ending ↦ λ some.
            let is : a.ending ≡ Some Lost = some ∙ sym (link.ended ending some) ∙ lost in
            let forks : fork cut a.place (WriteTo y v) (Some Lost) ≡ Some (read (mark a.place) (Some (Value 1)) ∷ write (key y) (value v) None ∷ []) =
            rw returned refl in
            let a_call : a.call ≡ WriteTo y v = link.call ∙ called in (
              op (fork_session cut k) i,
              record {
                p = p;
                kind = suc i;
                other = suc i;
                in_cut = record {
                  a = a;
                  k = k;
                  at = at;
                  place = places ∙ forked.place;
                  l = read (mark a.place) (Some (Value 1)) ∷ write (key y) (value v) None ∷ [];
                  gives = (λ t. fork cut a.place (a_call t) (is t)) ∙ forks;
                  inside = forked.inside;
                  same = refl;
                };
                in_log = forked;
                shifts = inr (moving ∙ ap (λ (o : Option Ending). is_open o && is_lost b.ending) some, refl);
              },
            )
      ] refl

  -- the write of a value that a read of the cut got begins in the cut
  early-write : (y v : ℕ) (c i j : ℕ) → IsEnded es c (ReadOf y) i j (Got v) → j < n → (b : Call) (m : ℕ) → slice_get (run_calls es) m ≡ Some b
      → b.call ≡ WriteTo y v → b.ending ≢ Some Failed → b.place < n
  early-write y v c i j end below b m at called kept =
      let (k, place, here) = calls-from 0 es m b at in
      let first : k < n = holds.writes c b.client y v i j k end below (here.begun ∙ ap (λ (d : ClientCall). Some (Begins b.client d)) called)
      (λ l failed. kept (here.ended ∙ ended-to es b.client (WriteTo y v) k l Failed failed)) in
      omega arith

  read-source : (a w : OpId) (x v : ℕ) → Reads (history_of cut) a x v → Writes (history_of es) w x v → (b : OpId) × IsImage es n b w
  read-source a w x v reads writes =
      let (p, kind, slot) = slot-of cut a (read x (Some (Value v))) reads in
      of_slot p kind slot
    where
      got : (r : Call) (k y u : ℕ) → slice_get (run_calls cut) k ≡ Some r → r.call ≡ ReadOf y → r.ending ≡ Some (Got u) → x ≡ key y → v ≡ value u
          → IsMainWrite es w x v ⊎ IsForkWrite es w x v → (b : OpId) × IsImage es n b w
      got r k y u at called ended key_same value_same (inl (p, main, inl (z, t, wrote, unfailed, kept, key2, value2))) =
          let (i, place, here) = calls-from 0 cut k r at in
          let (j, end) = ended-from cut i r (Got u) here ended in
          let there = ended-of_cut es n r.client (ReadOf y) i j (Got u) (subst (λ (d : ClientCall). IsEnded cut r.client d i j (Got u)) called end) in
          let below = (take-from n es j (Ends r.client (Got u)) end.ends).0 in
          let keys : z ≡ y = omega arith in
          let values : t ≡ u = omega arith in
          let wrote2 : main.a.call ≡ WriteTo y u = wrote ∙ (λ q. WriteTo (keys q) (values q)) in
          main-origin p w main y u wrote2 kept (early-write y u r.client i j there below main.a main.k main.at wrote2 unfailed)
      got r k y u at called ended key_same value_same (inl (p, main, inr (inl (key2, value2)))) = absurd (omega arith)
      got r k y u at called ended key_same value_same (inl (p, main, inr (inr (z, key2, value2)))) = absurd (omega arith)
      got r k y u at called ended key_same value_same (inr forked) =
          let (i, place, here) = calls-from 0 cut k r at in
          let (j, end) = ended-from cut i r (Got u) here ended in
          let there = ended-of_cut es n r.client (ReadOf y) i j (Got u) (subst (λ (d : ClientCall). IsEnded cut r.client d i j (Got u)) called end) in
          let below = (take-from n es j (Ends r.client (Got u)) end.ends).0 in
          let key2 = forked.key_same in
          let value2 = forked.value_same in
          let keys : forked.y ≡ y = omega arith in
          let values : forked.v ≡ u = omega arith in
          let wrote : forked.forked.a.call ≡ WriteTo y u = forked.called ∙ (λ q. WriteTo (keys q) (values q)) in
          let unfailed : forked.forked.a.ending ≢ Some Failed = λ failed. let wrong = sym forked.ended ∙ failed in absurd cc in
          let returned : is_returned cut y u ≡ true =
          list_any-to (λ (b : Call). gets y u b.call b.ending) (run_calls cut) k r at
          ((λ q. gets y u (called q) (ended q)) ∙ and_from (y == y) (u == u) (eq-eqb y y refl) (eq-eqb u u refl)) in
          fork-origin forked.p forked.i w forked.forked y u wrote forked.ended forked.second
          (early-write y u r.client i j there below forked.forked.a forked.forked.k forked.forked.at wrote unfailed) returned

      nothing-written : (y : ℕ) → x ≡ key y → v ≡ nothing → IsMainWrite es w x v ⊎ IsForkWrite es w x v → (b : OpId) × IsImage es n b w
      nothing-written y key_same value_same (inl (p, main, inl (z, t, _, _, _, key2, value2))) = absurd (omega arith)
      nothing-written y key_same value_same (inl (p, main, inr (inl (key2, value2)))) = absurd (omega arith)
      nothing-written y key_same value_same (inl (p, main, inr (inr (z, key2, value2)))) = absurd (omega arith)
      nothing-written y key_same value_same (inr forked) = let value2 = forked.value_same in absurd (omega arith)

      of_slot : (p kind : ℕ) → IsSlot cut p kind a → (b : OpId) × IsImage es n b w
      of_slot p zero main =
          let same = main.gives ∙ sym (main-entry cut p a main) ∙ reads in
          ⊎_elim
          (λ (value_got : (y u : ℕ) × (main.a.call ≡ ReadOf y) × (main.a.ending ≡ Some (Got u)) × (x ≡ key y) × (v ≡ value u)).
          let (y, u, called, ended, key_same, value_same) = value_got in
          got main.a main.k y u main.at called ended key_same value_same (writer-from es w x v writes))
          (λ (none : (y : ℕ) × (main.a.call ≡ ReadOf y) × (main.a.ending ≡ Some GotNothing) × (is_deleted cut y ≡ false) × (x ≡ key y) × (v ≡ nothing)).
          nothing-written none.0 none.4 none.5 (writer-from es w x v writes))
          (read-call cut main.a.place x v main.a.call main.a.ending same)
      of_slot p (suc i) forked =
          let a = forked.a in
          let (y, u, called, ended, returned, same) = fork-call cut a.place a.call a.ending forked.l forked.gives in
          let found = fork-at cut p i _ forked (read x (Some (Value v))) reads in
          let (mark_same, one_same) = fork-read (mark a.place) (key y) (value u) x v i
          (subst (λ (l : List Operation). slice_get l i ≡ Some (read x (Some (Value v)))) same found) in
          let there : IsMainAt es a.place w = mark-writer es a.place w
          (subst (λ (t : ℕ). Writes (history_of es) w (mark a.place) t) (sym one_same) (subst (λ (z : ℕ). Writes (history_of es) w z v) (sym mark_same) writes)) in
          let here = fork-mark cut p i _ forked in (
            op a.client (client_index cut a.client forked.k),
            record {
              p = p;
              kind = 0;
              other = 0;
              in_cut = here;
              in_log = subst (λ (q : ℕ). IsMainAt es q w) forked.place there;
              shifts = inr (stays es n allowed holds p a there.a forked.k there.k Lost forked.at there.at forked.place (there.place ∙ forked.place) ended, refl);
            },
          )

  pub image-sources : (a r w : OpId) (x v : ℕ) → Reads (history_of cut) a x v → Writes (history_of es) w x v → (b : OpId) × (origin es n w ≡ Some b)
  image-sources a r w x v reads writes = let found = read-source a w x v reads writes in (found.0, origin-to es n found.0 w found.1)
