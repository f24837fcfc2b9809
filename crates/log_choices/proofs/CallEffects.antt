-- The operation that a call of a log took effect by: in its client's session, or in its fork where it was lost. What it writes or reads, and what
-- comes before it.
use Rattle.std.proofs.Common.{◌≡◌, ℕ, suc, ◌+◌, ◌<◌, ◌≤◌, true, false, List, [], ◌∷◌, drop, refl, ap, sym, subst, ◌∙◌, inl, inr, ⊎_elim, arith}
use Rattle.std.specs.Prelude.{◌≢◌, ◌⊎◌, ◌==◌, Option, Some, None, option_map, slice_get}
use Rattle.std.proofs.lemmas.Bool.{and_from, cases_lt, eq-eqb}
use Rattle.std.proofs.lemmas.Option.{same_Some}
use Rattle.model_objects.specs.declared.register.RegisterRet.TheVariants.{Done, Value}
use Rattle.model_history.specs.declared.op_id.OpId.{OpId}
use Rattle.model_history.specs.History.{Precedes, entry}
use Rattle.order_causal.specs.Orders.{op}
use Rattle.order_causal.proofs.PathsLaws.{leads-edge, leads-leads}
use Rattle.order_memory.specs.Memory.{Reads, Writes}
use Rattle.order_memory.specs.Relations.{CO, IsEdge, ReadsFrom}
use Rattle.log_events.specs.declared.event.ClientCall.{ClientCall}
use Rattle.log_events.specs.declared.event.ClientCall.TheVariants.{WriteTo, ReadOf}
use Rattle.log_events.specs.declared.event.Ending.{Ending}
use Rattle.log_events.specs.declared.event.Ending.TheVariants.{Answered, Got, GotNothing, Failed, Lost}
use Rattle.log_events.specs.declared.event.Event.{Event}
use Rattle.log_events.specs.declared.event.Event.TheVariants.{Begins}
use Rattle.log_events.specs.Events.{Fits, IsAt, IsEnded, IsAllowed, Call, ending_in, run_calls}
use Rattle.log_events.specs.Histories.{key, mark, value, nothing, Operation, write, read, gets, is_returned, is_deleted, operation, fork, history_of}
use Rattle.log_events.specs.Values.{BeginsKeptWrite}
use Rattle.log_events.proofs.AllowedLogs.{ended-fits}
use Rattle.log_events.proofs.CallOperations.{fork-call, memory_call}
use Rattle.log_events.proofs.CallPlaces.{IsCallAt, call_at, calls-from, calls-rise, calls-to, ended-from, ended-to}
use Rattle.log_events.proofs.CallSlots.{IsMainAt, IsForkedAt, same-call, index-rises, main-entry, fork-entry, slot-op, slot-once, slot-one}
use Rattle.log_events.proofs.CutImages.{operation-call}
use Rattle.log_events.proofs.ListPlaces.{list_any-to}
use Rattle.log_events.proofs.OperationPlaces.{client_index, fork_session}
use Rattle.log_events.proofs.StartValues.{mark-unstarted}

module _ (es : List Event) where
  -- the operation by which the call that begins at a place took effect
  abbrev pub IsEffect : ℕ → OpId → Type 0
  IsEffect p o = ((main : IsMainAt es p o) × (main.a.ending ≢ Some Lost)) ⊎ IsForkedAt es p 1 o

  forked-lost : (p i : ℕ) (o : OpId) (forked : IsForkedAt es p i o) → forked.a.ending ≡ Some Lost
  forked-lost p i o forked = (fork-call es forked.a.place forked.a.call forked.a.ending forked.l forked.gives).3

  main-unforked : (p i : ℕ) (o q : OpId) (main : IsMainAt es p o) → main.a.ending ≢ Some Lost → ¬ IsForkedAt es p i q
  main-unforked p i o q main stays forked =
      let one = (same-call es main.a forked.a main.k forked.k main.at forked.at (main.place ∙ sym forked.place)).1 in
      stays (ap (λ (a : Call). a.ending) one ∙ forked-lost p i q forked)

  pub effect-once : (p : ℕ) (o q : OpId) → IsEffect p o → IsEffect p q → o ≡ q
  effect-once p o q (inl (main, _)) (inl (main2, _)) = slot-once es p 0 o q main main2
  effect-once p o q (inl (main, stays)) (inr forked) = absurd (main-unforked p 1 o q main stays forked)
  effect-once p o q (inr forked) (inl (main, stays)) = absurd (main-unforked p 1 q o main stays forked)
  effect-once p o q (inr forked) (inr forked2) = slot-once es p 2 o q forked forked2

  pub effect-apart : (p q : ℕ) (o : OpId) → IsEffect p o → IsEffect q o → p ≡ q
  effect-apart p q o (inl (main, _)) (inl (main2, _)) = (slot-one es p q 0 0 o main main2).0
  effect-apart p q o (inl (main, _)) (inr forked) = (slot-one es p q 0 2 o main forked).0
  effect-apart p q o (inr forked) (inl (main, _)) = (slot-one es p q 2 0 o forked main).0
  effect-apart p q o (inr forked) (inr forked2) = (slot-one es p q 2 2 o forked forked2).0

  -- the event at which the call of a slot begins
  begun-at : (p k : ℕ) (a : Call) → slice_get (run_calls es) k ≡ Some a → a.place ≡ p → IsAt es p (Begins a.client a.call)
  begun-at p k a at place =
      let (i, is, here) = calls-from 0 es k a at in
      let same : i ≡ p = omega arith in
      subst (λ (n : ℕ). IsAt es n (Begins a.client a.call)) same here.begun

  begun-same : (p : ℕ) (c d : ℕ) (call other : ClientCall) → IsAt es p (Begins c call) → IsAt es p (Begins d other) → (c ≡ d) × (call ≡ other)
  begun-same p c d call other first second = let same : Begins c call ≡ Begins d other = same_Some _ _ (sym first ∙ second) in (cc, cc)

  -- a call that has an operation in its client's session has it there
  pub main-of : (c i : ℕ) (call : ClientCall) (ending : Option Ending) (e : Operation) → IsAt es i (Begins c call)
      → ending_in c (drop (suc i) es) ≡ ending → operation es i call ending ≡ Some e
      → (o : OpId) × (main : IsMainAt es i o) × (entry (history_of es) o ≡ Some e) × (main.a.ending ≡ ending)
  main-of c i call ending e at is gives =
      let (k, there) = calls-to 0 es i c call at in
      let place : 0 + i ≡ i = omega arith in
      let o = op c (client_index es c k) in
      let main : IsMainAt es i o = record {
        a = call_at 0 i es c call;
        k = k;
        at = there;
        place = place;
        e = e;
        gives = (λ t. operation es (place t) call (is t)) ∙ gives;
        same = refl;
      } in
      (o, main, main-entry es i o main, is)

  forked-of : (c i : ℕ) (call : ClientCall) (l : List Operation) → IsAt es i (Begins c call) → fork es i call (ending_in c (drop (suc i) es)) ≡ Some l
      → (o : OpId) × IsForkedAt es i 1 o
  forked-of c i call l at gives =
      let (k, there) = calls-to 0 es i c call at in
      let place : 0 + i ≡ i = omega arith in (
        op (fork_session es k) 1,
        record {
          a = call_at 0 i es c call;
          k = k;
          at = there;
          place = place;
          l = l;
          gives = ap (λ (n : ℕ). fork es n call (ending_in c (drop (suc i) es))) place ∙ gives;
          inside = omega arith;
          same = refl;
        },
      )

  -- the operation of a call comes before those of the calls that its client begins later
  main-before : (c a b : ℕ) (call next : ClientCall) (o q : OpId) → IsAt es a (Begins c call) → IsAt es b (Begins c next) → a < b
      → IsMainAt es a o → IsMainAt es b q → CO (history_of es) o q
  main-before c a b call next o q first second below early late =
      let client1 = (begun-same a early.a.client c early.a.call call (begun-at a early.k early.a early.at early.place) first).0 in
      let client2 = (begun-same b late.a.client c late.a.call next (begun-at b late.k late.a late.at late.place) second).0 in
      let clients_same : early.a.client ≡ late.a.client = client1 ∙ sym client2 in
      let place1 = early.place in
      let place2 = late.place in
      let in_order : early.k < late.k = ⊎_elim
      (λ (less : early.k < late.k). less)
      (λ (up_to : late.k ≤ early.k). ⊎_elim
      (λ (more : late.k < early.k). let rises = calls-rise 0 es late.k early.k late.a early.a more late.at early.at in absurd (omega arith))
      (λ (over : early.k ≤ late.k).
      let even : late.k ≡ early.k = omega arith in
      let one : late.a ≡ early.a = same_Some _ _ (sym late.at ∙ ap (slice_get (run_calls es)) even ∙ early.at) in
      let places : late.a.place ≡ early.a.place = ap (λ (d : Call). d.place) one in absurd (omega arith))
      (cases_lt late.k early.k))
      (cases_lt early.k late.k) in
      let rises = index-rises es early.a late.a early.k late.k early.e early.at late.at clients_same early.gives in_order in
      let session1 : o.session ≡ early.a.client = ap (λ (t : OpId). t.session) early.same in
      let session2 : q.session ≡ late.a.client = ap (λ (t : OpId). t.session) late.same in
      let index1 : o.index ≡ client_index es early.a.client early.k = ap (λ (t : OpId). t.index) early.same in
      let index2 : q.index ≡ client_index es late.a.client late.k = ap (λ (t : OpId). t.index) late.same in
      let precedes : Precedes o q = (session1 ∙ clients_same ∙ sym session2, omega arith) in
      leads-edge (IsEdge (history_of es)) o q (inl (precedes, slot-op es b 0 q late))

  -- the mark of a fork stands in its client's session, and comes before the write of the fork
  pub mark-of : (p i : ℕ) (o : OpId) (forked : IsForkedAt es p i o)
      → (m : OpId) × IsMainAt es p m × (entry (history_of es) m ≡ Some (write (mark forked.a.place) 1 (Some Done)))
  mark-of p i o forked =
      let a = forked.a in
      let (y, v, called, ended, returned, same) = fork-call es a.place a.call a.ending forked.l forked.gives in
      let marks : operation es a.place (WriteTo y v) (Some Lost) ≡ Some (write (mark a.place) 1 (Some Done)) = rw returned refl in
      let m = op a.client (client_index es a.client forked.k) in
      let main : IsMainAt es p m = record {
        a = a;
        k = forked.k;
        at = forked.at;
        place = forked.place;
        e = write (mark a.place) 1 (Some Done);
        gives = (λ t. operation es a.place (called t) (ended t)) ∙ marks;
        same = refl;
      } in
      (m, main, main-entry es p m main)

  mark-before : (p : ℕ) (o m : OpId) (forked : IsForkedAt es p 1 o) → entry (history_of es) m ≡ Some (write (mark forked.a.place) 1 (Some Done))
      → CO (history_of es) m o
  mark-before p o m forked marks =
      let a = forked.a in
      let (y, v, called, ended, returned, same) = fork-call es a.place a.call a.ending forked.l forked.gives in
      let f = op (fork_session es forked.k) 0 in
      let first : IsForkedAt es p 0 f =
      record { a = a; k = forked.k; at = forked.at; place = forked.place; l = forked.l; gives = forked.gives; inside = omega arith; same = refl } in
      let reads : Reads (history_of es) f (mark a.place) 1 =
      fork-entry es p 0 f first (read (mark a.place) (Some (Value 1))) (ap (λ (l : List Operation). slice_get l 0) same) in
      let writes : Writes (history_of es) m (mark a.place) 1 = ap (option_map (λ (e : Operation). e.0)) marks in
      let none = mark-unstarted es a.place in
      let edge : ReadsFrom (history_of es) m f = (mark a.place, 1, writes, reads, λ is. omega arith) in
      let session : f.session ≡ o.session = sym (ap (λ (t : OpId). t.session) forked.same) in
      let index : o.index ≡ 1 = ap (λ (t : OpId). t.index) forked.same in
      let precedes : Precedes f o = (session, omega arith) in
      leads-leads (IsEdge (history_of es)) m f o (leads-edge (IsEdge (history_of es)) m f (inr edge))
      (leads-edge (IsEdge (history_of es)) f o (inl (precedes, slot-op es p 2 o forked)))

  pub session-before : (c a b : ℕ) (call next : ClientCall) (o q : OpId) → IsAt es a (Begins c call) → IsAt es b (Begins c next) → a < b
      → IsMainAt es a o → IsEffect b q → CO (history_of es) o q
  session-before c a b call next o q first second below early (inl (late, _)) = main-before c a b call next o q first second below early late
  session-before c a b call next o q first second below early (inr forked) =
      let (m, main, marks) = mark-of b 1 q forked in
      leads-leads (IsEdge (history_of es)) o m q (main-before c a b call next o m first second below early main) (mark-before b q m forked marks)

  -- what the operation of a write writes
  pub effect-writes : (c b x v : ℕ) (o : OpId) → IsAt es b (Begins c (WriteTo x v)) → IsEffect b o → Writes (history_of es) o (key x) (value v)
  effect-writes c b x v o at (inl (main, stays)) =
      let call = (begun-same b main.a.client c main.a.call (WriteTo x v) (begun-at b main.k main.a main.at main.place) at).1 in
      let is = operation-call es main.a.place main.a.call main.a.ending main.e main.gives stays in
      ap (option_map (λ (e : Operation). e.0)) (main-entry es b o main) ∙ ap Some (is ∙ ap (memory_call main.a.place) call)
  effect-writes c b x v o at (inr forked) =
      let (y, u, called, ended, returned, same) = fork-call es forked.a.place forked.a.call forked.a.ending forked.l forked.gives in
      let call = (begun-same b forked.a.client c forked.a.call (WriteTo x v) (begun-at b forked.k forked.a forked.at forked.place) at).1 in
      let calls : WriteTo y u ≡ WriteTo x v = sym called ∙ call in
      let keys : y ≡ x = cc in
      let values : u ≡ v = cc in
      let there = fork-entry es b 1 o forked (write (key y) (value u) None) (ap (λ (l : List Operation). slice_get l 1) same) in
      ap (option_map (λ (e : Operation). e.0)) there ∙ (λ t. Some (write (key (keys t)) (value (values t)) None).0)

  -- a write that stays and whose value was returned took effect
  module _ (allowed : IsAllowed es) where
    pub write-effect : (c p x v : ℕ) → BeginsKeptWrite es c p x v → is_returned es x v ≡ true → (o : OpId) × IsEffect p o
    write-effect c p x v kept returned = by_ending (ending_in c (drop (suc p) es)) refl
      where
        a : Call
        a = call_at 0 p es c (WriteTo x v)

        here : IsCallAt es p (call_at 0 p es c (WriteTo x v))
        here = record { begun = kept.begun; ended = refl }

        plain : (ending : Option Ending) (e : Operation) → ending_in c (drop (suc p) es) ≡ ending → ending ≢ Some Lost
            → operation es p (WriteTo x v) ending ≡ Some e → (o : OpId) × IsEffect p o
        plain ending e is stays gives =
            let (o, main, _, same) = main-of c p (WriteTo x v) ending e kept.begun is gives in
            (o, inl (main, λ lost. stays (sym same ∙ lost)))

        unfit : (ending : Ending) → ending_in c (drop (suc p) es) ≡ Some ending → Fits (WriteTo x v) ending
        unfit ending is = let end = ended-from es p (call_at 0 p es c (WriteTo x v)) ending here is in ended-fits es allowed c (WriteTo x v) p end.0 ending end.1

        by_ending : (ending : Option Ending) → ending_in c (drop (suc p) es) ≡ ending → (o : OpId) × IsEffect p o
        by_ending None is = plain None (write (key x) (value v) None) is (λ lost. absurd cc) refl
        by_ending (Some Answered) is = plain (Some Answered) (write (key x) (value v) (Some Done)) is (λ lost. absurd cc) refl
        by_ending (Some (Got u)) is = absurd (unfit (Got u) is)
        by_ending (Some GotNothing) is = absurd (unfit GotNothing is)
        by_ending (Some Failed) is =
            let end = ended-from es p (call_at 0 p es c (WriteTo x v)) Failed here is in absurd (kept.not_failed end.0 end.1)
        by_ending (Some Lost) is =
            let forks : fork es p (WriteTo x v) (Some Lost) ≡ Some (read (mark p) (Some (Value 1)) ∷ write (key x) (value v) None ∷ []) = rw returned refl in
            let (o, forked) = forked-of c p (WriteTo x v) _ kept.begun (ap (fork es p (WriteTo x v)) is ∙ forks) in
            (o, inr forked)

  -- a read took effect where it returned
  pub read-effect : (c x i j v : ℕ) → IsEnded es c (ReadOf x) i j (Got v) → (o : OpId) × IsEffect i o × Reads (history_of es) o (key x) (value v)
  read-effect c x i j v end =
      let (o, main, at, ending) = main-of c i (ReadOf x) (Some (Got v)) (read (key x) (Some (Value (value v)))) end.was_open.begun
      (ended-to es c (ReadOf x) i j (Got v) end) refl in
      (o, inl (main, λ lost. let wrong : Some (Got v) ≡ Some Lost = sym ending ∙ lost in absurd cc), at)

  pub miss-effect : (c x i j : ℕ) → IsEnded es c (ReadOf x) i j GotNothing → is_deleted es x ≡ false
      → (o : OpId) × IsEffect i o × Reads (history_of es) o (key x) nothing
  miss-effect c x i j end undeleted =
      let (o, main, at, ending) = main-of c i (ReadOf x) (Some GotNothing) (read (key x) (Some (Value nothing))) end.was_open.begun
      (ended-to es c (ReadOf x) i j GotNothing end) (rw undeleted refl) in
      (o, inl (main, λ lost. let wrong : ◌≡◌ {A = Option Ending} (Some GotNothing) (Some Lost) = sym ending ∙ lost in absurd cc), at)

  -- what a read got is returned
  pub got-returned : (c x i j v : ℕ) → IsEnded es c (ReadOf x) i j (Got v) → is_returned es x v ≡ true
  got-returned c x i j v end =
      let r = calls-to 0 es i c (ReadOf x) end.was_open.begun in
      list_any-to (λ (a : Call). gets x v a.call a.ending) (run_calls es) r.0 (call_at 0 i es c (ReadOf x)) r.1
      (ap (gets x v (ReadOf x)) (ended-to es c (ReadOf x) i j (Got v) end) ∙ and_from (x == x) (v == v) (eq-eqb x x refl) (eq-eqb v v refl))
