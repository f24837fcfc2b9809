-- Each operation of the history of a log is one of a call: in its client's session, or the first or the second of its fork.
use Rattle.std.proofs.Common.{◌≡◌, ℕ, zero, suc, ◌<◌, ◌≤◌, List, length, refl, ap, sym, subst, ◌∙◌, inl, inr, ⊎_elim, arith}
use Rattle.std.specs.Prelude.{◌≢◌, ◌⊎◌, Some, None, slice_get}
use Rattle.std.proofs.lemmas.Bool.{cases_lt, eq-eqb}
use Rattle.std.proofs.lemmas.List.FromFn.{length-map-range_with_len}
use Rattle.std.proofs.lemmas.Option.{same_Some, slice_get_within}
use Rattle.model_history.specs.declared.op_id.OpId.{OpId}
use Rattle.model_history.specs.History.{IsOp, session, entry}
use Rattle.order_causal.specs.Orders.{op}
use Rattle.order_causal.proofs.OrdersLaws.{same_op}
use Rattle.order_memory.proofs.RaiseLists.{at-right}
use Rattle.cert_check.proofs.CutSteps.{filter_stands}
use Rattle.cert_subhistories.proofs.KeptLists.{passing_before, passing_before-le}
use Rattle.log_events.specs.declared.event.Event.{Event}
use Rattle.log_events.specs.declared.event.Event.TheVariants.{Starts, Begins, Ends}
use Rattle.log_events.specs.Events.{Call, run_calls, calls_of}
use Rattle.log_events.specs.Histories.{Operation, clients, client_session, fork_sessions, history_of}
use Rattle.log_events.proofs.CallOperations.{fork-call}
use Rattle.log_events.proofs.CallPlaces.{calls-from, calls-to, call_at, calls-once}
use Rattle.log_events.proofs.CutCalls.{is_own}
use Rattle.log_events.proofs.GivenPlaces.{giving_before, giving-stands, giving-rises}
use Rattle.log_events.proofs.ListPlaces.{slice_get-found}
use Rattle.log_events.proofs.OperationPlaces.{IsOfCall, IsForkOfCall, operation_of, fork_of, client_index, client_sessions, fork_session, history-from, history-client, entry-listed, client-below}

module _ (es : List Event) where
  -- o is the operation of the call that begins at the place p in its client's session
  pub record IsMainAt (p : ℕ) (o : OpId) : Type 0 where
    pub a : Call
    pub k : ℕ
    pub at : slice_get (run_calls es) k ≡ Some a
    pub place : a.place ≡ p
    pub e : Operation
    pub gives : operation_of es a ≡ Some e
    pub same : o ≡ op a.client (client_index es a.client k)

  -- o is the operation i of its fork
  pub record IsForkedAt (p i : ℕ) (o : OpId) : Type 0 where
    pub a : Call
    pub k : ℕ
    pub at : slice_get (run_calls es) k ≡ Some a
    pub place : a.place ≡ p
    pub l : List Operation
    pub gives : fork_of es a ≡ Some l
    pub inside : i < 2
    pub same : o ≡ op (fork_session es k) i

  -- the first slot of a call is in its client's session, and the others are in its fork
  abbrev pub IsSlot : ℕ → ℕ → OpId → Type 0
  IsSlot p zero o = IsMainAt p o
  IsSlot p (suc i) o = IsForkedAt p i o

  pub same-call : (a b : Call) (k m : ℕ) → slice_get (run_calls es) k ≡ Some a → slice_get (run_calls es) m ≡ Some b → a.place ≡ b.place
      → (k ≡ m) × (a ≡ b)
  same-call a b k m first second places =
      let one = calls-once es k m a b first second places in
      (one, same_Some _ _ (sym first ∙ ap (slice_get (run_calls es)) one ∙ second))

  -- a call that is begun later has its operation later
  own_at : (a : Call) (k : ℕ) → slice_get (run_calls es) k ≡ Some a
      → slice_get (calls_of a.client es) (passing_before (is_own a.client) (run_calls es) k) ≡ Some a
  own_at a k at = filter_stands (is_own a.client) (run_calls es) k a at (eq-eqb a.client a.client refl)

  pub index-rises : (a b : Call) (k m : ℕ) (e : Operation) → slice_get (run_calls es) k ≡ Some a → slice_get (run_calls es) m ≡ Some b
      → a.client ≡ b.client → operation_of es a ≡ Some e → k < m → client_index es a.client k < client_index es b.client m
  index-rises a b k m e first second clients_same gives below =
      let early = own_at a k first in
      let late : slice_get (calls_of a.client es) (passing_before (is_own a.client) (run_calls es) m) ≡ Some b =
      subst (λ (c : ℕ). slice_get (calls_of c es) (passing_before (is_own c) (run_calls es) m) ≡ Some b) (sym clients_same) (own_at b m second) in
      let up_to = passing_before-le (is_own a.client) (run_calls es) k m (omega arith) in
      let rises : passing_before (is_own a.client) (run_calls es) k < passing_before (is_own a.client) (run_calls es) m = ⊎_elim
      (λ (less : passing_before (is_own a.client) (run_calls es) k < passing_before (is_own a.client) (run_calls es) m). less)
      (λ (over : passing_before (is_own a.client) (run_calls es) m ≤ passing_before (is_own a.client) (run_calls es) k).
      let even : passing_before (is_own a.client) (run_calls es) k ≡ passing_before (is_own a.client) (run_calls es) m = omega arith in
      let calls_same : a ≡ b = same_Some _ _ (sym early ∙ ap (slice_get (calls_of a.client es)) even ∙ late) in
      let one = calls-once es k m a b first second (ap (λ (c : Call). c.place) calls_same) in absurd (omega arith))
      (cases_lt (passing_before (is_own a.client) (run_calls es) k) (passing_before (is_own a.client) (run_calls es) m)) in
      let given = giving-rises (operation_of es) (calls_of a.client es) (passing_before (is_own a.client) (run_calls es) k)
      (passing_before (is_own a.client) (run_calls es) m) a e rises early gives in
      subst (λ (c : ℕ). client_index es a.client k < client_index es c m) clients_same given

  fork-rises : (a : Call) (k m : ℕ) (l : List Operation) → slice_get (run_calls es) k ≡ Some a → fork_of es a ≡ Some l → k < m
      → fork_session es k < fork_session es m
  fork-rises a k m l at gives below =
      let rises = giving-rises (fork_of es) (run_calls es) k m a l below at gives in omega arith

  -- what stands in a slot
  pub main-entry : (p : ℕ) (o : OpId) (main : IsMainAt p o) → entry (history_of es) o ≡ Some main.e
  main-entry p o main =
      let (i, place, here) = calls-from 0 es main.k main.a main.at in
      let c = main.a.client in
      ap (entry (history_of es)) main.same
      ∙ history-client es c (client_index es c main.k) main.e (client-below es i c main.a.call here.begun)
      (giving-stands (operation_of es) (calls_of c es) (passing_before (is_own c) (run_calls es) main.k) main.a main.e (own_at main.a main.k main.at) main.gives)

  pub fork-entry : (p i : ℕ) (o : OpId) (forked : IsForkedAt p i o) (e : Operation) → slice_get forked.l i ≡ Some e → entry (history_of es) o ≡ Some e
  fork-entry p i o forked e at =
      ap (entry (history_of es)) forked.same
      ∙ entry-listed es (fork_session es forked.k) i forked.l e
      (at-right (client_sessions es) (fork_sessions es) (fork_session es forked.k) (giving_before (fork_of es) (run_calls es) forked.k) forked.l refl
      (giving-stands (fork_of es) (run_calls es) forked.k forked.a forked.l forked.at forked.gives)) at

  fork-two : (p i : ℕ) (o : OpId) (forked : IsForkedAt p i o) → length forked.l ≡ 2
  fork-two p i o forked = ap length (fork-call es forked.a.place forked.a.call forked.a.ending forked.l forked.gives).5

  pub slot-op : (p kind : ℕ) (o : OpId) → IsSlot p kind o → IsOp (history_of es) o
  slot-op p zero o main = slice_get_within (session (history_of es) o.session) o.index main.e (main-entry p o main)
  slot-op p (suc i) o forked =
      let two = fork-two p i o forked in
      let below = forked.inside in
      let e = slice_get-found forked.l i (omega arith) in
      slice_get_within (session (history_of es) o.session) o.index e.0 (fork-entry p i o forked e.0 e.1)

  -- the call of a slot
  pub slot-call : (p kind : ℕ) (o : OpId) → IsSlot p kind o → (a : Call) × (k : ℕ) × (slice_get (run_calls es) k ≡ Some a) × (a.place ≡ p)
  slot-call p zero o main = (main.a, main.k, main.at, main.place)
  slot-call p (suc i) o forked = (forked.a, forked.k, forked.at, forked.place)

  -- each operation is in one slot
  pub slot-of : (o : OpId) (e : Operation) → entry (history_of es) o ≡ Some e → (p kind : ℕ) × IsSlot p kind o
  slot-of o e at = ⊎_elim
      (λ (client : IsOfCall es o.session o.index e).
      let (a, is_call, mine, gives, index) = client in (
        a.place,
        zero,
        record {
          a = a;
          k = is_call.0;
          at = is_call.1;
          place = refl;
          e = e;
          gives = gives;
          same = same_op o (op a.client (client_index es a.client is_call.0)) (sym mine) (sym index ∙ ap (λ (c : ℕ). client_index es c is_call.0) (sym mine));
        },
      ))
      (λ (forked : IsForkOfCall es o.session (session (history_of es) o.session)).
      let (a, is_call, gives, place) = forked in
      let two = ap length (fork-call es a.place a.call a.ending (session (history_of es) o.session) gives).5 in
      let within = slice_get_within (session (history_of es) o.session) o.index e at in (
        a.place,
        suc o.index,
        record {
          a = a;
          k = is_call.0;
          at = is_call.1;
          place = refl;
          l = session (history_of es) o.session;
          gives = gives;
          inside = omega arith;
          same = same_op o (op (fork_session es is_call.0) o.index) (sym place) refl;
        },
      ))
      (history-from es o e at)

  -- a slot has one operation
  pub slot-once : (p kind : ℕ) (o q : OpId) → IsSlot p kind o → IsSlot p kind q → o ≡ q
  slot-once p zero o q first second =
      let one = same-call first.a second.a first.k second.k first.at second.at (first.place ∙ sym second.place) in
      let calls_same = one.1 in
      let numbers_same = one.0 in
      first.same ∙ (λ i. op ((calls_same i).client) (client_index es ((calls_same i).client) (numbers_same i))) ∙ sym second.same
  slot-once p (suc i) o q first second =
      let one = same-call first.a second.a first.k second.k first.at second.at (first.place ∙ sym second.place) in
      first.same ∙ ap (λ (k : ℕ). op (fork_session es k) i) one.0 ∙ sym second.same

  -- forks come after the clients
  pub apart : (p q i : ℕ) (o r : OpId) → IsMainAt p o → IsForkedAt q i r → o.session ≢ r.session
  apart p q i o r main forked sessions =
      let (j, place, here) = calls-from 0 es main.k main.a main.at in
      let below = client-below es j main.a.client main.a.call here.begun in
      let long = length-map-range_with_len (client_session es) 0 (clients es) in
      let first : o.session ≡ main.a.client = ap (λ (t : OpId). t.session) main.same in
      let second : r.session ≡ fork_session es forked.k = ap (λ (t : OpId). t.session) forked.same in
      omega arith

  -- two operations of one session are of one client's calls, or of one fork
  pub main-order : (p q : ℕ) (o r : OpId) (first : IsMainAt p o) (second : IsMainAt q r) → o.session ≡ r.session → o.index < r.index
      → (first.a.client ≡ second.a.client) × (first.k < second.k)
  main-order p q o r first second sessions below =
      let clients_same : first.a.client ≡ second.a.client =
      sym (ap (λ (t : OpId). t.session) first.same) ∙ sessions ∙ ap (λ (t : OpId). t.session) second.same in
      let index1 : o.index ≡ client_index es first.a.client first.k = ap (λ (t : OpId). t.index) first.same in
      let index2 : r.index ≡ client_index es second.a.client second.k = ap (λ (t : OpId). t.index) second.same in (
        clients_same,
        ⊎_elim
            (λ (less : first.k < second.k). less)
            (λ (up_to : second.k ≤ first.k). ⊎_elim
            (λ (more : second.k < first.k).
            let rises = index-rises second.a first.a second.k first.k second.e second.at first.at (sym clients_same) second.gives more in absurd (omega arith))
            (λ (over : first.k ≤ second.k).
            let even : first.k ≡ second.k = omega arith in
            let same : client_index es first.a.client first.k ≡ client_index es second.a.client second.k =
            λ i. client_index es (clients_same i) (even i) in absurd (omega arith))
            (cases_lt second.k first.k))
            (cases_lt first.k second.k),
      )

  pub fork-order : (p q i j : ℕ) (o r : OpId) (first : IsForkedAt p i o) (second : IsForkedAt q j r) → o.session ≡ r.session
      → first.k ≡ second.k
  fork-order p q i j o r first second sessions =
      let session1 : o.session ≡ fork_session es first.k = ap (λ (t : OpId). t.session) first.same in
      let session2 : r.session ≡ fork_session es second.k = ap (λ (t : OpId). t.session) second.same in
      ⊎_elim
      (λ (less : first.k < second.k). let rises = fork-rises first.a first.k second.k first.l first.at first.gives less in absurd (omega arith))
      (λ (up_to : second.k ≤ first.k). ⊎_elim
      (λ (more : second.k < first.k). let rises = fork-rises second.a second.k first.k second.l second.at second.gives more in absurd (omega arith))
      (λ (over : first.k ≤ second.k). omega arith)
      (cases_lt second.k first.k))
      (cases_lt first.k second.k)

  same-place : (a b : Call) (k m p q : ℕ) → slice_get (run_calls es) k ≡ Some a → slice_get (run_calls es) m ≡ Some b → k ≡ m → a.place ≡ p → b.place ≡ q
      → p ≡ q
  same-place a b k m p q first second even place1 place2 =
      sym place1 ∙ ap (λ (c : Call). c.place) (same_Some _ _ (sym first ∙ ap (slice_get (run_calls es)) even ∙ second)) ∙ place2

  -- an operation is in one slot
  pub slot-one : (p q kind other : ℕ) (o : OpId) → IsSlot p kind o → IsSlot q other o → (p ≡ q) × (kind ≡ other)
  slot-one p q zero zero o first second =
      let clients_same : first.a.client ≡ second.a.client =
      sym (ap (λ (t : OpId). t.session) first.same) ∙ ap (λ (t : OpId). t.session) second.same in
      let indexes : client_index es first.a.client first.k ≡ client_index es second.a.client second.k =
      sym (ap (λ (t : OpId). t.index) first.same) ∙ ap (λ (t : OpId). t.index) second.same in
      let even : first.k ≡ second.k = ⊎_elim
      (λ (less : first.k < second.k).
      let rises = index-rises first.a second.a first.k second.k first.e first.at second.at clients_same first.gives less in absurd (omega arith))
      (λ (up_to : second.k ≤ first.k). ⊎_elim
      (λ (more : second.k < first.k).
      let rises = index-rises second.a first.a second.k first.k second.e second.at first.at (sym clients_same) second.gives more in absurd (omega arith))
      (λ (over : first.k ≤ second.k). omega arith)
      (cases_lt second.k first.k))
      (cases_lt first.k second.k) in
      (same-place first.a second.a first.k second.k p q first.at second.at even first.place second.place, refl)
  slot-one p q zero (suc j) o first second = absurd (apart p q j o o first second refl)
  slot-one p q (suc i) zero o first second = absurd (apart q p i o o second first refl)
  slot-one p q (suc i) (suc j) o first second =
      let even = fork-order p q i j o o first second refl in
      let index1 : o.index ≡ i = ap (λ (t : OpId). t.index) first.same in
      let index2 : o.index ≡ j = ap (λ (t : OpId). t.index) second.same in
      (same-place first.a second.a first.k second.k p q first.at second.at even first.place second.place, omega arith)

  -- the call that begins at a place, if one does
  abbrev pub IsCallBegun : ℕ → Type 0
  IsCallBegun p = (a : Call) × (k : ℕ) × (slice_get (run_calls es) k ≡ Some a) × (a.place ≡ p)

  pub call-begun : (p : ℕ) → IsCallBegun p ⊎ ((a : Call) (k : ℕ) → slice_get (run_calls es) k ≡ Some a → a.place ≢ p)
  call-begun p =
      elim (slice_get es p) as (λ o. slice_get es p ≡ o → IsCallBegun p ⊎ ((a : Call) (k : ℕ) → slice_get (run_calls es) k ≡ Some a → a.place ≢ p)) [
        | None ↦ λ none. inr (λ a k at place.
            let begun = begins a k p at place in let wrong : None ≡ Some (Begins a.client a.call) = sym none ∙ begun in absurd cc)
        | Some (Starts x v) ↦ λ some. inr (λ a k at place.
            let begun = begins a k p at place in let wrong : Some (Starts x v) ≡ Some (Begins a.client a.call) = sym some ∙ begun in absurd cc)
        | Some (Begins c call) ↦ λ some. let r = calls-to 0 es p c call some in inl (call_at 0 p es c call, r.0, r.1, omega arith)
        | Some (Ends c ending) ↦ λ some. inr (λ a k at place.
            let begun = begins a k p at place in let wrong : Some (Ends c ending) ≡ Some (Begins a.client a.call) = sym some ∙ begun in absurd cc)
      ] refl
    where
      begins : (a : Call) (k p : ℕ) → slice_get (run_calls es) k ≡ Some a → a.place ≡ p → slice_get es p ≡ Some (Begins a.client a.call)
      begins a k p at place =
          let (i, is, here) = calls-from 0 es k a at in
          let same : i ≡ p = omega arith in
          ap (slice_get es) (sym same) ∙ here.begun

  -- the operation in a slot, if there is one
  pub at-slot : (p kind : ℕ) → ((o : OpId) × IsSlot p kind o) ⊎ ((o : OpId) → ¬ IsSlot p kind o)
  at-slot p zero = ⊎_elim
      (λ (found : IsCallBegun p).
      let (a, k, at, place) = found in
      elim (operation_of es a) as (λ o. operation_of es a ≡ o → ((o : OpId) × IsMainAt p o) ⊎ ((o : OpId) → ¬ IsMainAt p o)) [
        | None ↦ λ none. inr (λ o main.
            let one = same-call main.a a main.k k main.at at (main.place ∙ sym place) in
            let wrong : Some main.e ≡ None = sym main.gives ∙ ap (operation_of es) one.1 ∙ none in absurd cc)
        | Some e ↦ λ some.
            inl (op a.client (client_index es a.client k), record { a = a; k = k; at = at; place = place; e = e; gives = some; same = refl })
      ] refl)
      (λ (none : (a : Call) (k : ℕ) → slice_get (run_calls es) k ≡ Some a → a.place ≢ p). inr (λ o main. none main.a main.k main.at main.place))
      (call-begun p)
  at-slot p (suc i) = ⊎_elim
      (λ (found : IsCallBegun p).
      let (a, k, at, place) = found in
      elim (fork_of es a) as (λ o. fork_of es a ≡ o → ((o : OpId) × IsForkedAt p i o) ⊎ ((o : OpId) → ¬ IsForkedAt p i o)) [
        | None ↦ λ none. inr (λ o forked.
            let one = same-call forked.a a forked.k k forked.at at (forked.place ∙ sym place) in
            let wrong : Some forked.l ≡ None = sym forked.gives ∙ ap (fork_of es) one.1 ∙ none in absurd cc)
        | Some l ↦ λ some. ⊎_elim
            (λ (below : i < 2).
            inl (op (fork_session es k) i, record { a = a; k = k; at = at; place = place; l = l; gives = some; inside = below; same = refl }))
            (λ (over : 2 ≤ i). inr (λ o forked. let below = forked.inside in absurd (omega arith)))
            (cases_lt i 2)
      ] refl)
      (λ (none : (a : Call) (k : ℕ) → slice_get (run_calls es) k ≡ Some a → a.place ≢ p).
      inr (λ o forked. none forked.a forked.k forked.at forked.place))
      (call-begun p)
