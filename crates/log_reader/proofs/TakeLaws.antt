-- What is said, added to a log.
use Rattle.std.proofs.Common.{◌≡◌, ◌≤◌, ◌+◌, inl, inr, ℕ, Bool, true, false, List, [], ◌∷◌, ◌++◌, length, Option, Some, None, Result, Ok, Err, OnOk, IfErr, refl, sym, ap, subst, ◌∙◌, arith}
use Rattle.std.specs.Prelude.{⊤, option_map}
use Rattle.std.proofs.lemmas.List.{length_push}
use Rattle.json_bounded.specs.Text.{IsJson}
use Rattle.serde_json.specs.Data.{Data}
use Rattle.log_events.specs.Events.{IsAllowed, MayStand}
use Rattle.log_events.specs.declared.event.ClientCall.{ClientCall}
use Rattle.log_events.specs.declared.event.ClientCall.TheVariants.{WriteTo, ReadOf, DeleteOf}
use Rattle.log_events.specs.declared.event.Ending.{Ending}
use Rattle.log_events.specs.declared.event.Event.{Event}
use Rattle.log_events.specs.declared.event.Event.TheVariants.{Starts, Begins, Ends}
use Rattle.log_reader.specs.BookSteps.{AddsSaid, EndsCall, IsEndingFault, IsEventFault, IsLineFault, IsSaidFault, IsValueFault, IsValueRefused, TakesSaid, TakesValue}
use Rattle.log_reader.specs.Forms.{Said, SaidCall, SaidEnding, start, begin, end, ordered, write, read, delete, answer, nothing, failed, lost, said_at}
use Rattle.log_reader.specs.Logs.{EndsBy, IsFull, IsPending, IsPendingAt, IsRefused, IsUnsaid, Log, MayFollow, Takes, call_of, client_number, ending_of, event_of, key_number, value_number, with_call, with_client, with_ending, with_event, with_key, with_said, with_value}
use Rattle.log_reader.specs.Names.{Name}
use Rattle.log_reader.specs.declared.log_fault.LogFault.{LogFault}
use Rattle.log_reader.specs.declared.log_fault.LogFault.TheVariants.{Refused, Memory, Read}
use Rattle.log_reader.specs.declared.refusal.Reason.{Reason}
use Rattle.log_reader.specs.declared.refusal.Reason.TheVariants.{NotJson, TooLong, NoForm, LateStart, CallPending, NothingPending, WrongEnd, LateOrder}
use Rattle.log_reader.specs.declared.refusal.Refusal.{Refusal}
use Rattle.log_reader.proofs.FollowLaws.{end_follows, said_fits, unallowed}

-- ---- outcomes

pub on_both : {T E : Type 0} (r : Result T E) (A B C : Type 0) → OnOk r A → OnOk r B → (A → B → C) → OnOk r C
on_both (Ok x) A B C a b f = f a b
on_both (Err e) A B C a b f = tt

pub on_one : {T E : Type 0} (r : Result T E) (A B : Type 0) → OnOk r A → (A → B) → OnOk r B
on_one (Ok x) A B a f = f a
on_one (Err e) A B a f = tt

pub on_any : {T E : Type 0} (r : Result T E) (A : Type 0) → A → OnOk r A
on_any (Ok x) A a = a
on_any (Err e) A a = tt

pub if_error : {T E : Type 0} (r : Result T E) (P Q : E → Type 0) → IfErr r P → ((e : E) → P e → Q e) → IfErr r Q
if_error (Ok x) P Q p f = tt
if_error (Err e) P Q p f = f e p

-- ---- names leave the events

call_events : (log : Log) (call : SaidCall) → (with_call log call).events ≡ log.events
call_events log (write key value) = refl
call_events log (read key) = refl
call_events log (delete key) = refl

pub ending_events : (log : Log) (call : ClientCall) (ending : SaidEnding) → (with_ending log (Some call) ending).events ≡ log.events
ending_events log (ReadOf x) (answer value) = refl
ending_events log (WriteTo x v) (answer value) = refl
ending_events log (DeleteOf x) (answer value) = refl
ending_events log (ReadOf x) nothing = refl
ending_events log (WriteTo x v) nothing = refl
ending_events log (DeleteOf x) nothing = refl
ending_events log (ReadOf x) failed = refl
ending_events log (WriteTo x v) failed = refl
ending_events log (DeleteOf x) failed = refl
ending_events log (ReadOf x) lost = refl
ending_events log (WriteTo x v) lost = refl
ending_events log (DeleteOf x) lost = refl

follows_same : (log mid : Log) (e : Event) → mid.events ≡ log.events → MayFollow mid e → MayFollow log e
follows_same log mid e same follows = subst (λ (es : List Event). IsAllowed (es ++ e ∷ [])) same follows

-- ---- what is added, and what is refused

adds : (n : ℕ) (log : Log) (said : Said) (pending : Option ClientCall) → IsPendingAt log said pending → (event : Event) → event_of log pending said ≡ Some event
    → (mid after : Log) (e : Event) → mid ≡ with_said log pending said → mid.events ≡ log.events → e ≡ event → MayFollow mid e → after ≡ with_event mid n e
    → AddsSaid n log said after
adds n log said pending is_pending event says mid after e mid_is same is follows added = record {
  pending = pending;
  is_pending = is_pending;
  event = event;
  says = says;
  follows = follows_same log mid event same (subst (λ (x : Event). MayFollow mid x) is follows);
  added = added ∙ ap (λ (l : Log). with_event l n e) mid_is ∙ ap (λ (x : Event). with_event (with_said log pending said) n x) is;
}

refuses : (log mid : Log) (said : Said) (n : ℕ) (e event : Event) (reason : Reason) (fault : LogFault) → mid.events ≡ log.events → e ≡ event
    → ((¬ MayFollow log event) → IsUnsaid log said reason) → IsEventFault mid e n reason fault → IsSaidFault log said n fault
refuses log mid said n e event reason (Refused refusal) same is unsaid (refused, never) =
    let none : ¬ MayFollow log event =
    λ follows. unallowed mid e never (follows_same mid log e (sym same) (subst (λ (x : Event). MayFollow log x) (sym is) follows)) in (
      ap (λ (r : Refusal). r.line) refused,
      subst (λ (x : Reason). IsUnsaid log said x) (sym (ap (λ (r : Refusal). r.reason) refused)) (unsaid none),
    )
refuses log mid said n e event reason Memory same is unsaid fault = tt
refuses log mid said n e event reason Read same is unsaid fault = absurd fault

-- the line says an event
added : (n : ℕ) (before : Log) (line : List ℕ) (d : Data) (said : Said) (after : Log) → IsFull line → IsJson line d → said_at d ≡ Some said → AddsSaid n before said after
    → Takes n before line after
added n before line d said after full json form adds = inr (inl (record {
  full = full;
  value = d;
  json = json;
  said = said;
  form = form;
  pending = adds.pending;
  is_pending = adds.is_pending;
  event = adds.event;
  says = adds.says;
  follows = adds.follows;
  added = adds.added;
}))

-- ---- a start

module _ (n : ℕ) (log a mid : Log) (key value : Name) (x v : ℕ) (a_is : a ≡ with_key log key) (mid_is : mid ≡ with_value a value) (x_is : x ≡ key_number log key)
    (v_is : v ≡ value_number a value) where
  start_mid : mid ≡ with_value (with_key log key) value
  start_mid = mid_is ∙ ap (λ (l : Log). with_value l value) a_is

  start_event : Starts x v ≡ Starts (key_number log key) (value_number log value)
  start_event =
      let v_same : v ≡ value_number log value = v_is ∙ ap (λ (l : Log). value_number l value) a_is in
      ap (λ (y : ℕ). Starts y v) x_is ∙ ap (λ (y : ℕ). Starts (key_number log key) y) v_same

  pub start_added : (after : Log) → MayFollow mid (Starts x v) → after ≡ with_event mid n (Starts x v) → AddsSaid n log (start key value) after
  start_added after follows added =
      adds n log (start key value) None refl (Starts (key_number log key) (value_number log value)) refl mid after (Starts x v) start_mid
      (ap (λ (l : Log). l.events) start_mid) start_event follows added

  pub start_refused : (fault : LogFault) → IsEventFault mid (Starts x v) n LateStart fault → IsSaidFault log (start key value) n fault
  start_refused fault refused =
      refuses log mid (start key value) n (Starts x v) (Starts (key_number log key) (value_number log value)) LateStart fault
      (ap (λ (l : Log). l.events) start_mid) start_event (λ none. none) refused

-- ---- a begin

call_same : (log a : Log) (client : Name) (call : SaidCall) → a ≡ with_client log client → call_of a call ≡ call_of log call
call_same log a client (write key value) is = ap (λ (l : Log). call_of l (write key value)) is
call_same log a client (read key) is = ap (λ (l : Log). call_of l (read key)) is
call_same log a client (delete key) is = ap (λ (l : Log). call_of l (delete key)) is

module _ (n : ℕ) (log a mid : Log) (client : Name) (call : SaidCall) (i : ℕ) (called : ClientCall) (a_is : a ≡ with_client log client) (mid_is : mid ≡ with_call a call)
    (i_is : i ≡ client_number log client) (called_is : called ≡ call_of a call) where
  begin_mid : mid ≡ with_call (with_client log client) call
  begin_mid = mid_is ∙ ap (λ (l : Log). with_call l call) a_is

  begin_events : mid.events ≡ log.events
  begin_events = ap (λ (l : Log). l.events) begin_mid ∙ call_events (with_client log client) call

  begin_event : Begins i called ≡ Begins (client_number log client) (call_of log call)
  begin_event =
      ap (λ (y : ℕ). Begins y called) i_is ∙ ap (λ (y : ClientCall). Begins (client_number log client) y) (called_is ∙ call_same log a client call a_is)

  pub begin_added : (after : Log) → MayFollow mid (Begins i called) → after ≡ with_event mid n (Begins i called) → AddsSaid n log (begin client call) after
  begin_added after follows added =
      adds n log (begin client call) None refl (Begins (client_number log client) (call_of log call)) refl mid after (Begins i called) begin_mid begin_events begin_event
      follows added

  pub begin_refused : (fault : LogFault) → IsEventFault mid (Begins i called) n CallPending fault → IsSaidFault log (begin client call) n fault
  begin_refused fault refused =
      refuses log mid (begin client call) n (Begins i called) (Begins (client_number log client) (call_of log call)) CallPending fault begin_events begin_event
      (λ none. none) refused

-- ---- an end

-- a call that is pending is not refused what fits it
pub ending_refused : (log mid : Log) (client : ℕ) (call : ClientCall) (said : SaidEnding) (n : ℕ) (e : Ending) (fault : LogFault) → IsPending log.events client (Some call)
    → ending_of log call said ≡ Some e → mid ≡ with_ending log (Some call) said → IsEventFault mid (Ends client e) n WrongEnd fault → IsEndingFault log call said n fault
ending_refused log mid client call said n e (Refused refusal) pending is mid_is (refused, never) =
    let same : mid.events ≡ log.events = ap (λ (l : Log). l.events) mid_is ∙ ending_events log call said in
    let follows = end_follows log client call e pending (said_fits log call said e is) in
    absurd (never (subst (λ (es : List Event). MayStand (es ++ Ends client e ∷ []) (length es) (Ends client e)) (sym same) follows))
ending_refused log mid client call said n e Memory pending is mid_is fault = tt
ending_refused log mid client call said n e Read pending is mid_is fault = absurd fault

-- and ends by it
pub ending_ended : (n : ℕ) (log mid : Log) (client : ℕ) (call : ClientCall) (said : SaidEnding) (e : Ending) → ending_of log call said ≡ Some e
    → mid ≡ with_ending log (Some call) said → (after : Log) → MayFollow mid (Ends client e) → after ≡ with_event mid n (Ends client e) → EndsCall n log client call said after
ending_ended n log mid client call said e is mid_is after follows added = (
  e,
  is,
  follows_same log mid (Ends client e) (ap (λ (l : Log). l.events) mid_is ∙ ending_events log call said) follows,
  added ∙ ap (λ (l : Log). with_event l n (Ends client e)) mid_is,
)

ending_same : (log a : Log) (client : Name) (call : ClientCall) (said : SaidEnding) → a ≡ with_client log client → ending_of a call said ≡ ending_of (with_client log client) call said
ending_same log a client call said is = ap (λ (l : Log). ending_of l call said) is

client_ending : (log : Log) (client : Name) (call : ClientCall) (said : SaidEnding) → ending_of (with_client log client) call said ≡ ending_of log call said
client_ending log client (ReadOf x) (answer value) = refl
client_ending log client (WriteTo x v) (answer value) = refl
client_ending log client (DeleteOf x) (answer value) = refl
client_ending log client (ReadOf x) nothing = refl
client_ending log client (WriteTo x v) nothing = refl
client_ending log client (DeleteOf x) nothing = refl
client_ending log client (ReadOf x) failed = refl
client_ending log client (WriteTo x v) failed = refl
client_ending log client (DeleteOf x) failed = refl
client_ending log client (ReadOf x) lost = refl
client_ending log client (WriteTo x v) lost = refl
client_ending log client (DeleteOf x) lost = refl

module _ (n : ℕ) (log a : Log) (client : Name) (i : ℕ) (call : ClientCall) (said : SaidEnding) (a_is : a ≡ with_client log client) (i_is : i ≡ client_number log client)
    (pending : IsPending a.events i (Some call)) where
  end_pending : IsPending log.events (client_number log client) (Some call)
  end_pending =
      subst (λ (j : ℕ). IsPending log.events j (Some call)) i_is (subst (λ (es : List Event). IsPending es i (Some call)) (ap (λ (l : Log). l.events) a_is) pending)

  pub end_added : (after : Log) → EndsCall n a i call said after → AddsSaid n log (end client said) after
  end_added after (e, is, follows, added) =
      let ends : ending_of log call said ≡ Some e = sym (client_ending log client call said) ∙ sym (ending_same log a client call said a_is) ∙ is in
      let mid : Log = with_ending a (Some call) said in
      let mid_is : mid ≡ with_ending (with_client log client) (Some call) said = ap (λ (l : Log). with_ending l (Some call) said) a_is in
      let same : mid.events ≡ log.events = ending_events a call said ∙ ap (λ (l : Log). l.events) a_is in
      let event : Ends i e ≡ Ends (client_number log client) e = ap (λ (j : ℕ). Ends j e) i_is in
      let says : event_of log (Some call) (end client said) ≡ Some (Ends (client_number log client) e) = ap (option_map (Ends (client_number log client))) ends in
      let may : MayFollow mid (Ends i e) = subst (λ (es : List Event). IsAllowed (es ++ Ends i e ∷ [])) (sym (ending_events a call said)) follows in
      adds n log (end client said) (Some call) end_pending (Ends (client_number log client) e) says mid after (Ends i e) mid_is same event may added

  pub end_refused : (fault : LogFault) → IsEndingFault a call said n fault → IsSaidFault log (end client said) n fault
  end_refused (Refused refusal) (refused, none) =
      let never : ending_of log call said ≡ None = sym (client_ending log client call said) ∙ sym (ending_same log a client call said a_is) ∙ none in (
        ap (λ (r : Refusal). r.line) refused,
        subst (λ (x : Reason). IsUnsaid log (end client said) x) (sym (ap (λ (r : Refusal). r.reason) refused)) (call, end_pending, never),
      )
  end_refused Memory fault = tt
  end_refused Read fault = absurd fault

-- ---- what a line says

pub takes_said : (n : ℕ) (before : Log) (line : List ℕ) (d : Data) (said : Said) (after : Log) → IsFull line → IsJson line d → said_at d ≡ Some said
    → TakesSaid n before said after → Takes n before line after
takes_said n before line d (start key value) after full json form adds = added n before line d (start key value) after full json form adds
takes_said n before line d (begin client call) after full json form adds = added n before line d (begin client call) after full json form adds
takes_said n before line d (end client ending) after full json form adds = added n before line d (end client ending) after full json form adds
takes_said n before line d ordered after full json form adds =
    inr (inr (record { full = full; value = d; json = json; form = form; follows = adds.follows; added = adds.added }))

pub takes_value : (n : ℕ) (before : Log) (line : List ℕ) (d : Data) (after : Log) → IsFull line → IsJson line d → TakesValue n before d after → Takes n before line after
takes_value n before line d after full json (said, form, takes) = takes_said n before line d said after full json form takes

-- the reasons for which what is said does not follow
abbrev IsOfSaid : Reason → Type 0
IsOfSaid TooLong = ⊥
IsOfSaid NotJson = ⊥
IsOfSaid NoForm = ⊥
IsOfSaid reason = ⊤

of_said : (log : Log) (said : Said) (reason : Reason) → IsUnsaid log said reason → IsOfSaid reason
of_said log (start key value) LateStart is = tt
of_said log (start key value) reason is = absurd is
of_said log (begin client call) CallPending is = tt
of_said log (begin client call) reason is = absurd is
of_said log (end client ending) NothingPending is = tt
of_said log (end client ending) WrongEnd is = tt
of_said log (end client ending) reason is = absurd is
of_said log ordered LateOrder is = tt
of_said log ordered reason is = absurd is

value_unsaid : (log : Log) (d : Data) (said : Said) (reason : Reason) → said_at d ≡ Some said → IsUnsaid log said reason → IsOfSaid reason → IsValueRefused log d reason
value_unsaid log d said NoForm form is of = absurd of
value_unsaid log d said reason form is of = (said, form, is)

line_unsaid : (log : Log) (line : List ℕ) (d : Data) (said : Said) (reason : Reason) → IsFull line → IsJson line d → said_at d ≡ Some said → IsUnsaid log said reason
    → IsOfSaid reason → IsRefused log line reason
line_unsaid log line d said TooLong full json form is of = absurd of
line_unsaid log line d said NotJson full json form is of = absurd of
line_unsaid log line d said NoForm full json form is of = absurd of
line_unsaid log line d said reason full json form is of = (full, (d, said, json, form, is))

pub value_refused : (log : Log) (d : Data) (said : Said) (n : ℕ) (fault : LogFault) → said_at d ≡ Some said → IsSaidFault log said n fault → IsValueFault log d n fault
value_refused log d said n (Refused refusal) form (number, is) =
    (number, value_unsaid log d said refusal.reason form is (of_said log said refusal.reason is))
value_refused log d said n Memory form fault = tt
value_refused log d said n Read form fault = absurd fault

pub line_refused : (log : Log) (line : List ℕ) (d : Data) (said : Said) (n : ℕ) (fault : LogFault) → IsFull line → IsJson line d → said_at d ≡ Some said → IsSaidFault log said n fault
    → IsLineFault log line n fault
line_refused log line d said n (Refused refusal) full json form (number, is) =
    (number, line_unsaid log line d said refusal.reason full json form is (of_said log said refusal.reason is))
line_refused log line d said n Memory full json form fault = tt
line_refused log line d said n Read full json form fault = absurd fault

-- ---- at most one event more

pub said_events : (log : Log) (pending : Option ClientCall) (said : Said) → (with_said log pending said).events ≡ log.events
said_events log pending (start key value) = refl
said_events log pending (begin client call) = call_events (with_client log client) call
said_events log (Some call) (end client said) = ending_events (with_client log client) call said
said_events log None (end client (answer value)) = refl
said_events log None (end client nothing) = refl
said_events log None (end client failed) = refl
said_events log None (end client lost) = refl
said_events log pending ordered = refl

pub takes_few : (n : ℕ) (before : Log) (line : List ℕ) (after : Log) → Takes n before line after → length after.events ≤ length before.events + 1
takes_few n before line after (inl blank) = let same = ap (λ (l : Log). length l.events) blank.2 in omega (arith, same)
takes_few n before line after (inr (inr says)) = let same = ap (λ (l : Log). length l.events) says.added in omega (arith, same)
takes_few n before line after (inr (inl adds)) =
    let same : after.events ≡ before.events ++ adds.event ∷ [] =
    ap (λ (l : Log). l.events) adds.added ∙ ap (λ (es : List Event). es ++ adds.event ∷ []) (said_events before adds.pending adds.said) in
    omega (arith, ap length same, length_push before.events adds.event)

pub ends_few : (n : ℕ) (before : Log) (line : List ℕ) (torn : Bool) (after : Log) → EndsBy n before line torn after → length after.events ≤ length before.events + 1
ends_few n before line true after (torn, same) = omega (arith, ap (λ (l : Log). length l.events) same)
ends_few n before line false after takes = takes_few n before line after takes
