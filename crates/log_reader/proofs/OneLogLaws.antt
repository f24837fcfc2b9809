-- A text has one log, or is refused at one line for one reason.
use Rattle.std.proofs.Common.{◌≡◌, ◌≢◌, ◌⊎◌, ◌<◌, ◌≤◌, ◌+◌, inl, inr, ℕ, suc, Bool, true, false, List, [], ◌∷◌, ◌++◌, length, slice_get, Option, Some, None, refl, sym, ap, subst, ◌∙◌, arith, append_assoc}
use Rattle.std.specs.List.{All}
use Rattle.std.proofs.lemmas.Bool.{cases_lt}
use Rattle.std.specs.Prelude.{option_map}
use Rattle.std.proofs.lemmas.List.{append-nil}
use Rattle.std.proofs.lemmas.List.Elements.{All-head, All-tail}
use Rattle.json_bounded.specs.Text.{IsJson}
use Rattle.serde_json.specs.Data.{Data}
use Rattle.log_events.specs.Events.{IsAllowed, IsAt, IsOpen}
use Rattle.log_events.specs.declared.event.ClientCall.{ClientCall}
use Rattle.log_events.specs.declared.event.Event.{Event}
use Rattle.log_events.specs.declared.event.Event.TheVariants.{Starts, Begins, Ends}
use Rattle.log_reader.specs.Forms.{Said, SaidCall, SaidEnding, start, begin, end, ordered, said_at}
use Rattle.log_reader.specs.Logs.{AddsEvent, BeginsBy, EndsBy, EndsLine, Follow, IsFree, IsFull, IsLogOf, IsNoJson, IsPending, IsPendingAt, IsRefused, IsRefusedLog, IsTorn, IsUnsaid, Log, MayFollow, MayOrder, SaysOrder, Takes, client_number, call_of, ending_of, ended_lines, event_of, key_number, no_log, value_number, with_event, with_said}
use Rattle.log_reader.proofs.TakeLaws.{said_events}
use Rattle.log_reader.specs.declared.limits.TheConstants.{MAX_LINE_BYTES}
use Rattle.log_reader.specs.declared.refusal.Reason.{Reason}
use Rattle.log_reader.specs.declared.refusal.Reason.TheVariants.{NotJson, TooLong, NoForm, LateStart, CallPending, NothingPending, WrongEnd, LateOrder}
use Rattle.log_reader.specs.declared.refusal.Refusal.{Refusal}

-- ---- a client has one pending call

event_known : (e f : Event) (a b : Option Event) → a ≡ Some e → b ≡ Some f → a ≡ b → e ≡ f
event_known e f a b one other same = cc

module _ (es : List Event) (allowed : IsAllowed es) (client : ℕ) where
  -- two that are open began at one place: the later one could not begin
  earlier_open : (call other : ClientCall) (i j n : ℕ) → IsOpen es client call i n → IsOpen es client other j n → i < j → ⊥
  earlier_open call other i j n first second less =
      let still : IsOpen es client call i j = record {
        begun = first.begun;
        earlier = less;
        unended = λ k ending above below. first.unended k ending above (let high = second.earlier in omega arith);
      } in
      allowed j (Begins client other) second.begun i call still

  same_open : (call other : ClientCall) (i j n : ℕ) → IsOpen es client call i n → IsOpen es client other j n → i ≡ j
  same_open call other i j n first second =
      elim (cases_lt i j) [
        | inl less ↦ absurd (earlier_open call other i j n first second less)
        | inr rest ↦ elim (cases_lt j i) [
          | inl less ↦ absurd (earlier_open other call j i n second first less)
          | inr more ↦ omega arith
        ]
      ]

  same_begin : (call other : ClientCall) (i j : ℕ) → i ≡ j → IsAt es i (Begins client call) → IsAt es j (Begins client other) → call ≡ other
  same_begin call other i j is first second =
      let same : slice_get es i ≡ slice_get es j = ap (slice_get es) is in
      let e : Begins client call ≡ Begins client other = event_known _ _ _ _ first second same in
      cc

  one_pending : (p q : Option ClientCall) → IsPending es client p → IsPending es client q → p ≡ q
  one_pending None None first second = refl
  one_pending None (Some call) first (i, was) = absurd (first i call was)
  one_pending (Some call) None (i, was) second = absurd (second i call was)
  one_pending (Some call) (Some other) (i, first) (j, second) =
      ap (λ (x : ClientCall). Some x) (same_begin call other i j (same_open call other i j (length es) first second) first.begun second.begun)

-- ---- a line does one thing

one_value : (line : List ℕ) (d e : Data) → IsJson line d → IsJson line e → d ≡ e
one_value line d e first second = let a = first.1 in let b = second.1 in cc

pending_same : (log : Log) → IsAllowed log.events → (said other : Said) (p q : Option ClientCall) → said ≡ other → IsPendingAt log said p → IsPendingAt log other q → p ≡ q
pending_same log allowed said other p q is first second = by said p q first (subst (λ (s : Said). IsPendingAt log s q) (sym is) second)
  where
    by : (s : Said) (p q : Option ClientCall) → IsPendingAt log s p → IsPendingAt log s q → p ≡ q
    by (start key value) p q first second = first ∙ sym second
    by (begin client call) p q first second = first ∙ sym second
    by (end client ending) p q first second = one_pending log.events allowed (client_number log client) p q first second
    by ordered p q first second = first ∙ sym second

said_same : (d e : Data) (said other : Said) → d ≡ e → said_at d ≡ Some said → said_at e ≡ Some other → said ≡ other
said_same d e said other is first second =
    let same : said_at d ≡ said_at e = ap said_at is in cc

known_same : (e f : Event) (a b : Option Event) → a ≡ b → a ≡ Some e → b ≡ Some f → e ≡ f
known_same e f a b same first second = cc

adds_same : (n : ℕ) (log : Log) (line : List ℕ) (a b : Log) → IsAllowed log.events → AddsEvent n log line a → AddsEvent n log line b → a ≡ b
adds_same n log line a b allowed first second =
    let value : first.value ≡ second.value = one_value line first.value second.value first.json second.json in
    let said : first.said ≡ second.said = said_same first.value second.value first.said second.said value first.form second.form in
    let pending : first.pending ≡ second.pending =
    pending_same log allowed first.said second.said first.pending second.pending said first.is_pending second.is_pending in
    let both : event_of log first.pending first.said ≡ event_of log second.pending second.said =
    ap (λ (p : Option ClientCall). event_of log p first.said) pending ∙ ap (λ (s : Said). event_of log second.pending s) said in
    let event : first.event ≡ second.event = known_same first.event second.event _ _ both first.says second.says in
    first.added ∙ ap (λ (p : Option ClientCall). with_event (with_said log p first.said) n first.event) pending
    ∙ ap (λ (s : Said). with_event (with_said log second.pending s) n first.event) said
    ∙ ap (λ (e : Event). with_event (with_said log second.pending second.said) n e) event ∙ sym second.added

-- the order of time is no event
no_event : (log : Log) (pending : Option ClientCall) (event : Event) → event_of log pending ordered ≡ Some event → ⊥
no_event log pending event is = absurd cc

pub order_clash : (n : ℕ) (log : Log) (line : List ℕ) (a b : Log) → AddsEvent n log line a → SaysOrder log line b → ⊥
order_clash n log line a b adds says =
    let said : adds.said ≡ ordered = said_same adds.value says.value adds.said ordered (one_value line adds.value says.value adds.json says.json) adds.form says.form in
    no_event log adds.pending adds.event (subst (λ (s : Said). event_of log adds.pending s ≡ Some adds.event) said adds.says)

pub takes_same : (n : ℕ) (log : Log) (line : List ℕ) (a b : Log) → IsAllowed log.events → Takes n log line a → Takes n log line b → a ≡ b
takes_same n log line a b allowed (inl first) (inl second) = first.2 ∙ sym second.2
takes_same n log line a b allowed (inl first) (inr (inl second)) = let f = first.1 in let s = second.full.1 in absurd cc
takes_same n log line a b allowed (inl first) (inr (inr second)) = let f = first.1 in let s = second.full.1 in absurd cc
takes_same n log line a b allowed (inr (inl first)) (inl second) = let f = first.full.1 in let s = second.1 in absurd cc
takes_same n log line a b allowed (inr (inr first)) (inl second) = let f = first.full.1 in let s = second.1 in absurd cc
takes_same n log line a b allowed (inr (inl first)) (inr (inl second)) = adds_same n log line a b allowed first second
takes_same n log line a b allowed (inr (inl first)) (inr (inr second)) = absurd (order_clash n log line a b first second)
takes_same n log line a b allowed (inr (inr first)) (inr (inl second)) = absurd (order_clash n log line b a second first)
takes_same n log line a b allowed (inr (inr first)) (inr (inr second)) = first.added ∙ sym second.added

-- the events stay a log
takes_allowed : (n : ℕ) (log : Log) (line : List ℕ) (after : Log) → IsAllowed log.events → Takes n log line after → IsAllowed after.events
takes_allowed n log line after allowed (inl blank) = subst (λ (l : Log). IsAllowed l.events) (sym blank.2) allowed
takes_allowed n log line after allowed (inr (inr says)) = subst (λ (l : Log). IsAllowed l.events) (sym says.added) allowed
takes_allowed n log line after allowed (inr (inl adds)) =
    let same : after.events ≡ log.events ++ adds.event ∷ [] =
    ap (λ (l : Log). l.events) adds.added ∙ ap (λ (es : List Event). es ++ adds.event ∷ []) (said_events log adds.pending adds.said) in
    subst (λ (es : List Event). IsAllowed es) (sym same) adds.follows

none_allowed : IsAllowed []
none_allowed j e at = absurd cc

-- ---- a line that is taken is not refused

full_taken : (n : ℕ) (log : Log) (line : List ℕ) (after : Log) → Takes n log line after → length line ≤ MAX_LINE_BYTES
full_taken n log line after (inl blank) = blank.0
full_taken n log line after (inr (inl adds)) = adds.full.0
full_taken n log line after (inr (inr says)) = says.full.0

taken_full : (n : ℕ) (log : Log) (line : List ℕ) (after : Log) → Takes n log line after → IsFull line → AddsEvent n log line after ⊎ SaysOrder log line after
taken_full n log line after (inl blank) full = let b = blank.1 in let f = full.1 in absurd cc
taken_full n log line after (inr says) full = says

taken_json : (n : ℕ) (log : Log) (line : List ℕ) (after : Log) → Takes n log line after → IsFull line → (d : Data) × IsJson line d
taken_json n log line after (inl blank) full = let b = blank.1 in let f = full.1 in absurd cc
taken_json n log line after (inr (inl adds)) full = (adds.value, adds.json)
taken_json n log line after (inr (inr says)) full = (says.value, says.json)

-- what is said and follows is not refused
said_clash : (log : Log) (said : Said) (pending : Option ClientCall) (event : Event) (reason : Reason) → IsAllowed log.events → IsPendingAt log said pending
    → event_of log pending said ≡ Some event → MayFollow log event → IsUnsaid log said reason → ⊥
said_clash log (start key value) pending event LateStart allowed is_pending says follows unsaid =
    let e : event ≡ Starts (key_number log key) (value_number log value) = cc in unsaid (subst (λ (x : Event). MayFollow log x) e follows)
said_clash log (begin client call) pending event CallPending allowed is_pending says follows unsaid =
    let e : event ≡ Begins (client_number log client) (call_of log call) = cc in unsaid (subst (λ (x : Event). MayFollow log x) e follows)
said_clash log (end client ending) None event NothingPending allowed is_pending says follows unsaid = absurd cc
said_clash log (end client ending) (Some call) event NothingPending allowed is_pending says follows unsaid = unsaid is_pending.0 call is_pending.1
said_clash log (end client ending) None event WrongEnd allowed is_pending says follows unsaid = absurd cc
said_clash log (end client ending) (Some call) event WrongEnd allowed is_pending says follows (other, other_pending, none) =
    let same : Some call ≡ Some other = one_pending log.events allowed (client_number log client) (Some call) (Some other) is_pending other_pending in
    let one : call ≡ other = cc in
    let never : ending_of log call ending ≡ None = ap (λ (x : ClientCall). ending_of log x ending) one ∙ none in
    let nothing_said : event_of log (Some call) (end client ending) ≡ None = ap (option_map (Ends (client_number log client))) never in
    absurd cc
said_clash log ordered pending event LateOrder allowed is_pending says follows unsaid = absurd (no_event log pending event says)
said_clash log said pending event reason allowed is_pending says follows unsaid = absurd unsaid

-- why a line is refused, by what it has in it
data Why (log : Log) (line : List ℕ) (reason : Reason) : Type 0 where
  too_long : MAX_LINE_BYTES < length line → reason ≡ TooLong → Why log line reason
  no_json : IsFull line → IsNoJson line → reason ≡ NotJson → Why log line reason
  no_form : IsFull line → (d : Data) → IsJson line d → said_at d ≡ None → reason ≡ NoForm → Why log line reason
  unsaid : IsFull line → (d : Data) → (said : Said) → IsJson line d → said_at d ≡ Some said → IsUnsaid log said reason → Why log line reason

why : (log : Log) (line : List ℕ) (reason : Reason) → IsRefused log line reason → Why log line reason
why log line TooLong long = too_long long refl
why log line NotJson (full, none) = no_json full none refl
why log line NoForm (full, (d, json, none)) = no_form full d json none refl
why log line LateStart (full, (d, said, json, form, is)) = unsaid full d said json form is
why log line CallPending (full, (d, said, json, form, is)) = unsaid full d said json form is
why log line NothingPending (full, (d, said, json, form, is)) = unsaid full d said json form is
why log line WrongEnd (full, (d, said, json, form, is)) = unsaid full d said json form is
why log line LateOrder (full, (d, said, json, form, is)) = unsaid full d said json form is

adds_clash : (n : ℕ) (log : Log) (line : List ℕ) (after : Log) (reason : Reason) → IsAllowed log.events → AddsEvent n log line after → Why log line reason → ⊥
adds_clash n log line after reason allowed adds (too_long long is) = let few = adds.full.0 in omega arith
adds_clash n log line after reason allowed adds (no_json full none is) = none adds.value adds.json
adds_clash n log line after reason allowed adds (no_form full d json none is) =
    let same : said_at d ≡ said_at adds.value = ap said_at (one_value line d adds.value json adds.json) in
    let form = adds.form in absurd cc
adds_clash n log line after reason allowed adds (unsaid full d said json form is) =
    let same : said ≡ adds.said = said_same d adds.value said adds.said (one_value line d adds.value json adds.json) form adds.form in
    said_clash log adds.said adds.pending adds.event reason allowed adds.is_pending adds.says adds.follows (subst (λ (s : Said). IsUnsaid log s reason) same is)

late_order : (log : Log) (reason : Reason) → IsUnsaid log ordered reason → (reason ≡ LateOrder) × (¬ MayOrder log)
late_order log LateOrder is = (refl, is)
late_order log reason is = absurd is

says_clash : (log : Log) (line : List ℕ) (after : Log) (reason : Reason) → SaysOrder log line after → Why log line reason → ⊥
says_clash log line after reason says (too_long long is) = let few = says.full.0 in omega arith
says_clash log line after reason says (no_json full none is) = none says.value says.json
says_clash log line after reason says (no_form full d json none is) =
    let same : said_at d ≡ said_at says.value = ap said_at (one_value line d says.value json says.json) in
    let form = says.form in absurd cc
says_clash log line after reason says (unsaid full d said json form is) =
    let same : said ≡ ordered = said_same d says.value said ordered (one_value line d says.value json says.json) form says.form in
    (late_order log reason (subst (λ (s : Said). IsUnsaid log s reason) same is)).1 says.follows

taken_clash : (n : ℕ) (log : Log) (line : List ℕ) (after : Log) (reason : Reason) → IsAllowed log.events → AddsEvent n log line after ⊎ SaysOrder log line after
    → Why log line reason → ⊥
taken_clash n log line after reason allowed (inl adds) found = adds_clash n log line after reason allowed adds found
taken_clash n log line after reason allowed (inr says) found = says_clash log line after reason says found

full_why : (log : Log) (line : List ℕ) (reason : Reason) → Why log line reason → (MAX_LINE_BYTES < length line) ⊎ IsFull line
full_why log line reason (too_long long is) = inl long
full_why log line reason (no_json full none is) = inr full
full_why log line reason (no_form full d json none is) = inr full
full_why log line reason (unsaid full d said json form is) = inr full

takes_clash : (n : ℕ) (log : Log) (line : List ℕ) (after : Log) (reason : Reason) → IsAllowed log.events → Takes n log line after → IsRefused log line reason → ⊥
takes_clash n log line after reason allowed takes refused =
    let found = why log line reason refused in
    elim (full_why log line reason found) [
      | inl long ↦ let few = full_taken n log line after takes in omega arith
      | inr full ↦ taken_clash n log line after reason allowed (taken_full n log line after takes full) found
    ]

-- ---- a line is refused for one reason

late_start : (log : Log) (key value : List ℕ) (reason : Reason) → IsUnsaid log (start key value) reason → reason ≡ LateStart
late_start log key value LateStart is = refl
late_start log key value reason is = absurd is

call_pending : (log : Log) (client : List ℕ) (call : SaidCall) (reason : Reason) → IsUnsaid log (begin client call) reason → reason ≡ CallPending
call_pending log client call CallPending is = refl
call_pending log client call reason is = absurd is

data WhyEnd (log : Log) (client : List ℕ) (ending : SaidEnding) (reason : Reason) : Type 0 where
  nothing_pending : IsPending log.events (client_number log client) None → reason ≡ NothingPending → WhyEnd log client ending reason
  wrong_end : (call : ClientCall) → IsPending log.events (client_number log client) (Some call) → reason ≡ WrongEnd → WhyEnd log client ending reason

why_end : (log : Log) (client : List ℕ) (ending : SaidEnding) (reason : Reason) → IsUnsaid log (end client ending) reason → WhyEnd log client ending reason
why_end log client ending NothingPending is = nothing_pending is refl
why_end log client ending WrongEnd (call, pending, none) = wrong_end call pending refl
why_end log client ending reason is = absurd is

same_end : (log : Log) (client : List ℕ) (ending : SaidEnding) (r s : Reason) → WhyEnd log client ending r → WhyEnd log client ending s → r ≡ s
same_end log client ending r s (nothing_pending none is) (nothing_pending other as_is) = is ∙ sym as_is
same_end log client ending r s (nothing_pending none is) (wrong_end call (i, was) as_is) = absurd (none i call was)
same_end log client ending r s (wrong_end call (i, was) is) (nothing_pending none as_is) = absurd (none i call was)
same_end log client ending r s (wrong_end call was is) (wrong_end other also as_is) = is ∙ sym as_is

same_unsaid : (log : Log) (said : Said) (r s : Reason) → IsUnsaid log said r → IsUnsaid log said s → r ≡ s
same_unsaid log (start key value) r s first second = late_start log key value r first ∙ sym (late_start log key value s second)
same_unsaid log (begin client call) r s first second = call_pending log client call r first ∙ sym (call_pending log client call s second)
same_unsaid log (end client ending) r s first second = same_end log client ending r s (why_end log client ending r first) (why_end log client ending s second)
same_unsaid log ordered r s first second = (late_order log r first).0 ∙ sym (late_order log s second).0

json_why : (log : Log) (line : List ℕ) (r s : Reason) (d e : Data) → IsJson line d → IsJson line e → said_at d ≡ None → (said : Said) → said_at e ≡ Some said → r ≡ s
json_why log line r s d e json other none said form =
    let same : said_at d ≡ said_at e = ap said_at (one_value line d e json other) in absurd cc

same_why : (log : Log) (line : List ℕ) (r s : Reason) → Why log line r → Why log line s → r ≡ s
same_why log line r s (too_long long is) (too_long more other) = is ∙ sym other
same_why log line r s (too_long long is) (no_json full none other) = let few = full.0 in absurd (omega arith)
same_why log line r s (too_long long is) (no_form full d json none other) = let few = full.0 in absurd (omega arith)
same_why log line r s (too_long long is) (unsaid full d said json form other) = let few = full.0 in absurd (omega arith)
same_why log line r s (no_json full none is) (too_long long other) = let few = full.0 in absurd (omega arith)
same_why log line r s (no_json full none is) (no_json more also other) = is ∙ sym other
same_why log line r s (no_json full none is) (no_form more d json absent other) = absurd (none d json)
same_why log line r s (no_json full none is) (unsaid more d said json form other) = absurd (none d json)
same_why log line r s (no_form full d json none is) (too_long long other) = let few = full.0 in absurd (omega arith)
same_why log line r s (no_form full d json none is) (no_json more never other) = absurd (never d json)
same_why log line r s (no_form full d json none is) (no_form more e also absent other) = is ∙ sym other
same_why log line r s (no_form full d json none is) (unsaid more e said also form other) = json_why log line r s d e json also none said form
same_why log line r s (unsaid full d said json form is) (too_long long other) = let few = full.0 in absurd (omega arith)
same_why log line r s (unsaid full d said json form is) (no_json more none other) = absurd (none d json)
same_why log line r s (unsaid full d said json form is) (no_form more e also none other) = sym (json_why log line s r e d also json none said form)
same_why log line r s (unsaid full d said json form is) (unsaid more e spoken also as_form other) =
    let same : spoken ≡ said = said_same e d spoken said (one_value line e d also json) as_form form in
    same_unsaid log said r s is (subst (λ (x : Said). IsUnsaid log x s) same other)

-- ---- where lines end

feed_clash : (b : ℕ) (rest : List ℕ) → IsFree (b ∷ rest) → b ≡ 10 → ⊥
feed_clash b rest free is = All-head (λ c. c ≢ 10) b rest free is

no_feed : (line rest : List ℕ) → IsFree (line ++ 10 ∷ rest) → ⊥
no_feed [] rest free = feed_clash 10 rest free refl
no_feed (b ∷ line) rest free = no_feed line rest (All-tail (λ c. c ≢ 10) b (line ++ 10 ∷ rest) free)

pub free_clash : (s line rest : List ℕ) → IsFree s → s ≡ line ++ 10 ∷ rest → ⊥
free_clash s line rest free is = no_feed line rest (subst IsFree is free)

cons_head : (b c : ℕ) (x y : List ℕ) → b ∷ x ≡ c ∷ y → b ≡ c
cons_head b c x y is = cc

cons_tail : (b c : ℕ) (x y : List ℕ) → b ∷ x ≡ c ∷ y → x ≡ y
cons_tail b c x y is = cc

pub same_line : (l m x y : List ℕ) → IsFree l → IsFree m → l ++ 10 ∷ x ≡ m ++ 10 ∷ y → (l ≡ m) × (x ≡ y)
same_line [] [] x y free other is = (refl, cons_tail 10 10 x y is)
same_line [] (c ∷ m) x y free other is = absurd (feed_clash c m other (sym (cons_head 10 c x (m ++ 10 ∷ y) is)))
same_line (b ∷ l) [] x y free other is = absurd (feed_clash b l free (cons_head b 10 (l ++ 10 ∷ x) y is))
same_line (b ∷ l) (c ∷ m) x y free other is =
    let head : b ≡ c = cons_head b c (l ++ 10 ∷ x) (m ++ 10 ∷ y) is in
    let tail = same_line l m x y (All-tail (λ d. d ≢ 10) b l free) (All-tail (λ d. d ≢ 10) c m other) (cons_tail b c (l ++ 10 ∷ x) (m ++ 10 ∷ y) is) in
    (ap (λ (d : ℕ). d ∷ l) head ∙ ap (λ (z : List ℕ). c ∷ z) tail.0, tail.1)

-- the first line of what is left
first_same : (l m x y : List ℕ) (r s : Reason) → IsFree l → IsFree m → EndsLine r x → EndsLine s y → l ++ x ≡ m ++ y → l ≡ m
first_same l m [] [] r s free other ends also is = sym (append-nil l) ∙ is ∙ append-nil m
first_same l m [] (c ∷ y) r s free other ends also is =
    absurd (free_clash l m y free (sym (append-nil l) ∙ is ∙ ap (λ (d : ℕ). m ++ d ∷ y) also))
first_same l m (b ∷ x) [] r s free other ends also is =
    absurd (free_clash m l x other (sym (append-nil m) ∙ sym is ∙ ap (λ (d : ℕ). l ++ d ∷ x) ends))
first_same l m (b ∷ x) (c ∷ y) r s free other ends also is =
    (same_line l m x y free other (sym (ap (λ (d : ℕ). l ++ d ∷ x) ends) ∙ is ∙ ap (λ (d : ℕ). m ++ d ∷ y) also)).0

-- ---- two readings of a text

-- a line and its line feed come next, and take the log on
record Later (log : Log) (tail : List ℕ) : Type 0 where
  number : ℕ
  line : List ℕ
  rest : List ℕ
  after : Log
  allowed : IsAllowed log.events
  whole : tail ≡ line ++ 10 ∷ rest
  free : IsFree line
  takes : Takes number log line after

data Compared (ls ms : List (List ℕ)) (a b : Log) (x y : List ℕ) : Type 0 where
  as_many : length ls ≡ length ms → IsAllowed a.events → a ≡ b → x ≡ y → Compared ls ms a b x y
  first_ends : Later a x → Compared ls ms a b x y
  second_ends : Later b y → Compared ls ms a b x y

one_more : (l m : List ℕ) (ls ms : List (List ℕ)) (a b : Log) (x y : List ℕ) → Compared ls ms a b x y → Compared (l ∷ ls) (m ∷ ms) a b x y
one_more l m ls ms a b x y (as_many count allowed log rest) = as_many (ap suc count) allowed log rest
one_more l m ls ms a b x y (first_ends later) = first_ends later
one_more l m ls ms a b x y (second_ends later) = second_ends later

compare : (n : ℕ) (log : Log) → IsAllowed log.events → (ls ms : List (List ℕ)) (a b : Log) (x y : List ℕ) → Follow n log ls a → Follow n log ms b → All IsFree ls → All IsFree ms
    → ended_lines ls ++ x ≡ ended_lines ms ++ y → Compared ls ms a b x y
unfolding Follow
compare n log allowed [] [] a b x y first second free other is = as_many refl (subst (λ (l : Log). IsAllowed l.events) (sym first) allowed) (first ∙ sym second) is
compare n log allowed [] (m ∷ ms) a b x y first (mid, takes, follow) free other is =
    first_ends (subst (λ (l : Log). Later l x) (sym first) (record {
      number = n;
      line = m;
      rest = ended_lines ms ++ y;
      after = mid;
      allowed = allowed;
      whole = is ∙ append_assoc m (10 ∷ ended_lines ms) y;
      free = All-head IsFree m ms other;
      takes = takes;
    }))
compare n log allowed (l ∷ ls) [] a b x y (mid, takes, follow) second free other is =
    second_ends (subst (λ (k : Log). Later k y) (sym second) (record {
      number = n;
      line = l;
      rest = ended_lines ls ++ x;
      after = mid;
      allowed = allowed;
      whole = sym is ∙ append_assoc l (10 ∷ ended_lines ls) x;
      free = All-head IsFree l ls free;
      takes = takes;
    }))
compare n log allowed (l ∷ ls) (m ∷ ms) a b x y (mid, takes, follow) (also, takes_too, follows_too) free other is =
    let whole : l ++ 10 ∷ (ended_lines ls ++ x) ≡ m ++ 10 ∷ (ended_lines ms ++ y) =
    sym (append_assoc l (10 ∷ ended_lines ls) x) ∙ is ∙ append_assoc m (10 ∷ ended_lines ms) y in
    let same = same_line l m (ended_lines ls ++ x) (ended_lines ms ++ y) (All-head IsFree l ls free) (All-head IsFree m ms other) whole in
    let mid_same : also ≡ mid = takes_same n log l also mid allowed (subst (λ (z : List ℕ). Takes n log z also) (sym same.0) takes_too) takes in
    one_more l m ls ms a b x y
    (compare (n + 1) mid (takes_allowed n log l mid allowed takes) ls ms a b x y follow (subst (λ (k : Log). Follow (n + 1) k ms b) mid_same follows_too)
    (All-tail IsFree l ls free) (All-tail IsFree m ms other) same.1)

both : (text : List ℕ) (ls ms : List (List ℕ)) (a b : Log) (x y : List ℕ) → BeginsBy text ls a x → BeginsBy text ms b y → Compared ls ms a b x y
both text ls ms a b x y first second = compare 1 no_log none_allowed ls ms a b x y first.follow second.follow first.free second.free (sym first.whole ∙ second.whole)

-- ---- one log

ends_same : (n : ℕ) (log : Log) (line : List ℕ) (t u : Bool) (a b : Log) → IsAllowed log.events → EndsBy n log line t a → EndsBy n log line u b → (a ≡ b) × (t ≡ u)
ends_same n log line true true a b allowed first second = (first.1 ∙ sym second.1, refl)
ends_same n log line true false a b allowed first second = let taken = taken_json n log line b second first.0.0 in absurd (first.0.1 taken.0 taken.1)
ends_same n log line false true a b allowed first second = let taken = taken_json n log line a first second.0.0 in absurd (second.0.1 taken.0 taken.1)
ends_same n log line false false a b allowed first second = (takes_same n log line a b allowed first second, refl)

pub one_log : (text : List ℕ) (a b : Log) (t u : Bool) → IsLogOf text a t → IsLogOf text b u → (a ≡ b) × (t ≡ u)
one_log text a b t u first second = by (both text first.lines second.lines first.before second.before first.rest second.rest first.begins second.begins)
  where
    by : Compared first.lines second.lines first.before second.before first.rest second.rest → (a ≡ b) × (t ≡ u)
    by (as_many count allowed log rest) =
        let number : length second.lines + 1 ≡ length first.lines + 1 = omega (arith, count) in
        let ends = subst (λ (k : ℕ). EndsBy k second.before second.rest u b) number second.ends in
        let at_log = subst (λ (l : Log). EndsBy (length first.lines + 1) l second.rest u b) (sym log) ends in
        ends_same (length first.lines + 1) first.before first.rest t u a b allowed first.ends
        (subst (λ (z : List ℕ). EndsBy (length first.lines + 1) first.before z u b) (sym rest) at_log)
    by (first_ends later) = absurd (free_clash first.rest later.line later.rest first.rest_free later.whole)
    by (second_ends later) = absurd (free_clash second.rest later.line later.rest second.rest_free later.whole)

-- ---- one refusal

later_clash : (log : Log) (line rest : List ℕ) (reason : Reason) → IsFree line → EndsLine reason rest → IsRefused log line reason → Later log (line ++ rest) → ⊥
later_clash log line [] reason free ends refused later = free_clash line later.line later.rest free (sym (append-nil line) ∙ later.whole)
later_clash log line (b ∷ rest) reason free ends refused later =
    let same = same_line line later.line rest later.rest free later.free (sym (ap (λ (d : ℕ). line ++ d ∷ rest) ends) ∙ later.whole) in
    takes_clash later.number log line later.after reason later.allowed (subst (λ (z : List ℕ). Takes later.number log z later.after) (sym same.0) later.takes) refused

refusal_same : (r s : Refusal) → r.reason ≡ s.reason → r.line ≡ s.line → r ≡ s
refusal_same r s reason line =
    ap (λ (x : Reason). record { reason = x; line = r.line }) reason ∙ ap (λ (x : ℕ). record { reason = s.reason; line = x }) line

pub one_refusal : (text : List ℕ) (r s : Refusal) → IsRefusedLog text r → IsRefusedLog text s → r ≡ s
one_refusal text r s first second =
    by (both text first.lines second.lines first.before second.before (first.line ++ first.rest) (second.line ++ second.rest) first.begins second.begins)
  where
    by : Compared first.lines second.lines first.before second.before (first.line ++ first.rest) (second.line ++ second.rest) → r ≡ s
    by (as_many count allowed log rest) =
        let line : second.line ≡ first.line =
        first_same second.line first.line second.rest first.rest s.reason r.reason second.line_free first.line_free second.ends first.ends (sym rest) in
        let at_log = subst (λ (l : Log). IsRefused l second.line s.reason) (sym log) second.refused in
        let also = subst (λ (z : List ℕ). IsRefused first.before z s.reason) line at_log in
        let reason : r.reason ≡ s.reason =
        same_why first.before first.line r.reason s.reason (why first.before first.line r.reason first.refused) (why first.before first.line s.reason also) in
        refusal_same r s reason (first.number ∙ ap (λ (k : ℕ). k + 1) count ∙ sym second.number)
    by (first_ends later) = absurd (later_clash first.before first.line first.rest r.reason first.line_free first.ends first.refused later)
    by (second_ends later) = absurd (later_clash second.before second.line second.rest s.reason second.line_free second.ends second.refused later)

-- ---- not both

torn_clash : (log : Log) (line : List ℕ) (reason : Reason) → IsTorn line → reason ≢ NotJson → Why log line reason → ⊥
torn_clash log line reason torn other (too_long long is) = let few = torn.0.0 in omega arith
torn_clash log line reason torn other (no_json full none is) = other is
torn_clash log line reason torn other (no_form full d json none is) = torn.1 d json
torn_clash log line reason torn other (unsaid full d said json form is) = torn.1 d json

ends_clash : (n : ℕ) (log : Log) (line : List ℕ) (torn : Bool) (after : Log) (reason : Reason) → IsAllowed log.events → EndsBy n log line torn after → reason ≢ NotJson
    → IsRefused log line reason → ⊥
ends_clash n log line true after reason allowed ends other refused = torn_clash log line reason ends.0 other (why log line reason refused)
ends_clash n log line false after reason allowed ends other refused = takes_clash n log line after reason allowed ends refused

last_clash : (n : ℕ) (log : Log) (rest line more : List ℕ) (torn : Bool) (after : Log) (reason : Reason) → IsAllowed log.events → IsFree rest → EndsBy n log rest torn after
    → IsRefused log line reason → EndsLine reason more → rest ≡ line ++ more → ⊥
last_clash n log rest line [] torn after reason allowed free ends refused other is =
    ends_clash n log line torn after reason allowed (subst (λ (z : List ℕ). EndsBy n log z torn after) (is ∙ append-nil line) ends) other refused
last_clash n log rest line (b ∷ more) torn after reason allowed free ends refused feed is =
    free_clash rest line more free (is ∙ ap (λ (d : ℕ). line ++ d ∷ more) feed)

pub log_or_refusal : (text : List ℕ) (log : Log) (torn : Bool) (refusal : Refusal) → IsLogOf text log torn → IsRefusedLog text refusal → ⊥
log_or_refusal text log torn refusal first second =
    by (both text first.lines second.lines first.before second.before first.rest (second.line ++ second.rest) first.begins second.begins)
  where
    by : Compared first.lines second.lines first.before second.before first.rest (second.line ++ second.rest) → ⊥
    by (as_many count allowed same rest) =
        last_clash (length first.lines + 1) first.before first.rest second.line second.rest torn log refusal.reason allowed first.rest_free first.ends
        (subst (λ (l : Log). IsRefused l second.line refusal.reason) (sym same) second.refused) second.ends rest
    by (first_ends later) = free_clash first.rest later.line later.rest first.rest_free later.whole
    by (second_ends later) = later_clash second.before second.line second.rest refusal.reason second.line_free second.ends second.refused later
