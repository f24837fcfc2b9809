-- Each event of a log is what its line says.
use Rattle.std.proofs.Common.{◌≡◌, ◌⊎◌, inl, inr, ℕ, zero, suc, ◌+◌, Bool, true, false, cond, ◌||◌, List, [], ◌∷◌, ◌++◌, length, slice_get, Option, Some, None, refl, sym, ap, subst, ◌∙◌, arith, append_assoc, append-nil, if◌then◌else◌, option_map, length-append}
use Rattle.std.specs.Prelude.{codes, not, ◌==◌}
use Rattle.std.specs.List.{All, list_any, position_or_len}
use Rattle.std.proofs.lemmas.Bool.{and_parts, eqb-true}
use Rattle.std.proofs.lemmas.List.Elements.{All-head, All-nil, All-cons, All-tail}
use Rattle.json_bounded.specs.Text.{IsJson}
use Rattle.serde_json.specs.Data.{Data}
use Rattle.log_events.specs.declared.event.ClientCall.{ClientCall}
use Rattle.log_events.specs.declared.event.ClientCall.TheVariants.{WriteTo, ReadOf, DeleteOf}
use Rattle.log_events.specs.declared.event.Ending.{Ending}
use Rattle.log_events.specs.declared.event.Ending.TheVariants.{Answered, Got, GotNothing, Failed, Lost}
use Rattle.log_events.specs.declared.event.Event.{Event}
use Rattle.log_events.specs.declared.event.Event.TheVariants.{Starts, Begins, Ends}
use Rattle.log_reader.specs.EventLines.{IsLineOf, IsSaidIn, Says, SaysCall, SaysEnding}
use Rattle.log_reader.specs.Forms.{Said, SaidCall, SaidEnding, start, begin, end, ordered, write, read, delete, answer, nothing, failed, lost, said_at}
use Rattle.log_reader.specs.Logs.{AddsEvent, EndsBy, Follow, IsFree, IsLogOf, Log, Takes, call_of, ended_lines, event_of, no_log, with_call, with_client, with_ending, with_event, with_key, with_said, with_value}
use Rattle.log_reader.specs.Names.{Name, number_in, same_name, text_name, with_name}
use Rattle.log_reader.specs.Readings.{Extends, Grows}
use Rattle.log_reader.proofs.BookLaws.{extends-clients, extends-keys, extends-more, extends-order, extends-push, extends-same, extends-values}
use Rattle.log_reader.proofs.TableLaws.{with_name-grows}
use Rattle.log_reader.proofs.TakeLaws.{said_events}

-- ---- a name is at its number

bytes_same : (a b : Name) → same_name a b ≡ true → a ≡ b
bytes_same [] [] same = refl
bytes_same [] (y ∷ ys) same = absurd cc
bytes_same (x ∷ xs) [] same = absurd cc
bytes_same (x ∷ xs) (y ∷ ys) same =
    let both = and_parts (x == y) (same_name xs ys) same in
    let first : x ≡ y = eqb-true x y both.0 in
    let rest : xs ≡ ys = bytes_same xs ys both.1 in
    ap (λ (b : ℕ). b ∷ xs) first ∙ ap (λ (l : List ℕ). y ∷ l) rest

later : {X : Type 0} (x : X) (xs : List X) (n : ℕ) → slice_get (x ∷ xs) (1 + n) ≡ slice_get xs n
later x xs n = let next : 1 + n ≡ suc n = omega arith in ap (slice_get (x ∷ xs)) next

there_by : (b : Bool) (name x : Name) (xs : List Name) → same_name name x ≡ b
    → slice_get (if list_any (same_name name) xs then xs else xs ++ name ∷ []) (position_or_len (same_name name) xs) ≡ Some name
    → slice_get (if b || list_any (same_name name) xs then x ∷ xs else x ∷ (xs ++ name ∷ [])) (cond (not b) (1 + position_or_len (same_name name) xs) 0) ≡ Some name
there_by true name x xs same rest = ap (λ (n : Name). Some n) (sym (bytes_same name x same))
there_by false name x xs same rest = by (list_any (same_name name) xs) rest
  where
    by : (c : Bool) → slice_get (if c then xs else xs ++ name ∷ []) (position_or_len (same_name name) xs) ≡ Some name
        → slice_get (if c then x ∷ xs else x ∷ (xs ++ name ∷ [])) (1 + position_or_len (same_name name) xs) ≡ Some name
    by true is = later x xs (position_or_len (same_name name) xs) ∙ is
    by false is = later x (xs ++ name ∷ []) (position_or_len (same_name name) xs) ∙ is

pub name_at_number : (table : List Name) (name : Name) → slice_get (with_name table name) (number_in table name) ≡ Some name
name_at_number [] name = refl
name_at_number (x ∷ xs) name = there_by (same_name name x) name x xs refl (name_at_number xs name)

-- ---- what is said of a log is so of one that grew

front_at : {X : Type 0} (xs more : List X) (i : ℕ) (x : X) → slice_get xs i ≡ Some x → slice_get (xs ++ more) i ≡ Some x
front_at [] more i x is = absurd cc
front_at (y ∷ xs) more zero x is = is
front_at (y ∷ xs) more (suc i) x is = front_at xs more i x is

grown_at : {X : Type 0} (old new : List X) (i : ℕ) (x : X) → Grows old new → slice_get old i ≡ Some x → slice_get new i ≡ Some x
grown_at old new i x (more, is) at = ap (λ l. slice_get l i) is ∙ front_at old more i x at

call_still : (a b : Log) (said : SaidCall) (call : ClientCall) → Extends a b → SaysCall a said call → SaysCall b said call
call_still a b (write key value) (WriteTo x v) extends (first, second) = (grown_at a.keys b.keys x key extends.keys first, grown_at a.values b.values v value extends.values second)
call_still a b (write key value) (ReadOf x) extends says = says
call_still a b (write key value) (DeleteOf x) extends says = says
call_still a b (read key) (WriteTo x v) extends says = says
call_still a b (read key) (ReadOf x) extends says = grown_at a.keys b.keys x key extends.keys says
call_still a b (read key) (DeleteOf x) extends says = says
call_still a b (delete key) (WriteTo x v) extends says = says
call_still a b (delete key) (ReadOf x) extends says = says
call_still a b (delete key) (DeleteOf x) extends says = grown_at a.keys b.keys x key extends.keys says

ending_still : (a b : Log) (said : SaidEnding) (ending : Ending) → Extends a b → SaysEnding a said ending → SaysEnding b said ending
ending_still a b (answer value) (Got v) extends says = grown_at a.values b.values v value extends.values says
ending_still a b (answer value) Answered extends says = says
ending_still a b (answer value) GotNothing extends says = says
ending_still a b (answer value) Failed extends says = says
ending_still a b (answer value) Lost extends says = says
ending_still a b nothing (Got v) extends says = says
ending_still a b nothing Answered extends says = says
ending_still a b nothing GotNothing extends says = says
ending_still a b nothing Failed extends says = says
ending_still a b nothing Lost extends says = says
ending_still a b failed (Got v) extends says = says
ending_still a b failed Answered extends says = says
ending_still a b failed GotNothing extends says = says
ending_still a b failed Failed extends says = says
ending_still a b failed Lost extends says = says
ending_still a b lost (Got v) extends says = says
ending_still a b lost Answered extends says = says
ending_still a b lost GotNothing extends says = says
ending_still a b lost Failed extends says = says
ending_still a b lost Lost extends says = says

still : (a b : Log) (said : Said) (e : Event) → Extends a b → Says a said e → Says b said e
still a b (start key value) (Starts x v) extends (first, second) = (grown_at a.keys b.keys x key extends.keys first, grown_at a.values b.values v value extends.values second)
still a b (start key value) (Begins c call) extends says = says
still a b (start key value) (Ends c ending) extends says = says
still a b (begin client said) (Starts x v) extends says = says
still a b (begin client said) (Begins c call) extends (first, second) = (grown_at a.clients b.clients c client extends.clients first, call_still a b said call extends second)
still a b (begin client said) (Ends c ending) extends says = says
still a b (end client said) (Starts x v) extends says = says
still a b (end client said) (Begins c call) extends says = says
still a b (end client said) (Ends c ending) extends (first, second) = (grown_at a.clients b.clients c client extends.clients first, ending_still a b said ending extends second)
still a b ordered e extends says = absurd says

-- ---- an event is what was said

known_event : (e f : Event) → Some e ≡ Some f → e ≡ f
known_event e f is = cc

call_said : (log : Log) (client : Name) (said : SaidCall) → SaysCall (with_call (with_client log client) said) said (call_of log said)
call_said log client (write key value) = (name_at_number log.keys key, name_at_number log.values value)
call_said log client (read key) = name_at_number log.keys key
call_said log client (delete key) = name_at_number log.keys key

client_kept : (log : Log) (client : Name) (said : SaidCall) → (with_call (with_client log client) said).clients ≡ with_name log.clients client
client_kept log client (write key value) = refl
client_kept log client (read key) = refl
client_kept log client (delete key) = refl

no_ending : {P : Type 0} (e : Event) → None ≡ Some e → P
no_ending e is = absurd cc

ok_said : (log : Log) (value : Name) (c : ℕ) (b : Bool) (e : Event) → same_name value (text_name (codes "ok")) ≡ b
    → option_map (Ends c) (if b then Some Answered else None) ≡ Some e → (e ≡ Ends c Answered) × (same_name value (text_name (codes "ok")) ≡ true)
ok_said log value c true e same is = (sym (known_event (Ends c Answered) e is), same)
ok_said log value c false e same is = no_ending e is

event_said : (log : Log) (pending : Option ClientCall) (said : Said) (e : Event) → event_of log pending said ≡ Some e → Says (with_said log pending said) said e
event_said log pending (start key value) e is =
    subst (λ (f : Event). Says (with_said log pending (start key value)) (start key value) f) (known_event _ e is) (name_at_number log.keys key, name_at_number log.values value)
event_said log pending (begin client said) e is =
    let kept = ap (λ (l : List Name). slice_get l (number_in log.clients client)) (client_kept log client said) ∙ name_at_number log.clients client in
    subst (λ (f : Event). Says (with_said log pending (begin client said)) (begin client said) f) (known_event _ e is) (kept, call_said log client said)
event_said log pending ordered e is = no_ending e is
event_said log None (end client said) e is = no_ending e is
event_said log (Some (WriteTo x v)) (end client failed) e is = subst (λ (f : Event). Says (with_client log client) (end client failed) f) (known_event _ e is) (name_at_number log.clients client, tt)
event_said log (Some (ReadOf x)) (end client failed) e is = subst (λ (f : Event). Says (with_client log client) (end client failed) f) (known_event _ e is) (name_at_number log.clients client, tt)
event_said log (Some (DeleteOf x)) (end client failed) e is = subst (λ (f : Event). Says (with_client log client) (end client failed) f) (known_event _ e is) (name_at_number log.clients client, tt)
event_said log (Some (WriteTo x v)) (end client lost) e is = subst (λ (f : Event). Says (with_client log client) (end client lost) f) (known_event _ e is) (name_at_number log.clients client, tt)
event_said log (Some (ReadOf x)) (end client lost) e is = subst (λ (f : Event). Says (with_client log client) (end client lost) f) (known_event _ e is) (name_at_number log.clients client, tt)
event_said log (Some (DeleteOf x)) (end client lost) e is = subst (λ (f : Event). Says (with_client log client) (end client lost) f) (known_event _ e is) (name_at_number log.clients client, tt)
event_said log (Some (ReadOf x)) (end client (answer value)) e is =
    subst (λ (f : Event). Says (with_said log (Some (ReadOf x)) (end client (answer value))) (end client (answer value)) f) (known_event _ e is)
    (name_at_number log.clients client, name_at_number log.values value)
event_said log (Some (ReadOf x)) (end client nothing) e is = subst (λ (f : Event). Says (with_client log client) (end client nothing) f) (known_event _ e is) (name_at_number log.clients client, tt)
event_said log (Some (WriteTo x v)) (end client nothing) e is = no_ending e is
event_said log (Some (DeleteOf x)) (end client nothing) e is = no_ending e is
event_said log (Some (WriteTo x v)) (end client (answer value)) e is =
    let both = ok_said log value (number_in log.clients client) (same_name value (text_name (codes "ok"))) e refl is in
    subst (λ (f : Event). Says (with_client log client) (end client (answer value)) f) (sym both.0) (name_at_number log.clients client, both.1)
event_said log (Some (DeleteOf x)) (end client (answer value)) e is =
    let both = ok_said log value (number_in log.clients client) (same_name value (text_name (codes "ok"))) e refl is in
    subst (λ (f : Event). Says (with_client log client) (end client (answer value)) f) (sym both.0) (name_at_number log.clients client, both.1)

-- ---- a line leaves what was there

client_extends : (log : Log) (client : Name) → Extends log (with_client log client)
client_extends log client = extends-clients log (with_name log.clients client) (with_name-grows log.clients client)

key_extends : (log : Log) (key : Name) → Extends log (with_key log key)
key_extends log key = extends-keys log (with_name log.keys key) (with_name-grows log.keys key)

value_extends : (log : Log) (value : Name) → Extends log (with_value log value)
value_extends log value = extends-values log (with_name log.values value) (with_name-grows log.values value)

pair_extends : (log : Log) (key value : Name) → Extends log (with_value (with_key log key) value)
pair_extends log key value = extends-more log (with_key log key) (with_value (with_key log key) value) (key_extends log key) (value_extends (with_key log key) value)

call_extends : (log : Log) (said : SaidCall) → Extends log (with_call log said)
call_extends log (write key value) = pair_extends log key value
call_extends log (read key) = key_extends log key
call_extends log (delete key) = key_extends log key

ending_extends : (log : Log) (pending : Option ClientCall) (said : SaidEnding) → Extends log (with_ending log pending said)
ending_extends log None (answer value) = extends-same log
ending_extends log None nothing = extends-same log
ending_extends log None failed = extends-same log
ending_extends log None lost = extends-same log
ending_extends log (Some (WriteTo x v)) (answer value) = extends-same log
ending_extends log (Some (WriteTo x v)) nothing = extends-same log
ending_extends log (Some (WriteTo x v)) failed = extends-same log
ending_extends log (Some (WriteTo x v)) lost = extends-same log
ending_extends log (Some (ReadOf x)) (answer value) = value_extends log value
ending_extends log (Some (ReadOf x)) nothing = extends-same log
ending_extends log (Some (ReadOf x)) failed = extends-same log
ending_extends log (Some (ReadOf x)) lost = extends-same log
ending_extends log (Some (DeleteOf x)) (answer value) = extends-same log
ending_extends log (Some (DeleteOf x)) nothing = extends-same log
ending_extends log (Some (DeleteOf x)) failed = extends-same log
ending_extends log (Some (DeleteOf x)) lost = extends-same log

pub said_extends : (log : Log) (pending : Option ClientCall) (said : Said) → Extends log (with_said log pending said)
said_extends log pending (start key value) = pair_extends log key value
said_extends log pending (begin client call) =
    extends-more log (with_client log client) (with_call (with_client log client) call) (client_extends log client) (call_extends (with_client log client) call)
said_extends log pending (end client ending) =
    extends-more log (with_client log client) (with_ending (with_client log client) pending ending) (client_extends log client)
    (ending_extends (with_client log client) pending ending)
said_extends log pending ordered = extends-same log

pub event_extends : (log : Log) (n : ℕ) (e : Event) → Extends log (with_event log n e)
event_extends log n e = extends-push log (with_event log n e) n e refl refl refl refl refl refl

-- the line of each event so far: its number has one more before it than there are
call_lines : (log : Log) (said : SaidCall) → (with_call log said).lines ≡ log.lines
call_lines log (write key value) = refl
call_lines log (read key) = refl
call_lines log (delete key) = refl

ending_lines : (log : Log) (pending : Option ClientCall) (said : SaidEnding) → (with_ending log pending said).lines ≡ log.lines
ending_lines log None (answer value) = refl
ending_lines log None nothing = refl
ending_lines log None failed = refl
ending_lines log None lost = refl
ending_lines log (Some (WriteTo x v)) (answer value) = refl
ending_lines log (Some (WriteTo x v)) nothing = refl
ending_lines log (Some (WriteTo x v)) failed = refl
ending_lines log (Some (WriteTo x v)) lost = refl
ending_lines log (Some (ReadOf x)) (answer value) = refl
ending_lines log (Some (ReadOf x)) nothing = refl
ending_lines log (Some (ReadOf x)) failed = refl
ending_lines log (Some (ReadOf x)) lost = refl
ending_lines log (Some (DeleteOf x)) (answer value) = refl
ending_lines log (Some (DeleteOf x)) nothing = refl
ending_lines log (Some (DeleteOf x)) failed = refl
ending_lines log (Some (DeleteOf x)) lost = refl

said_lines : (log : Log) (pending : Option ClientCall) (said : Said) → (with_said log pending said).lines ≡ log.lines
said_lines log pending (start key value) = refl
said_lines log pending (begin client call) = call_lines (with_client log client) call
said_lines log pending (end client ending) = ending_lines (with_client log client) pending ending
said_lines log pending ordered = refl

-- ---- the events of some lines

last_at : {X : Type 0} (xs : List X) (x : X) → slice_get (xs ++ x ∷ []) (length xs) ≡ Some x
last_at [] x = refl
last_at (y ∷ xs) x = last_at xs x

some_same : {X : Type 0} (x y : X) → Some x ≡ Some y → x ≡ y
some_same x y is = cc

split_last : {X : Type 0} (xs : List X) (x y : X) (i : ℕ) → slice_get (xs ++ x ∷ []) i ≡ Some y → (slice_get xs i ≡ Some y) ⊎ ((i ≡ length xs) × (x ≡ y))
split_last [] x y zero is = inr (refl, some_same x y is)
split_last [] x y (suc i) is = absurd cc
split_last (z ∷ xs) x y zero is = inl is
split_last (z ∷ xs) x y (suc i) is = elim (split_last xs x y i is) [ inl here ↦ inl here | inr last ↦ inr (ap suc last.0, last.1) ]

-- the event at a place is on one of these lines
record Found (lines : List (List ℕ)) (log : Log) (i : ℕ) (e : Event) : Type 0 where
  place : ℕ
  at : slice_get log.lines i ≡ Some (place + 1)
  line : List ℕ
  line_at : slice_get lines place ≡ Some line
  value : Data
  json : IsJson line value
  said : Said
  form : said_at value ≡ Some said
  says : Says log said e

record Known (lines : List (List ℕ)) (log : Log) : Type 0 where
  numbered : length log.lines ≡ length log.events
  each : (i : ℕ) (e : Event) → slice_get log.events i ≡ Some e → Found lines log i e

found_still : (lines more : List (List ℕ)) (a b : Log) (i : ℕ) (e : Event) → Extends a b → Found lines a i e → Found (lines ++ more) b i e
found_still lines more a b i e extends found = record {
  place = found.place;
  at = grown_at a.lines b.lines i (found.place + 1) extends.lines found.at;
  line = found.line;
  line_at = front_at lines more found.place found.line found.line_at;
  value = found.value;
  json = found.json;
  said = found.said;
  form = found.form;
  says = still a b found.said e extends found.says;
}

known_none : Known [] no_log
known_none = record { numbered = refl; each = λ i e is. absurd cc }

module _ (lines : List (List ℕ)) (a b : Log) (line : List ℕ) (known : Known lines a) (adds : AddsEvent (length lines + 1) a line b) where
  abbrev met : Log
  met = with_said a adds.pending adds.said

  abbrev number : ℕ
  number = length lines + 1

  met_numbered : length met.lines ≡ length met.events
  met_numbered = ap length (said_lines a adds.pending adds.said) ∙ known.numbered ∙ ap length (sym (said_events a adds.pending adds.said))

  found_last : (i : ℕ) → i ≡ length met.events → Found (lines ++ line ∷ []) (with_event met number adds.event) i adds.event
  found_last i is = record {
    place = length lines;
    at = ap (slice_get (met.lines ++ number ∷ [])) (is ∙ sym met_numbered) ∙ last_at met.lines number;
    line = line;
    line_at = last_at lines line;
    value = adds.value;
    json = adds.json;
    said = adds.said;
    form = adds.form;
    says = still met (with_event met number adds.event) adds.said adds.event (event_extends met number adds.event) (event_said a adds.pending adds.said adds.event adds.says);
  }

  found_each : (i : ℕ) (e : Event) → (slice_get met.events i ≡ Some e) ⊎ ((i ≡ length met.events) × (adds.event ≡ e))
      → Found (lines ++ line ∷ []) (with_event met number adds.event) i e
  found_each i e (inl here) =
      let was = known.each i e (ap (λ (es : List Event). slice_get es i) (sym (said_events a adds.pending adds.said)) ∙ here) in
      let extends = extends-more a met (with_event met number adds.event) (said_extends a adds.pending adds.said) (event_extends met number adds.event) in
      found_still lines (line ∷ []) a (with_event met number adds.event) i e extends was
  found_each i e (inr last) = subst (λ (f : Event). Found (lines ++ line ∷ []) (with_event met number adds.event) i f) last.1 (found_last i last.0)

  known_more : Known (lines ++ line ∷ []) b
  known_more = subst (λ (l : Log). Known (lines ++ line ∷ []) l) (sym adds.added) (record {
    numbered = length-append met.lines (number ∷ []) ∙ ap (λ (n : ℕ). n + 1) met_numbered ∙ sym (length-append met.events (adds.event ∷ []));
    each = λ i e is. found_each i e (split_last met.events adds.event e i is);
  })

known_takes : (lines : List (List ℕ)) (a b : Log) (line : List ℕ) → Known lines a → Takes (length lines + 1) a line b → Known (lines ++ line ∷ []) b
known_takes lines a b line known (inl blank) = subst (λ (l : Log). Known (lines ++ line ∷ []) l) (sym blank.2) (record {
  numbered = known.numbered;
  each = λ i e is. found_still lines (line ∷ []) a a i e (extends-same a) (known.each i e is);
})
known_takes lines a b line known (inr (inl adds)) = known_more lines a b line known adds
known_takes lines a b line known (inr (inr says)) =
    let extends = extends-order a b says.follows.0 says.added in
    let events : b.events ≡ a.events = ap (λ (l : Log). l.events) says.added in
    let numbers : b.lines ≡ a.lines = ap (λ (l : Log). l.lines) says.added in
    record {
      numbered = ap length numbers ∙ known.numbered ∙ ap length (sym events);
      each = λ i e is. found_still lines (line ∷ []) a b i e extends (known.each i e (ap (λ (es : List Event). slice_get es i) (sym events) ∙ is));
    }

known_follow : (lines more : List (List ℕ)) (a b : Log) → Known lines a → Follow (length lines + 1) a more b → Known (lines ++ more) b
unfolding Follow
known_follow lines [] a b known same =
    subst (λ (ls : List (List ℕ)). Known ls b) (sym (append-nil lines)) (subst (λ (l : Log). Known lines l) (sym same) known)
known_follow lines (line ∷ more) a b known (between, takes, rest) =
    let count : (length lines + 1) + 1 ≡ length (lines ++ line ∷ []) + 1 = ap (λ (n : ℕ). n + 1) (sym (length-append lines (line ∷ []))) in
    let next = known_follow (lines ++ line ∷ []) more between b (known_takes lines a between line known takes) (subst (λ (n : ℕ). Follow n between more b) count rest) in
    subst (λ (ls : List (List ℕ)). Known ls b) (append_assoc lines (line ∷ []) more) next

-- ---- the lines of a text

record Split (lines : List (List ℕ)) (rest line : List ℕ) (k : ℕ) : Type 0 where
  front : List (List ℕ)
  more : List ℕ
  whole : ended_lines lines ++ rest ≡ ended_lines front ++ (line ++ 10 ∷ more)
  free : All IsFree front
  line_free : IsFree line
  count : length front ≡ k

split_at : (lines : List (List ℕ)) (rest line : List ℕ) (k : ℕ) → All IsFree lines → slice_get lines k ≡ Some line → Split lines rest line k
split_at [] rest line k free at = absurd cc
split_at (x ∷ xs) rest line zero free at =
    let same : x ≡ line = some_same x line at in
    record {
      front = [];
      more = ended_lines xs ++ rest;
      whole = append_assoc x (10 ∷ ended_lines xs) rest ∙ ap (λ (l : List ℕ). l ++ 10 ∷ (ended_lines xs ++ rest)) same;
      free = All-nil IsFree;
      line_free = subst IsFree same (All-head IsFree x xs free);
      count = refl;
    }
split_at (x ∷ xs) rest line (suc k) free at =
    let later = split_at xs rest line k (All-tail IsFree x xs free) at in
    record {
      front = x ∷ later.front;
      more = later.more;
      whole =
          append_assoc x (10 ∷ ended_lines xs) rest ∙ ap (λ (l : List ℕ). x ++ 10 ∷ l) later.whole
          ∙ sym (append_assoc x (10 ∷ ended_lines later.front) (line ++ 10 ∷ later.more));
      free = All-cons IsFree x later.front (All-head IsFree x xs free) later.free;
      line_free = later.line_free;
      count = ap suc later.count;
    }

ended_line : (text : List ℕ) (lines : List (List ℕ)) (rest line : List ℕ) (k : ℕ) → text ≡ ended_lines lines ++ rest → All IsFree lines → slice_get lines k ≡ Some line
    → IsLineOf text (k + 1) line
ended_line text lines rest line k whole free at =
    let split = split_at lines rest line k free at in
    record {
      before = split.front;
      rest = 10 ∷ split.more;
      whole = whole ∙ split.whole;
      free = split.free;
      line_free = split.line_free;
      ends = inr (split.more, refl);
      is_number = ap (λ (n : ℕ). n + 1) (sym split.count);
    }

last_line : (text : List ℕ) (lines : List (List ℕ)) (rest line : List ℕ) (k : ℕ) → text ≡ ended_lines lines ++ rest → All IsFree lines → IsFree rest
    → (slice_get lines k ≡ Some line) ⊎ ((k ≡ length lines) × (rest ≡ line)) → IsLineOf text (k + 1) line
last_line text lines rest line k whole free rest_free (inl at) = ended_line text lines rest line k whole free at
last_line text lines rest line k whole free rest_free (inr (last, same)) = record {
  before = lines;
  rest = [];
  whole = whole ∙ ap (λ (l : List ℕ). ended_lines lines ++ l) (same ∙ sym (append-nil line));
  free = free;
  line_free = subst IsFree same rest_free;
  ends = inl refl;
  is_number = ap (λ (n : ℕ). n + 1) last;
}

found_in : (text : List ℕ) (lines : List (List ℕ)) (log : Log) (i : ℕ) (e : Event) → ((line : List ℕ) (k : ℕ) → slice_get lines k ≡ Some line → IsLineOf text (k + 1) line)
    → Found lines log i e → IsSaidIn text log i e
found_in text lines log i e lined found = record {
  number = found.place + 1;
  at = found.at;
  line = found.line;
  is_line = lined found.line found.place found.line_at;
  value = found.value;
  json = found.json;
  said = found.said;
  form = found.form;
  says = found.says;
}

by_end : (text : List ℕ) (log : Log) (torn : Bool) (of : IsLogOf text log torn) → EndsBy (length of.lines + 1) of.before of.rest torn log → (i : ℕ) (e : Event)
    → slice_get log.events i ≡ Some e → IsSaidIn text log i e
by_end text log true of ends i e is =
    let known = known_follow [] of.lines no_log of.before known_none of.begins.follow in
    let same = subst (λ (l : Log). Known of.lines l) (sym ends.1) known in
    found_in text of.lines log i e (λ line k at. ended_line text of.lines of.rest line k of.begins.whole of.begins.free at) (same.each i e is)
by_end text log false of ends i e is =
    let known = known_takes of.lines of.before log of.rest (known_follow [] of.lines no_log of.before known_none of.begins.follow) ends in
    found_in text (of.lines ++ of.rest ∷ []) log i e
    (λ line k at. last_line text of.lines of.rest line k of.begins.whole of.begins.free of.rest_free (split_last of.lines of.rest line k at)) (known.each i e is)

pub events_on_lines : (text : List ℕ) (log : Log) (torn : Bool) → IsLogOf text log torn → (i : ℕ) (e : Event) → slice_get log.events i ≡ Some e → IsSaidIn text log i e
events_on_lines text log torn of i e is = by_end text log torn of of.ends i e is
