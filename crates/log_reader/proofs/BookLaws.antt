-- Logs whose events have names.
use Rattle.std.proofs.Common.{◌≡◌, ◌≢◌, ◌<◌, ℕ, List, [], ◌∷◌, ◌++◌, length, refl, sym, ap, subst, ◌∙◌, arith, append_assoc}
use Rattle.std.specs.List.{All}
use Rattle.std.proofs.lemmas.List.{append-nil, length-append}
use Rattle.std.proofs.lemmas.List.Elements.{All-weaker}
use Rattle.log_events.specs.declared.event.ClientCall.{ClientCall}
use Rattle.log_events.specs.declared.event.ClientCall.TheVariants.{WriteTo, ReadOf, DeleteOf}
use Rattle.log_events.specs.declared.event.Ending.{Ending}
use Rattle.log_events.specs.declared.event.Ending.TheVariants.{Answered, Got, GotNothing, Failed, Lost}
use Rattle.log_events.specs.declared.event.Event.{Event}
use Rattle.log_events.specs.declared.event.Event.TheVariants.{Starts, Begins, Ends}
use Rattle.log_reader.specs.BookSteps.{IsBook}
use Rattle.log_reader.specs.Forms.{write}
use Rattle.log_reader.specs.Logs.{Log, call_of, key_number, value_number, with_key, with_order}
use Rattle.log_reader.specs.Names.{Name}
use Rattle.log_reader.specs.Readings.{Extends, Grows, IsCallNamed, IsEndingNamed, IsNamed}

-- ---- what grows

pub grows-same : {X : Type 0} (xs : List X) → Grows xs xs
grows-same xs = ([], sym (append-nil xs))

pub grows-more : {X : Type 0} (a b c : List X) → Grows a b → Grows b c → Grows a c
grows-more a b c (m, first) (n, second) = (m ++ n, second ∙ ap (λ l. l ++ n) first ∙ append_assoc a m n)

pub longer : {X : Type 0} (a b : List X) (n : ℕ) → Grows a b → n < length a → n < length b
longer a b n (more, is) low = omega (arith, low, ap length is, length-append a more)

pub extends-same : (log : Log) → Extends log log
extends-same log = record {
  clients = grows-same log.clients;
  keys = grows-same log.keys;
  values = grows-same log.values;
  events = grows-same log.events;
  lines = grows-same log.lines;
  in_time = λ so. so;
  settled = λ some. refl;
}

still-some : {X : Type 0} (a b : List X) → Grows a b → a ≢ [] → b ≢ []
still-some [] b grows some is = some refl
still-some (x ∷ a) b (more, grown) some is = let none : x ∷ (a ++ more) ≡ [] = sym grown ∙ is in absurd cc

pub extends-more : (a b c : Log) → Extends a b → Extends b c → Extends a c
extends-more a b c first second = record {
  clients = grows-more a.clients b.clients c.clients first.clients second.clients;
  keys = grows-more a.keys b.keys c.keys first.keys second.keys;
  values = grows-more a.values b.values c.values first.values second.values;
  events = grows-more a.events b.events c.events first.events second.events;
  lines = grows-more a.lines b.lines c.lines first.lines second.lines;
  in_time = λ so. second.in_time (first.in_time so);
  settled = λ some. second.settled (still-some a.events b.events first.events some) ∙ first.settled some;
}

-- ---- names of events

call_more : (a b : Log) (call : ClientCall) → Extends a b → IsCallNamed a call → IsCallNamed b call
call_more a b (WriteTo x v) extends (key, value) = (longer a.keys b.keys x extends.keys key, longer a.values b.values v extends.values value)
call_more a b (ReadOf x) extends key = longer a.keys b.keys x extends.keys key
call_more a b (DeleteOf x) extends key = longer a.keys b.keys x extends.keys key

ending_more : (a b : Log) (ending : Ending) → Extends a b → IsEndingNamed a ending → IsEndingNamed b ending
ending_more a b Answered extends named = tt
ending_more a b (Got v) extends named = longer a.values b.values v extends.values named
ending_more a b GotNothing extends named = tt
ending_more a b Failed extends named = tt
ending_more a b Lost extends named = tt

pub named_more : (a b : Log) (e : Event) → Extends a b → IsNamed a e → IsNamed b e
named_more a b (Starts x v) extends (key, value) = (longer a.keys b.keys x extends.keys key, longer a.values b.values v extends.values value)
named_more a b (Begins client call) extends (known, named) = (longer a.clients b.clients client extends.clients known, call_more a b call extends named)
named_more a b (Ends client ending) extends (known, named) = (longer a.clients b.clients client extends.clients known, ending_more a b ending extends named)

all_more : (a b : Log) (es : List Event) → Extends a b → All (IsNamed a) es → All (IsNamed b) es
all_more a b es extends named = All-weaker (IsNamed a) (IsNamed b) (λ e. named_more a b e extends) es named

-- the call of a write, whose key was met before its value
pub write_call : (log a : Log) (key value : Name) (x v : ℕ) → a ≡ with_key log key → x ≡ key_number log key → v ≡ value_number a value
    → WriteTo x v ≡ call_of log (write key value)
write_call log a key value x v a_is x_is v_is =
    let v_same : v ≡ value_number log value = v_is ∙ ap (λ (l : Log). value_number l value) a_is in
    ap (λ (y : ℕ). WriteTo y v) x_is ∙ ap (λ (y : ℕ). WriteTo (key_number log key) y) v_same

-- ---- what is kept

-- names were met
pub book-more : (a b : Log) → Extends a b → b.events ≡ a.events → b.lines ≡ a.lines → IsBook a → IsBook b
book-more a b extends events lines book = record {
  numbered = ap length lines ∙ book.numbered ∙ ap length (sym events);
  named = subst (λ (es : List Event). All (IsNamed b) es) (sym events) (all_more a b a.events extends book.named);
}

-- tables grew
module _ (log : Log) where
  pub extends-clients : (table : List Name) → Grows log.clients table → Extends log (record log { clients = table })
  extends-clients table grows = record {
    clients = grows;
    keys = grows-same log.keys;
    values = grows-same log.values;
    events = grows-same log.events;
    lines = grows-same log.lines;
    in_time = λ so. so;
    settled = λ some. refl;
  }

  pub extends-keys : (table : List Name) → Grows log.keys table → Extends log (record log { keys = table })
  extends-keys table grows = record {
    clients = grows-same log.clients;
    keys = grows;
    values = grows-same log.values;
    events = grows-same log.events;
    lines = grows-same log.lines;
    in_time = λ so. so;
    settled = λ some. refl;
  }

  pub extends-values : (table : List Name) → Grows log.values table → Extends log (record log { values = table })
  extends-values table grows = record {
    clients = grows-same log.clients;
    keys = grows-same log.keys;
    values = grows;
    events = grows-same log.events;
    lines = grows-same log.lines;
    in_time = λ so. so;
    settled = λ some. refl;
  }

pub extends-push : (a b : Log) (n : ℕ) (e : Event) → b.clients ≡ a.clients → b.keys ≡ a.keys → b.values ≡ a.values → b.events ≡ a.events ++ e ∷ []
    → b.lines ≡ a.lines ++ n ∷ [] → b.in_time ≡ a.in_time → Extends a b
extends-push a b n e clients keys values events lines in_time = record {
  clients = ([], clients ∙ sym (append-nil a.clients));
  keys = ([], keys ∙ sym (append-nil a.keys));
  values = ([], values ∙ sym (append-nil a.values));
  events = (e ∷ [], events);
  lines = (n ∷ [], lines);
  in_time = λ so. in_time ∙ so;
  settled = λ some. in_time;
}

-- the order of time was said
pub extends-order : (a b : Log) → a.events ≡ [] → b ≡ with_order a → Extends a b
extends-order a b none is = subst (λ (l : Log). Extends a l) (sym is) (record {
  clients = grows-same a.clients;
  keys = grows-same a.keys;
  values = grows-same a.values;
  events = grows-same a.events;
  lines = grows-same a.lines;
  in_time = λ so. refl;
  settled = λ some. absurd (some none);
})
