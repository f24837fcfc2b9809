-- A log is in the order of time where the first line of its text that is not blank says so.
use Rattle.std.proofs.Common.{◌≡◌, ◌≢◌, ◌⊎◌, inl, inr, ℕ, ◌+◌, Bool, true, false, List, [], ◌∷◌, ◌++◌, length, Option, Some, None, refl, sym, ap, subst, ◌∙◌, append_assoc, append-nil, true≢false}
use Rattle.std.specs.List.{All}
use Rattle.std.proofs.lemmas.List.Elements.{All-head, All-nil, All-cons, All-tail}
use Rattle.json_bounded.specs.Text.{IsJson}
use Rattle.json_lines.specs.Lines.{is_blank}
use Rattle.serde_json.specs.Data.{Data}
use Rattle.log_events.specs.declared.event.ClientCall.{ClientCall}
use Rattle.log_events.specs.declared.event.ClientCall.TheVariants.{WriteTo, ReadOf, DeleteOf}
use Rattle.log_reader.specs.Forms.{Said, SaidCall, SaidEnding, start, begin, end, ordered, write, read, delete, answer, nothing, failed, lost, said_at}
use Rattle.log_reader.specs.Logs.{AddsEvent, EndsBy, Follow, IsFree, IsFull, IsLogOf, Log, MayOrder, Takes, ended_lines, no_log, with_call, with_client, with_ending, with_event, with_order, with_said}
use Rattle.log_reader.specs.OrderLines.{AreBlank, SaysOrderFirst}
use Rattle.log_reader.specs.Readings.{Extends}
use Rattle.log_reader.proofs.BookLaws.{extends-more, extends-order, extends-same}
use Rattle.log_reader.proofs.EventLineLaws.{event_extends, said_extends}
use Rattle.log_reader.proofs.OneLogLaws.{free_clash, order_clash, same_line}

-- ---- what lines leave

takes_extends : (n : ℕ) (a : Log) (line : List ℕ) (b : Log) → Takes n a line b → Extends a b
takes_extends n a line b (inl blank) = subst (λ (l : Log). Extends a l) (sym blank.2) (extends-same a)
takes_extends n a line b (inr (inl adds)) =
    let met : Log = with_said a adds.pending adds.said in
    subst (λ (l : Log). Extends a l) (sym adds.added)
    (extends-more a met (with_event met n adds.event) (said_extends a adds.pending adds.said) (event_extends met n adds.event))
takes_extends n a line b (inr (inr says)) = extends-order a b says.follows.0 says.added

follow_extends : (n : ℕ) (a : Log) (lines : List (List ℕ)) (b : Log) → Follow n a lines b → Extends a b
unfolding Follow
follow_extends n a [] b same = subst (λ (l : Log). Extends a l) (sym same) (extends-same a)
follow_extends n a (line ∷ lines) b (mid, takes, follow) = extends-more a mid b (takes_extends n a line mid takes) (follow_extends (n + 1) mid lines b follow)

ends_extends : (n : ℕ) (a : Log) (line : List ℕ) (torn : Bool) (b : Log) → EndsBy n a line torn b → Extends a b
ends_extends n a line true b ends = subst (λ (l : Log). Extends a l) (sym ends.1) (extends-same a)
ends_extends n a line false b ends = takes_extends n a line b ends

call_in_time : (log : Log) (said : SaidCall) → (with_call log said).in_time ≡ log.in_time
call_in_time log (write key value) = refl
call_in_time log (read key) = refl
call_in_time log (delete key) = refl

ending_in_time : (log : Log) (pending : Option ClientCall) (said : SaidEnding) → (with_ending log pending said).in_time ≡ log.in_time
ending_in_time log None (answer value) = refl
ending_in_time log None nothing = refl
ending_in_time log None failed = refl
ending_in_time log None lost = refl
ending_in_time log (Some (WriteTo x v)) (answer value) = refl
ending_in_time log (Some (WriteTo x v)) nothing = refl
ending_in_time log (Some (WriteTo x v)) failed = refl
ending_in_time log (Some (WriteTo x v)) lost = refl
ending_in_time log (Some (ReadOf x)) (answer value) = refl
ending_in_time log (Some (ReadOf x)) nothing = refl
ending_in_time log (Some (ReadOf x)) failed = refl
ending_in_time log (Some (ReadOf x)) lost = refl
ending_in_time log (Some (DeleteOf x)) (answer value) = refl
ending_in_time log (Some (DeleteOf x)) nothing = refl
ending_in_time log (Some (DeleteOf x)) failed = refl
ending_in_time log (Some (DeleteOf x)) lost = refl

said_in_time : (log : Log) (pending : Option ClientCall) (said : Said) → (with_said log pending said).in_time ≡ log.in_time
said_in_time log pending (start key value) = refl
said_in_time log pending (begin client call) = call_in_time (with_client log client) call
said_in_time log pending (end client ending) = ending_in_time (with_client log client) pending ending
said_in_time log pending ordered = refl

pushed_some : {X : Type 0} (xs : List X) (x : X) → xs ++ x ∷ [] ≢ []
pushed_some [] x is = absurd cc
pushed_some (y ∷ xs) x is = absurd cc

-- after an event the order of time is not said
event_settles : (n : ℕ) (a b log : Log) (line : List ℕ) → a.in_time ≡ false → AddsEvent n a line b → Extends b log → log.in_time ≡ false
event_settles n a b log line untold adds extends =
    let events : b.events ≡ (with_said a adds.pending adds.said).events ++ adds.event ∷ [] = ap (λ (l : Log). l.events) adds.added in
    let some : b.events ≢ [] = λ none. pushed_some (with_said a adds.pending adds.said).events adds.event (sym events ∙ none) in
    extends.settled some ∙ ap (λ (l : Log). l.in_time) adds.added ∙ said_in_time a adds.pending adds.said ∙ untold

both_clash : (b : Bool) → b ≡ true → b ≡ false → ⊥
both_clash b so untold = true≢false (sym so ∙ untold)

-- ---- where it is said, the first line says it

record FirstSays (bytes : List ℕ) : Type 0 where
  before : List (List ℕ)
  line : List ℕ
  more : List ℕ
  whole : bytes ≡ ended_lines before ++ (line ++ more)
  free : All IsFree before
  line_free : IsFree line
  ends : (more ≡ []) ⊎ ((m : List ℕ) × (more ≡ 10 ∷ m))
  blanks : AreBlank before
  full : IsFull line
  value : Data
  json : IsJson line value
  form : said_at value ≡ Some ordered

-- the last line
last_says : (n : ℕ) (a log : Log) (rest : List ℕ) (torn : Bool) → MayOrder a → EndsBy n a rest torn log → IsFree rest → log.in_time ≡ true → FirstSays rest
last_says n a log rest true may ends free so = absurd (both_clash log.in_time so (ap (λ (l : Log). l.in_time) ends.1 ∙ may.1))
last_says n a log rest false may (inl blank) free so = absurd (both_clash log.in_time so (ap (λ (l : Log). l.in_time) blank.2 ∙ may.1))
last_says n a log rest false may (inr (inl adds)) free so = absurd (both_clash log.in_time so (event_settles n a log log rest may.1 adds (extends-same log)))
last_says n a log rest false may (inr (inr says)) free so = record {
  before = [];
  line = rest;
  more = [];
  whole = sym (append-nil rest);
  free = All-nil IsFree;
  line_free = free;
  ends = inl refl;
  blanks = All-nil (λ (l : List ℕ). is_blank l ≡ true);
  full = says.full;
  value = says.value;
  json = says.json;
  form = says.form;
}

later_says : (line bytes : List ℕ) → IsFree line → is_blank line ≡ true → FirstSays bytes → FirstSays (line ++ 10 ∷ bytes)
later_says line bytes free blank later = record {
  before = line ∷ later.before;
  line = later.line;
  more = later.more;
  whole = ap (λ (l : List ℕ). line ++ 10 ∷ l) later.whole ∙ sym (append_assoc line (10 ∷ ended_lines later.before) (later.line ++ later.more));
  free = All-cons IsFree line later.before free later.free;
  line_free = later.line_free;
  ends = later.ends;
  blanks = All-cons (λ (l : List ℕ). is_blank l ≡ true) line later.before blank later.blanks;
  full = later.full;
  value = later.value;
  json = later.json;
  form = later.form;
}

first_says : (n k : ℕ) (a b log : Log) (lines : List (List ℕ)) (rest : List ℕ) (torn : Bool) → MayOrder a → Follow n a lines b → EndsBy k b rest torn log → All IsFree lines
    → IsFree rest → log.in_time ≡ true → FirstSays (ended_lines lines ++ rest)
unfolding Follow
first_says n k a b log [] rest torn may same ends free rest_free so =
    last_says k a log rest torn may (subst (λ (l : Log). EndsBy k l rest torn log) same ends) rest_free so
first_says n k a b log (line ∷ lines) rest torn may (mid, inl blank, follow) ends free rest_free so =
    let later = first_says (n + 1) k mid b log lines rest torn (subst MayOrder (sym blank.2) may) follow ends (All-tail IsFree line lines free) rest_free so in
    subst FirstSays (sym (append_assoc line (10 ∷ ended_lines lines) rest))
    (later_says line (ended_lines lines ++ rest) (All-head IsFree line lines free) blank.1 later)
first_says n k a b log (line ∷ lines) rest torn may (mid, inr (inl adds), follow) ends free rest_free so =
    let extends = extends-more mid b log (follow_extends (n + 1) mid lines b follow) (ends_extends k b rest torn log ends) in
    absurd (both_clash log.in_time so (event_settles n a mid log line may.1 adds extends))
first_says n k a b log (line ∷ lines) rest torn may (mid, inr (inr says), follow) ends free rest_free so = record {
  before = [];
  line = line;
  more = 10 ∷ (ended_lines lines ++ rest);
  whole = append_assoc line (10 ∷ ended_lines lines) rest;
  free = All-nil IsFree;
  line_free = All-head IsFree line lines free;
  ends = inr (ended_lines lines ++ rest, refl);
  blanks = All-nil (λ (l : List ℕ). is_blank l ≡ true);
  full = says.full;
  value = says.value;
  json = says.json;
  form = says.form;
}

pub order_first : (text : List ℕ) (log : Log) (torn : Bool) → IsLogOf text log torn → log.in_time ≡ true → SaysOrderFirst text
order_first text log torn of so =
    let first = first_says 1 (length of.lines + 1) no_log of.before log of.lines of.rest torn (refl, refl) of.begins.follow of.ends of.begins.free of.rest_free so in
    record {
      number = length first.before + 1;
      line = first.line;
      is_line = record {
        before = first.before;
        rest = first.more;
        whole = of.begins.whole ∙ first.whole;
        free = first.free;
        line_free = first.line_free;
        ends = first.ends;
        is_number = refl;
      };
      after_blanks = first.blanks;
      full = first.full;
      value = first.value;
      json = first.json;
      form = first.form;
    }

-- ---- where the first line says it, it is said

blank_left : (n : ℕ) (a : Log) (line : List ℕ) (b : Log) → Takes n a line b → is_blank line ≡ true → b ≡ a
blank_left n a line b (inl left) blank = left.2
blank_left n a line b (inr (inl adds)) blank = absurd (both_clash (is_blank line) blank adds.full.1)
blank_left n a line b (inr (inr says)) blank = absurd (both_clash (is_blank line) blank says.full.1)

module _ (line : List ℕ) (full : IsFull line) (d : Data) (json : IsJson line d) (form : said_at d ≡ Some ordered) where
  says_takes : (n : ℕ) (a b : Log) → MayOrder a → Takes n a line b → b.in_time ≡ true
  says_takes n a b may (inl blank) = absurd (both_clash (is_blank line) blank.1 full.1)
  says_takes n a b may (inr (inl adds)) =
      absurd (order_clash n a line b (with_order a) adds (record { full = full; value = d; json = json; form = form; follows = may; added = refl }))
  says_takes n a b may (inr (inr says)) = ap (λ (l : Log). l.in_time) says.added

  says_ends : (n : ℕ) (a b : Log) (torn : Bool) → MayOrder a → EndsBy n a line torn b → b.in_time ≡ true
  says_ends n a b true may ends = absurd (ends.0.1 d json)
  says_ends n a b false may ends = says_takes n a b may ends

  -- the last line
  says_last : (n : ℕ) (a b : Log) (rest more : List ℕ) (torn : Bool) → MayOrder a → EndsBy n a rest torn b → IsFree rest → rest ≡ line ++ more
      → (more ≡ []) ⊎ ((m : List ℕ) × (more ≡ 10 ∷ m)) → b.in_time ≡ true
  says_last n a b rest more torn may ends free whole (inl none) =
      let same : rest ≡ line = whole ∙ ap (λ (m : List ℕ). line ++ m) none ∙ append-nil line in
      says_ends n a b torn may (subst (λ (l : List ℕ). EndsBy n a l torn b) same ends)
  says_last n a b rest more torn may ends free whole (inr (m, feed)) =
      absurd (free_clash rest line m free (whole ∙ ap (λ (x : List ℕ). line ++ x) feed))

  -- a line that a line feed ends
  says_next : (n : ℕ) (a b : Log) (next bytes more : List ℕ) → MayOrder a → Takes n a next b → IsFree next → IsFree line → next ++ 10 ∷ bytes ≡ line ++ more
      → (more ≡ []) ⊎ ((m : List ℕ) × (more ≡ 10 ∷ m)) → b.in_time ≡ true
  says_next n a b next bytes more may takes free line_free whole (inl none) =
      absurd (free_clash line next bytes line_free (sym (append-nil line) ∙ ap (λ (m : List ℕ). line ++ m) (sym none) ∙ sym whole))
  says_next n a b next bytes more may takes free line_free whole (inr (m, feed)) =
      let same = same_line next line bytes m free line_free (whole ∙ ap (λ (x : List ℕ). line ++ x) feed) in
      says_takes n a b may (subst (λ (l : List ℕ). Takes n a l b) same.0 takes)

  says_all : (n k : ℕ) (a b log : Log) (lines before : List (List ℕ)) (rest more : List ℕ) (torn : Bool) → MayOrder a → Follow n a lines b → EndsBy k b rest torn log
      → All IsFree lines → IsFree rest → All IsFree before → IsFree line → AreBlank before → ended_lines lines ++ rest ≡ ended_lines before ++ (line ++ more)
      → (more ≡ []) ⊎ ((m : List ℕ) × (more ≡ 10 ∷ m)) → log.in_time ≡ true
  unfolding Follow
  says_all n k a b log [] [] rest more torn may same ends free rest_free before_free line_free blanks whole feed =
      says_last k a log rest more torn may (subst (λ (l : Log). EndsBy k l rest torn log) same ends) rest_free whole feed
  says_all n k a b log [] (x ∷ xs) rest more torn may same ends free rest_free before_free line_free blanks whole feed =
      absurd (free_clash rest x (ended_lines xs ++ (line ++ more)) rest_free (whole ∙ append_assoc x (10 ∷ ended_lines xs) (line ++ more)))
  says_all n k a b log (l ∷ ls) [] rest more torn may (mid, takes, follow) ends free rest_free before_free line_free blanks whole feed =
      let so : mid.in_time ≡ true =
      says_next n a mid l (ended_lines ls ++ rest) more may takes (All-head IsFree l ls free) line_free (sym (append_assoc l (10 ∷ ended_lines ls) rest) ∙ whole) feed in
      let extends = extends-more mid b log (follow_extends (n + 1) mid ls b follow) (ends_extends k b rest torn log ends) in
      extends.in_time so
  says_all n k a b log (l ∷ ls) (x ∷ xs) rest more torn may (mid, takes, follow) ends free rest_free before_free line_free blanks whole feed =
      let both : l ++ 10 ∷ (ended_lines ls ++ rest) ≡ x ++ 10 ∷ (ended_lines xs ++ (line ++ more)) =
      sym (append_assoc l (10 ∷ ended_lines ls) rest) ∙ whole ∙ append_assoc x (10 ∷ ended_lines xs) (line ++ more) in
      let same = same_line l x (ended_lines ls ++ rest) (ended_lines xs ++ (line ++ more)) (All-head IsFree l ls free) (All-head IsFree x xs before_free) both in
      let blank = All-head (λ (z : List ℕ). is_blank z ≡ true) x xs blanks in
      let left : mid ≡ a = blank_left n a l mid takes (ap is_blank same.0 ∙ blank) in
      says_all (n + 1) k mid b log ls xs rest more torn (subst MayOrder (sym left) may) follow ends (All-tail IsFree l ls free) rest_free (All-tail IsFree x xs before_free)
      line_free (All-tail (λ (z : List ℕ). is_blank z ≡ true) x xs blanks) same.1 feed

pub first_order : (text : List ℕ) (log : Log) (torn : Bool) → IsLogOf text log torn → SaysOrderFirst text → log.in_time ≡ true
first_order text log torn of first =
    says_all first.line first.full first.value first.json first.form 1 (length of.lines + 1) no_log of.before log of.lines first.is_line.before of.rest first.is_line.rest torn
    (refl, refl) of.begins.follow of.ends of.begins.free of.rest_free first.is_line.free first.is_line.line_free first.after_blanks
    (sym of.begins.whole ∙ first.is_line.whole) first.is_line.ends
