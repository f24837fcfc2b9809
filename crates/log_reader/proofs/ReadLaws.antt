-- What was read of a text, line by line.
use Rattle.std.proofs.Common.{inl, ◌≡◌, ◌≢◌, ◌==◌, ◌<◌, ◌≤◌, ◌+◌, ℕ, zero, suc, Bool, true, false, List, [], ◌∷◌, ◌++◌, length, take, Option, Some, None, refl, sym, ap, subst, ◌∙◌, arith, append_assoc, eqb-true, eq-eqb, true≢false}
use Rattle.std.specs.Prelude.{IfSome}
use Rattle.std.specs.Io.KnownBytes.{Consumes, IsAtEnd}
use Rattle.std.proofs.KnownBytes.{Consumes-nil, Consumes-trans, Consumes-whole}
use Rattle.std.proofs.lemmas.List.{append-nil, length-append, length_push, take-append-le}
use Rattle.std.proofs.lemmas.List.Elements.{All-cons, All-head, All-nil, All-tail}
use Rattle.json_lines.specs.LineReaders.{BeginsLong}
use Rattle.log_reader.specs.BookSteps.{IsLineFault, IsRestFault}
use Rattle.log_reader.specs.Logs.{BeginsBy, EndsBy, EndsLine, IsFree, IsLogOf, IsRefused, IsRefusedLog, Log, Takes, no_log}
use Rattle.log_reader.specs.Readings.{Extends, FaultsAt, FaultsFor, HasRead, Reading}
use Rattle.log_reader.specs.ReadSteps.{Reads, ReadsAll, ReadsLine, ReadsMore}
use Rattle.log_reader.specs.declared.limits.TheConstants.{MAX_LINE_BYTES}
use Rattle.log_reader.specs.declared.log_fault.LogFault.{LogFault}
use Rattle.log_reader.specs.declared.log_fault.LogFault.TheVariants.{Refused, Memory, Read}
use Rattle.log_reader.specs.declared.progress.Progress.{Progress}
use Rattle.log_reader.specs.declared.progress.Progress.TheVariants.{More, End}
use Rattle.log_reader.specs.declared.refusal.Reason.TheVariants.{NotJson, TooLong}
use Rattle.log_reader.specs.declared.refusal.Refusal.{Refusal}
use Rattle.log_reader.proofs.BookLaws.{extends-more, extends-same}
use Rattle.log_reader.proofs.LogSteps.{begins-more, begins-nothing, begins-push}

abbrev pub reading : Log → List ℕ → ℕ → Reading
reading log held count = record { log = log; held = held; count = count }

read-nothing : HasRead [] (reading no_log [] 0)
read-nothing = record { lines = []; begins = begins-nothing; count = refl }

pub read-begun : (log : Log) (held : List ℕ) → log ≡ no_log → held ≡ [] → HasRead [] (reading log held 0)
read-begun log held log_is held_is =
    subst (λ (bytes : List ℕ). HasRead [] (reading log bytes 0)) (sym held_is) (subst (λ (l : Log). HasRead [] (reading l [] 0)) (sym log_is) read-nothing)

-- ---- known bytes

-- what is said of a text and what a source has still, with bytes taken from it before
pub some_later : (P : List ℕ → Type 0) (before mid : Option (List ℕ)) (text taken : List ℕ) → Consumes before mid taken
    → IfSome mid (λ bytes. P ((text ++ taken) ++ bytes)) → IfSome before (λ bytes. P (text ++ bytes))
some_later P None mid text taken consumed later = tt
some_later P (Some xs) None text taken consumed later = absurd consumed
some_later P (Some xs) (Some ys) text taken consumed later =
    subst P (append_assoc text taken ys ∙ ap (λ l. text ++ l) (sym consumed)) later

pub some_always : (P : List ℕ → Type 0) (known : Option (List ℕ)) → ((bytes : List ℕ) → P bytes) → IfSome known P
some_always P None always = tt
some_always P (Some bytes) always = always bytes

some_by : (P Q : List ℕ → Type 0) (known : Option (List ℕ)) → ((bytes : List ℕ) → P bytes → Q bytes) → IfSome known P → IfSome known Q
some_by P Q None step first = tt
some_by P Q (Some bytes) step first = step bytes first

-- ---- faults

-- a text is refused at the line after those that have this log
abbrev pub RefusedAfter : Log → List ℕ → Refusal → Type 0
RefusedAfter log text refusal = (refused : IsRefusedLog text refusal) × (refused.before ≡ log)

faults_after : (log : Log) (text : List ℕ) (refusal : Refusal) → RefusedAfter log text refusal → FaultsFor (length log.events + 1) log text (Refused refusal)
faults_after log text refusal (refused, same) =
    let events : length refused.before.events ≡ length log.events = ap (λ (l : Log). length l.events) same in (
      refused,
      subst (λ (l : Log). Extends log l) (sym same) (extends-same log),
      omega arith,
    )

faults_earlier : (fewer most : ℕ) (old mid : Log) (text : List ℕ) (fault : LogFault) → fewer ≤ most → Extends old mid → FaultsFor fewer mid text fault
    → FaultsFor most old text fault
faults_earlier fewer most old mid text (Refused refusal) few extends (refused, grows, below) =
    (refused, extends-more old mid refused.before extends grows, omega arith)
faults_earlier fewer most old mid text Memory few extends fault = tt
faults_earlier fewer most old mid text Read few extends fault = tt

-- ---- one line

module _ (text taken : List ℕ) (log : Log) (held : List ℕ) (count : ℕ) (has : HasRead text (reading log held count)) where
  pub taken_more : BeginsBy (text ++ taken) has.lines log (held ++ taken)
  taken_more = begins-more text has.lines log held taken has.begins

  pub line_read : (line rest : List ℕ) (after : Log) → held ++ taken ≡ line ++ 10 ∷ rest → IsFree line → Takes (count + 1) log line after
      → HasRead (text ++ taken) (reading after rest (count + 1))
  line_read line rest after is free takes =
      let begins = subst (λ (l : List ℕ). BeginsBy (text ++ taken) has.lines log l) is taken_more in
      let at : count + 1 ≡ 1 + length has.lines = omega (arith, has.count) in
      record {
        lines = has.lines ++ line ∷ [];
        begins = begins-push (text ++ taken) has.lines log after line rest begins free (subst (λ (n : ℕ). Takes n log line after) at takes);
        count = omega (arith, has.count, length_push has.lines line);
      }

  number_is : (refusal : Refusal) → refusal.line ≡ count + 1 → refusal.line ≡ length has.lines + 1
  number_is refusal is = omega (arith, is, has.count)

  pub line_refused : (line rest more : List ℕ) (refusal : Refusal) → held ++ taken ≡ line ++ 10 ∷ rest → IsFree line → refusal.line ≡ count + 1
      → IsRefused log line refusal.reason → RefusedAfter log ((text ++ taken) ++ more) refusal
  line_refused line rest more refusal is free number refused = (
    record {
      lines = has.lines;
      line = line;
      rest = 10 ∷ (rest ++ more);
      before = log;
      begins =
          subst (λ (l : List ℕ). BeginsBy ((text ++ taken) ++ more) has.lines log l) (ap (λ l. l ++ more) is ∙ append_assoc line (10 ∷ rest) more)
          (begins-more (text ++ taken) has.lines log (held ++ taken) more taken_more);
      line_free = free;
      ends = refl;
      refused = refused;
      number = number_is refusal number;
    },
    refl,
  )

  pub rest_read : (line : List ℕ) (torn : Bool) (after : Log) → held ++ taken ≡ line → IsFree line → EndsBy (count + 1) log line torn after → IsLogOf (text ++ taken) after torn
  rest_read line torn after is free ends = record {
    lines = has.lines;
    rest = line;
    before = log;
    begins = subst (λ (l : List ℕ). BeginsBy (text ++ taken) has.lines log l) is taken_more;
    rest_free = free;
    ends = subst (λ (n : ℕ). EndsBy n log line torn after) (omega (arith, has.count)) ends;
  }

  pub rest_refused : (line : List ℕ) (refusal : Refusal) → held ++ taken ≡ line → IsFree line → refusal.line ≡ count + 1 → refusal.reason ≢ NotJson
      → IsRefused log line refusal.reason → RefusedAfter log (text ++ taken) refusal
  rest_refused line refusal is free number other refused = (
    record {
      lines = has.lines;
      line = line;
      rest = [];
      before = log;
      begins = subst (λ (l : List ℕ). BeginsBy (text ++ taken) has.lines log l) (is ∙ sym (append-nil line)) taken_more;
      line_free = free;
      ends = other;
      refused = refused;
      number = number_is refusal number;
    },
    refl,
  )

-- ---- a line that is too long

-- the first line of some bytes, with so many bytes at least
record FirstLine (bytes : List ℕ) (n : ℕ) : Type 0 where
  line : List ℕ
  rest : List ℕ
  whole : bytes ≡ line ++ rest
  free : IsFree line
  ends : EndsLine TooLong rest
  long : n ≤ length line

no_json_too_long : TooLong ≢ NotJson
no_json_too_long is = absurd cc

first_by : (b : ℕ) (bytes : List ℕ) (feed : Bool) → (b == 10) ≡ feed → FirstLine bytes 0 → FirstLine (b ∷ bytes) 0
first_by b bytes true is first = record { line = []; rest = b ∷ bytes; whole = refl; free = All-nil (λ c. c ≢ 10); ends = eqb-true b 10 is; long = omega arith }
first_by b bytes false is first = record {
  line = b ∷ first.line;
  rest = first.rest;
  whole = ap (λ l. b ∷ l) first.whole;
  free = All-cons (λ c. c ≢ 10) b first.line (λ feed. true≢false (sym (eq-eqb b 10 feed) ∙ is)) first.free;
  ends = first.ends;
  long = omega arith;
}

first_any : (bytes : List ℕ) → FirstLine bytes 0
first_any [] = record { line = []; rest = []; whole = refl; free = All-nil (λ c. c ≢ 10); ends = no_json_too_long; long = omega arith }
first_any (b ∷ bytes) = first_by b bytes (b == 10) refl (first_any bytes)

first_long : (n : ℕ) (bytes : List ℕ) → n ≤ length bytes → IsFree (take n bytes) → FirstLine bytes n
first_long zero bytes enough free = first_any bytes
first_long (suc n) [] enough free = absurd (omega arith)
first_long (suc n) (b ∷ bytes) enough free =
    let other : b ≢ 10 = All-head (λ c. c ≢ 10) b (take n bytes) free in
    let first = first_long n bytes (omega arith) (All-tail (λ c. c ≢ 10) b (take n bytes) free) in
    record {
      line = b ∷ first.line;
      rest = first.rest;
      whole = ap (λ l. b ∷ l) first.whole;
      free = All-cons (λ c. c ≢ 10) b first.line other first.free;
      ends = first.ends;
      long = let l = first.long in omega arith;
    }

module _ (text taken : List ℕ) (log : Log) (held : List ℕ) (count : ℕ) (has : HasRead text (reading log held count)) where
  long_by : (bytes more : List ℕ) (n : ℕ) (refusal : Refusal) → held ++ taken ≡ bytes → MAX_LINE_BYTES < n → FirstLine (bytes ++ more) n
      → refusal ≡ record { reason = TooLong; line = count + 1 } → RefusedAfter log ((text ++ taken) ++ more) refusal
  long_by bytes more n refusal is over first same =
      let begins = begins-more (text ++ taken) has.lines log (held ++ taken) more (taken_more text taken log held count has) in
      let split : (held ++ taken) ++ more ≡ first.line ++ first.rest = ap (λ l. l ++ more) is ∙ first.whole in
      let long = first.long in
      subst (λ (r : Refusal). RefusedAfter log ((text ++ taken) ++ more) r) (sym same) (
        record {
          lines = has.lines;
          line = first.line;
          rest = first.rest;
          before = log;
          begins = subst (λ (l : List ℕ). BeginsBy ((text ++ taken) ++ more) has.lines log l) split begins;
          line_free = first.free;
          ends = first.ends;
          refused = omega arith;
          number = omega (arith, has.count);
        },
        refl,
      )

  pub long_refused : (bytes more : List ℕ) (refusal : Refusal) → held ++ taken ≡ bytes → BeginsLong MAX_LINE_BYTES bytes
      → refusal ≡ record { reason = TooLong; line = count + 1 } → RefusedAfter log ((text ++ taken) ++ more) refusal
  long_refused bytes more refusal is (n, over, enough, free) same =
      let still : IsFree (take n (bytes ++ more)) = subst IsFree (sym (take-append-le n bytes more enough)) free in
      let within : n ≤ length (bytes ++ more) = omega (arith, enough, length-append bytes more) in
      long_by bytes more n refusal is over (first_long n (bytes ++ more) within still) same

-- ---- faults at a line

faults_memory : (most : ℕ) (log : Log) (text : List ℕ) (known : Option (List ℕ)) → IfSome known (λ bytes. FaultsFor most log (text ++ bytes) Memory)
faults_memory most log text known = some_always (λ bytes. FaultsFor most log (text ++ bytes) Memory) known (λ _. tt)

module _ (before mid : Option (List ℕ)) (taken : List ℕ) (consumed : Consumes before mid taken) (log : Log) (held : List ℕ) (count : ℕ) where
  pub line_fault : (line rest : List ℕ) (fault : LogFault) → held ++ taken ≡ line ++ 10 ∷ rest → IsFree line → IsLineFault log line (count + 1) fault
      → FaultsAt (length log.events + 1) before (reading log held count) fault
  line_fault line rest (Refused refusal) is free (number, refused) text has =
      some_later (λ bytes. FaultsFor (length log.events + 1) log bytes (Refused refusal)) before mid text taken consumed
      (some_always (λ bytes. FaultsFor (length log.events + 1) log ((text ++ taken) ++ bytes) (Refused refusal)) mid
      (λ more. faults_after log ((text ++ taken) ++ more) refusal
      (line_refused text taken log held count has line rest more refusal is free number refused)))
  line_fault line rest Memory is free fault text has = faults_memory (length log.events + 1) log text before
  line_fault line rest Read is free fault text has = absurd fault

  pub long_fault : (bytes : List ℕ) (fault : LogFault) → held ++ taken ≡ bytes → BeginsLong MAX_LINE_BYTES bytes
      → fault ≡ Refused (record { reason = TooLong; line = count + 1 }) → FaultsAt (length log.events + 1) before (reading log held count) fault
  long_fault bytes fault is long same =
      let refusal : Refusal = record { reason = TooLong; line = count + 1 } in
      subst (λ (f : LogFault). FaultsAt (length log.events + 1) before (reading log held count) f) (sym same)
      (λ text has. some_later (λ all. FaultsFor (length log.events + 1) log all (Refused refusal)) before mid text taken consumed
      (some_always (λ more. FaultsFor (length log.events + 1) log ((text ++ taken) ++ more) (Refused refusal)) mid
      (λ more. faults_after log ((text ++ taken) ++ more) refusal (long_refused text taken log held count has bytes more refusal is long refl))))

  pub rest_fault : (line : List ℕ) (fault : LogFault) → IsAtEnd mid → held ++ taken ≡ line → IsFree line → IsRestFault log line (count + 1) fault
      → FaultsAt (length log.events + 1) before (reading log held count) fault
  rest_fault line (Refused refusal) end is free (number, other, refused) text has =
      Consumes-whole before mid taken (λ bytes. FaultsFor (length log.events + 1) log (text ++ bytes) (Refused refusal)) consumed end
      (faults_after log (text ++ taken) refusal (rest_refused text taken log held count has line refusal is free number other refused))
  rest_fault line Memory end is free fault text has = faults_memory (length log.events + 1) log text before
  rest_fault line Read end is free fault text has = absurd fault

  -- ---- what was read

  pub reads_line : (line rest : List ℕ) (after : Log) (new : Reading) → held ++ taken ≡ line ++ 10 ∷ rest → IsFree line → Takes (count + 1) log line after
      → new ≡ reading after rest (count + 1) → ReadsMore before mid (reading log held count) new
  reads_line line rest after new is free takes same =
      subst (λ (r : Reading). ReadsMore before mid (reading log held count) r) (sym same)
      (λ text has. (taken, consumed, line_read text taken log held count has line rest after is free takes))

  pub reads_rest : (line : List ℕ) (torn : Bool) (new : Reading) → IsAtEnd mid → held ++ taken ≡ line → IsFree line → EndsBy (count + 1) log line torn new.log
      → ReadsAll before mid (reading log held count) new torn
  reads_rest line torn new end is free ends = record {
    end = end;
    log = λ text has.
        Consumes-whole before mid taken (λ bytes. IsLogOf (text ++ bytes) new.log torn) consumed end
        (rest_read text taken log held count has line torn new.log is free ends);
  }

  blank_rest : EndsBy (count + 1) log [] false log
  blank_rest = inl (omega arith, refl, refl)

  pub reads_end : (new : Reading) → IsAtEnd mid → held ++ taken ≡ [] → new.log ≡ log → ReadsAll before mid (reading log held count) new false
  reads_end new end is same =
      reads_rest [] false new end is (All-nil (λ b. b ≢ 10)) (subst (λ (l : Log). EndsBy (count + 1) log [] false l) (sym same) blank_rest)

-- ---- several lines

pub more_more : (a b c : Option (List ℕ)) (old mid new : Reading) → ReadsMore a b old mid → ReadsMore b c mid new → ReadsMore a c old new
more_more a b c old mid new first second text has =
    let step = first text has in
    let last = second (text ++ step.0) step.2 in
    (step.0 ++ last.0, Consumes-trans a b c step.0 last.0 step.1 last.1, subst (λ (l : List ℕ). HasRead l new) (append_assoc text step.0 last.0) last.2)

pub more_none : (a : Option (List ℕ)) (old : Reading) → ReadsMore a a old old
more_none a old text has = ([], Consumes-nil a, subst (λ (l : List ℕ). HasRead l old) (sym (append-nil text)) has)

pub more_all : (a b c : Option (List ℕ)) (old mid new : Reading) (torn : Bool) → ReadsMore a b old mid → ReadsAll b c mid new torn → ReadsAll a c old new torn
more_all a b c old mid new torn first last = record {
  end = last.end;
  log = λ text has.
      let step = first text has in
      some_later (λ bytes. IsLogOf bytes new.log torn) a b text step.0 step.1 (last.log (text ++ step.0) step.2);
}

pub more_fault : (fewer most : ℕ) (a b : Option (List ℕ)) (old mid : Reading) (fault : LogFault) → fewer ≤ most → Extends old.log mid.log → ReadsMore a b old mid
    → FaultsAt fewer b mid fault → FaultsAt most a old fault
more_fault fewer most a b old mid fault few extends first last text has =
    let step = first text has in
    some_later (λ bytes. FaultsFor most old.log bytes fault) a b text step.0 step.1
    (some_by (λ bytes. FaultsFor fewer mid.log ((text ++ step.0) ++ bytes) fault) (λ bytes. FaultsFor most old.log ((text ++ step.0) ++ bytes) fault) b
    (λ bytes at. faults_earlier fewer most old.log mid.log ((text ++ step.0) ++ bytes) fault few extends at) (last (text ++ step.0) step.2))

pub line_reads : (a b : Option (List ℕ)) (old new : Reading) (p : Progress) → ReadsLine a b old new (Some p) → Reads a b old new p
line_reads a b old new More line = absurd line
line_reads a b old new (End torn) line = line

pub more_reads : (a b c : Option (List ℕ)) (old mid new : Reading) (p : Progress) → ReadsMore a b old mid → Reads b c mid new p → Reads a c old new p
more_reads a b c old mid new More first last = more_more a b c old mid new first last
more_reads a b c old mid new (End torn) first last = more_all a b c old mid new torn first last
